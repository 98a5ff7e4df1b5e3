use Rattle.std.proofs.Common.{◌++◌, arith}
use Rattle.std.specs.List.{flat_map}
use Rattle.scop_core.specs.Layouts.{statement_layout}
use Rattle.scop_writer.proofs.Pieces.{more_pieces}
use Rattle.scop_writer.proofs.scop_texts.print_statements.Goals as goal

pub loop-statement-preserved : goal.loop-statement-preserved
loop-statement-preserved c =
    more_pieces (statement_layout c.shape-parameters.result.parameters) c.statements-statements.result.now
    c.loop-statement.statement-index c.statement-item.result
    (c.args.text.now ++ flat_map (statement_layout c.shape-parameters.result.parameters) c.statements-statements.result.now)
    c.loop-statement.text c.print_statement.new.text (omega arith) c.statement-item.is c.loop-statement.invariant
    c.in_ok-print_statement.ensures
