use Rattle.std.proofs.Common.{◌≡◌, ◌++◌, drop}
use Rattle.std.specs.List.{flat_map}
use Rattle.scop_core.specs.Layouts.{statement_layout}
use Rattle.scop_writer.proofs.scop_texts.print_statements.Given as goal

abbrev pub invariant-loop-statement : goal.invariant-loop-statement
invariant-loop-statement l =
    l.text ++ flat_map (statement_layout l.parameters) (drop l.statement-index l.statements)
    ≡ l.fn.text ++ flat_map (statement_layout l.parameters) l.statements
