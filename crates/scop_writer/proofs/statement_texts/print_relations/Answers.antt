use Rattle.std.proofs.Common.{◌+◌, [], ◌∷◌, length}
use Rattle.std.specs.Prelude.{codes}
use Rattle.std.specs.List.{flat_map}
use Rattle.scop_core.specs.Layouts.{number_line, relation_layout, access_layout}
use Rattle.scop_core.specs.SolvedRows.{schedule_part}
use Rattle.scop_writer.proofs.Pieces.{four_pieces}
use Rattle.scop_writer.proofs.statement_texts.print_relations.Goals as goal

pub returns : goal.returns
returns c =
    rw (c.in_ok-print_accesses.ensures, c.in_ok-print_scattering.ensures, c.in_ok-print_relation.ensures, c.in_ok-print_relation_count.ensures)
    (four_pieces c.args.text.now (number_line (length c.args.statement.now.accesses + 2))
    (relation_layout (codes "DOMAIN") c.args.statement.now.domain)
    (relation_layout (codes "SCATTERING") (schedule_part (length c.args.statement.now.body.iterators) c.args.parameters c.args.statement.now.schedule ∷ []))
    (flat_map (access_layout (length c.args.statement.now.body.iterators) c.args.parameters) c.args.statement.now.accesses))
