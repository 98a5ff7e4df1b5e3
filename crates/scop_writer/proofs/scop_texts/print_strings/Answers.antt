use Rattle.std.specs.Prelude.{codes}
use Rattle.scop_core.specs.Layouts.{names_line}
use Rattle.scop_writer.proofs.Pieces.{three_pieces}
use Rattle.scop_writer.proofs.scop_texts.print_strings.Goals as goal

pub returns : goal.returns
returns c =
    rw (c.in_ok-print_line.ensures, c.in_ok-print_names.ensures, c.in_ok-push_bytes.ensures.ok)
    (three_pieces c.args.text.now (codes "1\n<strings>\n") (names_line c.args.names.now) (codes "</strings>\n"))
