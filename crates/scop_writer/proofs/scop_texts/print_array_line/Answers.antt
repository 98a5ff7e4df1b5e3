use Rattle.std.proofs.Common.{◌≡◌, Some, arith}
use Rattle.std.specs.Prelude.{slice_get}
use Rattle.scop_core.specs.ScopData.{arrays_of}
use Rattle.scop_core.specs.Layouts.{array_line}
use Rattle.scop_writer.proofs.Pieces.{next_piece}
use Rattle.scop_writer.proofs.scop_texts.print_array_line.Goals as goal

pub returns-in_ok-print_array-in-Some : goal.returns-in_ok-print_array-in-Some
returns-in_ok-print_array-in-Some c =
    let e : slice_get (arrays_of c.args.scop.now) c.args.k ≡ Some (c.in-Some.array.0, c.in-Some.array.1.now) = c.in-Some.ensures in
    next_piece array_line (arrays_of c.args.scop.now) c.args.k (c.in-Some.array.0, c.in-Some.array.1.now) c.args.text.now c.print_array.new.text e c.in_ok-print_array-in-Some.ensures
