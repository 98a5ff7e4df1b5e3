use Rattle.std.proofs.Common.{◌≡◌, ◌++◌, drop}
use Rattle.std.specs.List.{flat_map}
use Rattle.scop_core.specs.ScopData.{arrays_of}
use Rattle.scop_core.specs.Layouts.{array_line}
use Rattle.scop_writer.proofs.scop_texts.print_array_lines.Given as goal

abbrev pub invariant-loop-k : goal.invariant-loop-k
invariant-loop-k l =
    l.text ++ flat_map array_line (drop l.k (arrays_of l.scop)) ≡ l.fn.text ++ flat_map array_line (arrays_of l.scop)
