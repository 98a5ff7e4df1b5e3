use Rattle.std.proofs.Common.{◌≡◌, ◌++◌, drop}
use Rattle.std.specs.List.{flat_map}
use Rattle.scop_core.specs.Layouts.{line}
use Rattle.scop_writer.proofs.line_texts.print_lines.Given as goal

abbrev pub invariant-loop-bytes : goal.invariant-loop-bytes
invariant-loop-bytes l = l.text ++ flat_map line (drop l.bytes-index l.lines) ≡ l.fn.text ++ flat_map line l.lines
