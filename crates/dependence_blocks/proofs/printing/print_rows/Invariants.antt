use Rattle.std.proofs.Common.{◌≡◌, ◌++◌, drop, map}
use Rattle.relation_core.specs.Layouts.{row_text}
use Rattle.dependence_blocks.proofs.printing.print_rows.Given as goal

abbrev pub invariant-loop-row : goal.invariant-loop-row
invariant-loop-row l = l.lines ++ map row_text (drop l.row-index l.rows) ≡ l.initial.lines ++ map row_text l.rows
