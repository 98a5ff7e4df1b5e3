use Rattle.std.proofs.Common.{◌≡◌, length}
use Rattle.row_core.proofs.numbering.empty_lists.Given as goal

abbrev pub invariant-loop-i : goal.invariant-loop-i
invariant-loop-i l = length l.made ≡ l.i
