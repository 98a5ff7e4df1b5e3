use Rattle.std.proofs.Common.{◌≡◌, length}
use Rattle.simplex_core.proofs.starts.row_variables.Given as goal

abbrev pub invariant-loop-i : goal.invariant-loop-i
invariant-loop-i l = length l.made.items ≡ l.i
