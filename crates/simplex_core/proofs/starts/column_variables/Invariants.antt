use Rattle.std.proofs.Common.{◌≡◌, length}
use Rattle.simplex_core.proofs.starts.column_variables.Given as goal

abbrev pub invariant-loop-j : goal.invariant-loop-j
invariant-loop-j l = length l.made.items ≡ l.j
