use Rattle.std.proofs.Common.{◌≡◌}
use Rattle.simplex_core.proofs.pivots.raise_all.Given as goal

abbrev pub invariant-loop : goal.invariant-loop
invariant-loop l = l.tableau ≡ l.fn.tableau
