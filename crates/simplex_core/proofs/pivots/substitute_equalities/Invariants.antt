use Rattle.std.proofs.Common.{◌≡◌}
use Rattle.simplex_core.proofs.pivots.substitute_equalities.Given as goal

abbrev pub invariant-loop-i : goal.invariant-loop-i
invariant-loop-i l = l.tableau ≡ l.fn.tableau
