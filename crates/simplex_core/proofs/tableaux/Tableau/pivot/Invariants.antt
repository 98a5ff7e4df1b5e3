use Rattle.std.proofs.Common.{◌≡◌}
use Rattle.simplex_core.proofs.tableaux.Tableau.pivot.Given as goal

abbrev pub invariant-loop-i : goal.invariant-loop-i
invariant-loop-i l = l.self ≡ l.fn.self
