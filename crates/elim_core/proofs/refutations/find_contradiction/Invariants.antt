use Rattle.std.proofs.Common.{◌≡◌, drop}
use Rattle.elim_core.specs.Elimination.{refutation_of}
use Rattle.elim_core.proofs.refutations.find_contradiction.Given as goal

abbrev pub invariant-loop-k : goal.invariant-loop-k
invariant-loop-k g l = refutation_of l.tableau.variables (drop l.k l.tableau.rows) ≡ refutation_of l.tableau.variables l.tableau.rows
