use Rattle.std.proofs.Common.{◌≡◌, ◌≤◌, ◌++◌, drop}
use Rattle.elim_core.specs.Elimination.{against, against_weight}
use Rattle.elim_core.proofs.projections.cross_with.Given as goal

abbrev pub invariant-loop-k : goal.invariant-loop-k
invariant-loop-k g l = record {
  left : l.made.items ++ against l.j l.p (drop l.k l.tableau.rows) ≡ l.initial.made.items ++ against l.j l.p l.tableau.rows;
  weight : against_weight l.j l.p (drop l.k l.tableau.rows) ≤ against_weight l.j l.p l.tableau.rows;
}
