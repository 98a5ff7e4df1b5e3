use Rattle.std.proofs.Common.{◌≡◌, ◌≤◌, ◌++◌, drop}
use Rattle.elim_core.specs.Elimination.{crossed, crossed_weight}
use Rattle.elim_core.proofs.projections.cross_all.Given as goal

abbrev pub invariant-loop-k : goal.invariant-loop-k
invariant-loop-k g l = record {
  left : l.made.items ++ crossed l.j (drop l.k l.tableau.rows) l.tableau.rows ≡ crossed l.j l.tableau.rows l.tableau.rows;
  weight : crossed_weight l.j (drop l.k l.tableau.rows) l.tableau.rows ≤ crossed_weight l.j l.tableau.rows l.tableau.rows;
}
