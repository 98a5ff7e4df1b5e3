use Rattle.std.proofs.Common.{◌≡◌, ◌≤◌, ◌+◌, drop}
use Rattle.elim_core.specs.RowLists.{positives, negatives}
use Rattle.elim_core.proofs.projections.is_too_many.Given as goal

abbrev pub invariant-loop-k : goal.invariant-loop-k
invariant-loop-k g l = record {
  rising : l.rising + positives l.j (drop l.k l.tableau.rows) ≡ positives l.j l.tableau.rows;
  falling : l.falling + negatives l.j (drop l.k l.tableau.rows) ≡ negatives l.j l.tableau.rows;
  few : l.rising + l.falling ≤ l.k;
}
