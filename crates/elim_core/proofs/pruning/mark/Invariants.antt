use Rattle.std.proofs.Common.{◌≡◌, drop, length}
use Rattle.std.specs.BTreeMap.{get}
use Rattle.std.specs.Ordering.{nat_cmp}
use Rattle.elim_core.specs.Elimination.{with_variables, pruned_onto, normalised}
use Rattle.elim_core.specs.Pruning.{marked, IsIndexed}
use Rattle.elim_core.proofs.pruning.mark.Given as goal

abbrev pub invariant-loop-k : goal.invariant-loop-k
invariant-loop-k g l = record {
  left : pruned_onto l.tableau.variables (marked l.tableau.rows l.marks.stays.items) (with_variables l.tableau.variables (drop l.k l.tableau.rows)) ≡ normalised l.tableau.variables l.tableau.rows;
  count : length l.marks.stays.items ≡ l.k;
  indexed : IsIndexed l.tableau.variables l.tableau.rows l.marks.stays.items (get nat_cmp l.marks.places);
}
