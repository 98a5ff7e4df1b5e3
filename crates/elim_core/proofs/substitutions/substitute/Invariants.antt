use Rattle.std.proofs.Common.{◌≡◌, ◌≤◌, ◌++◌}
use Rattle.std.specs.Vec.Iter.{into_iter_items}
use Rattle.elim_core.specs.Elimination.{substituted, substituted_weight}
use Rattle.elim_core.specs.RowLists.{AllRows, Wide}
use Rattle.elim_core.proofs.substitutions.substitute.Given as goal

abbrev pub invariant-loop-w : goal.invariant-loop-w
invariant-loop-w g l = record {
  left : l.made.items ++ substituted l.j l.e (into_iter_items l.w-iterator) ≡ substituted l.j l.e l.fn.tableau.rows;
  weight : substituted_weight l.j l.e (into_iter_items l.w-iterator) ≤ substituted_weight l.j l.e l.fn.tableau.rows;
  wide : AllRows (Wide l.fn.tableau.width) (into_iter_items l.w-iterator);
}
