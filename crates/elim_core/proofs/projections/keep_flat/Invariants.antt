use Rattle.std.proofs.Common.{◌≡◌, ◌++◌}
use Rattle.std.specs.Vec.Iter.{into_iter_items}
use Rattle.elim_core.specs.Elimination.{flat_rows}
use Rattle.elim_core.specs.RowLists.{AllRows, Wide}
use Rattle.elim_core.proofs.projections.keep_flat.Given as goal

abbrev pub invariant-loop-w : goal.invariant-loop-w
invariant-loop-w g l = record {
  left : l.kept.items ++ flat_rows l.j (into_iter_items l.w-iterator) ≡ flat_rows l.j l.fn.tableau.rows;
  wide : AllRows (Wide l.fn.tableau.width) (into_iter_items l.w-iterator);
}
