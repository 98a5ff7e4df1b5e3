use Rattle.std.proofs.Common.{◌≡◌, ◌+◌, ◌++◌, drop, length}
use Rattle.std.specs.Vec.Iter.{into_iter_items}
use Rattle.elim_core.specs.Pruning.{marked}
use Rattle.elim_core.proofs.normalising.keep_marked.Given as goal

abbrev pub invariant-loop-w : goal.invariant-loop-w
invariant-loop-w g l = record {
  left : l.kept.items ++ marked (into_iter_items l.w-iterator) (drop l.k l.stays) ≡ marked l.fn.tableau.rows l.stays;
  count : l.k + length (into_iter_items l.w-iterator) ≡ length l.stays;
}
