use Rattle.std.proofs.Common.{◌≡◌, ◌++◌, drop, map}
use Rattle.beta_tree.specs.Edits.{reordered}
use Rattle.beta_tree.proofs.rebuilds.reorder_all.Given as goal

abbrev pub invariant-loop-vector : goal.invariant-loop-vector
invariant-loop-vector l = l.made ++ map (reordered l.prefix l.order) (drop l.vector-index l.vector-items) ≡ map (reordered l.prefix l.order) l.vectors
