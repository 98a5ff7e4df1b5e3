use Rattle.std.proofs.Common.{◌≡◌, ◌++◌, drop, map}
use Rattle.std.specs.List.{flat_map}
use Rattle.beta_tree.specs.Vectors.{AllFit}
use Rattle.beta_tree.specs.Edits.{below, make_room, leaf_split}
use Rattle.beta_tree.proofs.rebuilds.split_leaves.Given as goal

abbrev pub invariant-loop-vector : goal.invariant-loop-vector
invariant-loop-vector l = record {
  done : l.made ++ flat_map (leaf_split l.leaf) (drop l.vector-index l.vector-items) ≡ flat_map (leaf_split l.leaf) l.vectors;
  fit : AllFit (map (below l.siblings (make_room l.p)) (drop l.vector-index l.vector-items));
}
