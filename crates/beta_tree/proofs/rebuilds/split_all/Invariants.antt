use Rattle.std.proofs.Common.{◌≡◌, ◌++◌, drop, map}
use Rattle.beta_tree.specs.Vectors.{AllFit}
use Rattle.beta_tree.specs.Edits.{below, split_loop}
use Rattle.beta_tree.proofs.rebuilds.split_all.Given as goal

abbrev pub invariant-loop-vector : goal.invariant-loop-vector
invariant-loop-vector l = record {
  done : l.made ++ map (below l.siblings (split_loop l.p l.first)) (drop l.vector-index l.vector-items) ≡ map (below l.siblings (split_loop l.p l.first)) l.vectors;
  fit : AllFit (map (below l.siblings (split_loop l.p l.first)) (drop l.vector-index l.vector-items));
}
