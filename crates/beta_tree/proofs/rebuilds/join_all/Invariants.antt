use Rattle.std.proofs.Common.{◌≡◌, ◌++◌, drop, map}
use Rattle.beta_tree.specs.Vectors.{AllFit}
use Rattle.beta_tree.specs.Edits.{below, join_loops}
use Rattle.beta_tree.proofs.rebuilds.join_all.Given as goal

abbrev pub invariant-loop-vector : goal.invariant-loop-vector
invariant-loop-vector l = record {
  done : l.made ++ map (below l.siblings (join_loops l.p l.count)) (drop l.vector-index l.vector-items) ≡ map (below l.siblings (join_loops l.p l.count)) l.vectors;
  fit : AllFit (map (below l.siblings (join_loops l.p l.count)) (drop l.vector-index l.vector-items));
}
