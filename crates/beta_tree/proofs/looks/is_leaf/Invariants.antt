use Rattle.std.proofs.Common.{◌≡◌, drop}
use Rattle.beta_tree.specs.Vectors.{is_leaf}
use Rattle.beta_tree.proofs.looks.is_leaf.Given as goal

abbrev pub invariant-loop-vector : goal.invariant-loop-vector
invariant-loop-vector l = is_leaf l.prefix (drop l.vector-index l.vector-items) ≡ is_leaf l.prefix l.vectors
