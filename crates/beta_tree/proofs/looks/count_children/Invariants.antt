use Rattle.std.proofs.Common.{◌≡◌, drop, max}
use Rattle.beta_tree.specs.Vectors.{heads, under}
use Rattle.beta_tree.proofs.Counts.{past_greatest}
use Rattle.beta_tree.proofs.looks.count_children.Given as goal

abbrev pub invariant-loop-vector : goal.invariant-loop-vector
invariant-loop-vector l = max l.count (past_greatest (heads (under l.prefix (drop l.vector-index l.vector-items)))) ≡ past_greatest (heads (under l.prefix l.vectors))
