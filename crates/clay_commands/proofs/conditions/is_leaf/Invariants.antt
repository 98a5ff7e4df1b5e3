use Rattle.std.proofs.Common.{◌≡◌, drop}
use Rattle.beta_tree.specs.Vectors.{is_leaf}
use Rattle.clay_commands.specs.Drafts.{betas_of}
use Rattle.clay_commands.proofs.conditions.is_leaf.Given as goal

abbrev pub invariant-loop-leaf : goal.invariant-loop-leaf
invariant-loop-leaf l = is_leaf l.prefix (betas_of (drop l.leaf-index l.leaves)) ≡ is_leaf l.prefix (betas_of l.leaves)
