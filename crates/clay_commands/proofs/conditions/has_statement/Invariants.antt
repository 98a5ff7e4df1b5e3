use Rattle.std.proofs.Common.{◌≡◌, drop}
use Rattle.beta_tree.specs.Vectors.{no_statement}
use Rattle.clay_commands.specs.Drafts.{betas_of}
use Rattle.clay_commands.proofs.conditions.has_statement.Given as goal

abbrev pub invariant-loop-leaf : goal.invariant-loop-leaf
invariant-loop-leaf l = no_statement l.prefix (betas_of (drop l.leaf-index l.leaves)) ≡ no_statement l.prefix (betas_of l.leaves)
