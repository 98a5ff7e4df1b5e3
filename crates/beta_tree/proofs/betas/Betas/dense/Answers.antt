use Rattle.beta_tree.proofs.Dense.{dense_tree}
use Rattle.beta_tree.proofs.betas.Betas.dense.Goals as goal

pub invariant_of-result : goal.invariant_of-result
invariant_of-result c = rw c.in_ok-numbered.ensures (dense_tree _ c.requires.few c.requires.filled c.requires.free)

pub returns-clause-tree : goal.returns-clause-tree
returns-clause-tree c = rw c.in_ok-numbered.ensures (dense_tree _ c.requires.few c.requires.filled c.requires.free)
