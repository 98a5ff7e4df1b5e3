use Rattle.beta_tree.proofs.Kept.{leaf_keeps_order as law}
use Rattle.beta_tree.proofs.laws.leaf_keeps_order.Goals as goal

pub returns : goal.returns
returns c = law
