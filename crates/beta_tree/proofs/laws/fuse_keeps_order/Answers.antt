use Rattle.beta_tree.proofs.Kept.{fuse_keeps_order as law}
use Rattle.beta_tree.proofs.laws.fuse_keeps_order.Goals as goal

pub returns : goal.returns
returns c = law
