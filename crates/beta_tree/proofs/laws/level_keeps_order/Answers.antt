use Rattle.beta_tree.proofs.Kept.{level_keeps_order as law}
use Rattle.beta_tree.proofs.laws.level_keeps_order.Goals as goal

pub returns : goal.returns
returns c = law
