use Rattle.beta_tree.proofs.Kept.{fission_keeps_order as law}
use Rattle.beta_tree.proofs.laws.fission_keeps_order.Goals as goal

pub returns : goal.returns
returns c = law
