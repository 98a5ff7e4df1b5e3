use Rattle.scop_data.proofs.Orders.{before_trans}
use Rattle.scop_data.proofs.laws.before_is_transitive.Goals as goal

pub returns : goal.returns
returns c = before_trans
