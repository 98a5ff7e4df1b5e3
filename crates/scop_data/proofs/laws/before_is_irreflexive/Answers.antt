use Rattle.scop_data.proofs.Orders.{before_irreflexive}
use Rattle.scop_data.proofs.laws.before_is_irreflexive.Goals as goal

pub returns : goal.returns
returns c = before_irreflexive
