use Rattle.scop_data.proofs.RunOrders.{precedes_is_earlier}
use Rattle.scop_data.proofs.run_laws.precedes_is_before.Goals as goal

pub returns : goal.returns
returns c = precedes_is_earlier
