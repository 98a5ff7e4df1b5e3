use Rattle.scop_data.proofs.RunOrders.{run_exists}
use Rattle.scop_data.proofs.run_laws.run_exists.Goals as goal

pub returns : goal.returns
returns c = run_exists
