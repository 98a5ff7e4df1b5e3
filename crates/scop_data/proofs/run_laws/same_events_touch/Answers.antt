use Rattle.scop_data.proofs.RunOrders.{same_events_touch}
use Rattle.scop_data.proofs.run_laws.same_events_touch.Goals as goal

pub returns : goal.returns
returns c = same_events_touch
