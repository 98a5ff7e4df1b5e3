use Rattle.scop_data.proofs.RunOrders.{same_events_give_one_memory}
use Rattle.scop_data.proofs.run_laws.same_events_give_one_memory.Goals as goal

pub returns : goal.returns
returns c = same_events_give_one_memory
