use Rattle.scop_data.proofs.LevelOrder.{schedules_order_at_a_level}
use Rattle.scop_data.proofs.run_laws.schedules_order_at_a_level.Goals as goal

pub returns : goal.returns
returns c = schedules_order_at_a_level
