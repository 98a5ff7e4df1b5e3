use Rattle.scop_data.proofs.LevelOrder.{before_is_at_a_level}
use Rattle.scop_data.proofs.run_laws.before_is_at_a_level.Goals as goal

pub returns : goal.returns
returns c = before_is_at_a_level
