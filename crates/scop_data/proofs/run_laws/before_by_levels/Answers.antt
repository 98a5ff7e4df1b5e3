use Rattle.scop_data.proofs.LevelOrder.{before_by_levels}
use Rattle.scop_data.proofs.run_laws.before_by_levels.Goals as goal

pub returns : goal.returns
returns c = before_by_levels
