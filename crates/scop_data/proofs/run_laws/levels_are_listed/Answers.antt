use Rattle.scop_data.proofs.LevelOrder.{levels_are_listed}
use Rattle.scop_data.proofs.run_laws.levels_are_listed.Goals as goal

pub returns : goal.returns
returns c = levels_are_listed
