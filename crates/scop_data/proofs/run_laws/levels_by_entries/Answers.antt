use Rattle.scop_data.proofs.LevelOrder.{levels_by_entries}
use Rattle.scop_data.proofs.run_laws.levels_by_entries.Goals as goal

pub returns : goal.returns
returns c = levels_by_entries
