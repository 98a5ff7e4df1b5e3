use Rattle.scop_data.proofs.RunLaws.{kept_conflicts}
use Rattle.scop_data.proofs.laws.kept_conflicts_keep_memory.Goals as goal

pub returns : goal.returns
returns c = kept_conflicts
