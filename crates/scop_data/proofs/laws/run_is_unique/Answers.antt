use Rattle.scop_data.proofs.RunLaws.{run_unique}
use Rattle.scop_data.proofs.laws.run_is_unique.Goals as goal

pub returns : goal.returns
returns c = run_unique
