use Rattle.scop_data.proofs.RunLaws.{commute}
use Rattle.scop_data.proofs.laws.steps_commute.Goals as goal

pub returns : goal.returns
returns c = commute
