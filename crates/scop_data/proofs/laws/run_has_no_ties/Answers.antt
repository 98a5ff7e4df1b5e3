use Rattle.scop_data.proofs.RunLaws.{no_ties}
use Rattle.scop_data.proofs.laws.run_has_no_ties.Goals as goal

pub returns : goal.returns
returns c = no_ties
