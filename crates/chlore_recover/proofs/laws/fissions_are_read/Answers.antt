use Rattle.chlore_recover.proofs.Parting.{fissions_are_read as law}
use Rattle.chlore_recover.proofs.laws.fissions_are_read.Goals as goal

pub returns : goal.returns
returns c = law
