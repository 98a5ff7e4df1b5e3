use Rattle.chlore_recover.proofs.Taken.{level_script_is_taken as law}
use Rattle.chlore_recover.proofs.laws.level_script_is_taken.Goals as goal

pub returns : goal.returns
returns c = law
