use Rattle.chlore_recover.proofs.Levels.{script_recovers_levels as law}
use Rattle.chlore_recover.proofs.laws.script_recovers_levels.Goals as goal

pub returns : goal.returns
returns c = law
