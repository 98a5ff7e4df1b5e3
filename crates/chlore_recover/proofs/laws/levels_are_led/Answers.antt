use Rattle.chlore_recover.proofs.Leveled.{levels_are_led as law}
use Rattle.chlore_recover.proofs.laws.levels_are_led.Goals as goal

pub returns : goal.returns
returns c = law
