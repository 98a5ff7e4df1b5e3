use Rattle.chlore_recover.proofs.Members.{leaves_are_led as law}
use Rattle.chlore_recover.proofs.laws.leaves_are_led.Goals as goal

pub returns : goal.returns
returns c = law
