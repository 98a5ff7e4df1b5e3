use Rattle.chlore_recover.proofs.Awaits.{all_levels_are_led as law}
use Rattle.chlore_recover.proofs.laws.all_levels_are_led.Goals as goal

pub returns : goal.returns
returns c = law
