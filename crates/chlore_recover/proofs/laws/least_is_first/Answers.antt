use Rattle.chlore_recover.proofs.Wide.{first_is_least, none_is_wide}
use Rattle.chlore_recover.proofs.laws.least_is_first.Goals as goal

pub returns : goal.returns
returns c = (first_is_least, none_is_wide)
