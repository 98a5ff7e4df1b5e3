use Rattle.chlore_recover.proofs.Unrefused.{suited_is_unrefused as law}
use Rattle.chlore_recover.proofs.laws.suited_is_unrefused.Goals as goal

pub returns : goal.returns
returns c = law
