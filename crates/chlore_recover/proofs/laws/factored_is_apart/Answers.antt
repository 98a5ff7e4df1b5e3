use Rattle.chlore_recover.proofs.Factors.{factored_is_apart as law}
use Rattle.chlore_recover.proofs.laws.factored_is_apart.Goals as goal

pub returns : goal.returns
returns c = law
