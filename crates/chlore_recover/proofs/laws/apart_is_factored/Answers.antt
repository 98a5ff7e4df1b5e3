use Rattle.chlore_recover.proofs.Factors.{apart_is_factored as law}
use Rattle.chlore_recover.proofs.laws.apart_is_factored.Goals as goal

pub returns : goal.returns
returns c = law
