use Rattle.chlore_recover.proofs.Rises.{ordered_rises as law}
use Rattle.chlore_recover.proofs.laws.ordered_rises.Goals as goal

pub returns : goal.returns
returns c = law
