use Rattle.chlore_recover.proofs.Decisions.{unrefused_can_recover as law}
use Rattle.chlore_recover.proofs.laws.unrefused_can_recover.Goals as goal

pub returns : goal.returns
returns c = law
