use Rattle.chlore_recover.proofs.Apart.{splits_leave_alone as law}
use Rattle.chlore_recover.proofs.laws.splits_leave_alone.Goals as goal

pub returns : goal.returns
returns c = law
