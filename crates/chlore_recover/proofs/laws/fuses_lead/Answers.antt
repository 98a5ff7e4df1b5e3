use Rattle.chlore_recover.proofs.Joins.{fuses_lead as law}
use Rattle.chlore_recover.proofs.laws.fuses_lead.Goals as goal

pub returns : goal.returns
returns c = law
