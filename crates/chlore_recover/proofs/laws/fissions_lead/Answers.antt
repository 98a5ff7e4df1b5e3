use Rattle.chlore_recover.proofs.Orders.{fissions_lead as law}
use Rattle.chlore_recover.proofs.laws.fissions_lead.Goals as goal

pub returns : goal.returns
returns c = law
