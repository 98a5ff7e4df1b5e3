use Rattle.chlore_recover.proofs.Orders.{reorder_leads as law}
use Rattle.chlore_recover.proofs.laws.reorder_leads.Goals as goal

pub returns : goal.returns
returns c = law
