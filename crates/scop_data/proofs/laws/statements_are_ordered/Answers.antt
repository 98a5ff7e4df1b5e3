use Rattle.scop_data.proofs.Stamps.{statements_ordered}
use Rattle.scop_data.proofs.laws.statements_are_ordered.Goals as goal

pub returns : goal.returns
returns c = statements_ordered
