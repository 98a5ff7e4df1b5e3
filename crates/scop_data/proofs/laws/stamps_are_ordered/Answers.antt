use Rattle.scop_data.proofs.Stamps.{stamps_ordered}
use Rattle.scop_data.proofs.laws.stamps_are_ordered.Goals as goal

pub returns : goal.returns
returns c = stamps_ordered
