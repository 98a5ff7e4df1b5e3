use Rattle.scop_core.proofs.ReadBackPieces.{pieces_read_back}
use Rattle.scop_core.proofs.laws.pieces_read_back.Goals as goal

pub returns : goal.returns
returns c = pieces_read_back
