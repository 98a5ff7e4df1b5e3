use Rattle.scop_reader.proofs.FaultPieces.{fault_is_not_too_long_law}
use Rattle.scop_reader.proofs.laws.fault_is_not_too_long.Goals as goal

pub returns : goal.returns
returns c = fault_is_not_too_long_law
