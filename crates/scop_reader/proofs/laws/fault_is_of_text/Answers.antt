use Rattle.scop_reader.proofs.FaultPieces.{fault_is_of_text_law}
use Rattle.scop_reader.proofs.laws.fault_is_of_text.Goals as goal

pub returns : goal.returns
returns c = fault_is_of_text_law
