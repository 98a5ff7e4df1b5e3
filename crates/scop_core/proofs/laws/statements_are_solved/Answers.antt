use Rattle.scop_core.proofs.ReadBackPieces.{statements_solved}
use Rattle.scop_core.proofs.laws.statements_are_solved.Goals as goal

pub returns : goal.returns
returns c = statements_solved
