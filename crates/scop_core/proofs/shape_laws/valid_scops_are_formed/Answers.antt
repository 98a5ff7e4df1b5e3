use Rattle.scop_core.proofs.ScopShapes.{scops_are_formed}
use Rattle.scop_core.proofs.shape_laws.valid_scops_are_formed.Goals as goal

pub returns : goal.returns
returns c = scops_are_formed
