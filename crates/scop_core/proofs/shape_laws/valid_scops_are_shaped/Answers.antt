use Rattle.scop_core.proofs.ScopShapes.{scops_are_shaped}
use Rattle.scop_core.proofs.shape_laws.valid_scops_are_shaped.Goals as goal

pub returns : goal.returns
returns c = scops_are_shaped
