use Rattle.scop_core.proofs.AssemblableData.{scops_are_assemblable}
use Rattle.scop_core.proofs.shape_laws.valid_scops_are_assemblable.Goals as goal

pub returns : goal.returns
returns c = scops_are_assemblable
