use Rattle.scop_core.proofs.AssemblableData.{data_reads_back}
use Rattle.scop_core.proofs.shape_laws.assemblable_data_reads_back.Goals as goal

pub returns : goal.returns
returns c = data_reads_back
