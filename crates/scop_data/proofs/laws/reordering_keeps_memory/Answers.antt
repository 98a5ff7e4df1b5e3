use Rattle.scop_data.proofs.RunLaws.{reordering}
use Rattle.scop_data.proofs.laws.reordering_keeps_memory.Goals as goal

pub returns : goal.returns
returns c = reordering
