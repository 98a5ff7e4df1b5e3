use Rattle.scop_data.proofs.LevelOrder.{loops_are_common}
use Rattle.scop_data.proofs.run_laws.loops_are_common.Goals as goal

pub returns : goal.returns
returns c = loops_are_common
