use Rattle.scop_data.proofs.LevelOrder.{one_vector_has_all_loops}
use Rattle.scop_data.proofs.run_laws.one_vector_has_all_loops.Goals as goal

pub returns : goal.returns
returns c = one_vector_has_all_loops
