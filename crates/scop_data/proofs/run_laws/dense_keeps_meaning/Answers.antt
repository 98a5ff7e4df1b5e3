use Rattle.scop_data.proofs.DenseRuns.{dense_keeps_meaning}
use Rattle.scop_data.proofs.run_laws.dense_keeps_meaning.Goals as goal

pub returns : goal.returns
returns c = dense_keeps_meaning
