use Rattle.scop_data.proofs.DenseRuns.{dense_keeps_runs}
use Rattle.scop_data.proofs.run_laws.dense_keeps_runs.Goals as goal

pub returns : goal.returns
returns c = dense_keeps_runs
