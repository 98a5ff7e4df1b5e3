use Rattle.scop_data.proofs.DenseRuns.{dense_keeps_schedules_valid}
use Rattle.scop_data.proofs.run_laws.dense_keeps_schedules_valid.Goals as goal

pub returns : goal.returns
returns c = dense_keeps_schedules_valid
