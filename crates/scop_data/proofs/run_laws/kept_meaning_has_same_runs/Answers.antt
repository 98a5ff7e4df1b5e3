use Rattle.scop_data.proofs.DenseRuns.{kept_meaning_has_same_runs}
use Rattle.scop_data.proofs.run_laws.kept_meaning_has_same_runs.Goals as goal

pub returns : goal.returns
returns c = kept_meaning_has_same_runs
