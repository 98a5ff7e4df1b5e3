use Rattle.edit_laws.proofs.Runs.{scripts_keep_runs}
use Rattle.edit_laws.proofs.laws.scripts_keep_runs.Goals as goal

pub returns : goal.returns
returns c = scripts_keep_runs
