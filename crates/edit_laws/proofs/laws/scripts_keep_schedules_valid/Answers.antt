use Rattle.edit_laws.proofs.Runs.{scripts_keep_schedules_valid}
use Rattle.edit_laws.proofs.laws.scripts_keep_schedules_valid.Goals as goal

pub returns : goal.returns
returns c = scripts_keep_schedules_valid
