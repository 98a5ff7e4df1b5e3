use Rattle.edit_laws.proofs.Instances.{scripts_keep_instances}
use Rattle.edit_laws.proofs.laws.scripts_keep_instances.Goals as goal

pub returns : goal.returns
returns c = scripts_keep_instances
