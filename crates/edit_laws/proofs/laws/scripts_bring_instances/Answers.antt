use Rattle.edit_laws.proofs.Brought.{scripts_bring_instances}
use Rattle.edit_laws.proofs.laws.scripts_bring_instances.Goals as goal

pub returns : goal.returns
returns c = scripts_bring_instances
