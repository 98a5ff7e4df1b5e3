use Rattle.edit_laws.proofs.Brought.{runs_have_edited_instances}
use Rattle.edit_laws.proofs.laws.runs_have_edited_instances.Goals as goal

pub returns : goal.returns
returns c = runs_have_edited_instances
