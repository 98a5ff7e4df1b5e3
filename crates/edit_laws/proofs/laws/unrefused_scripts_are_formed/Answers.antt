use Rattle.edit_laws.proofs.Unrefused.{unrefused_scripts_are_formed}
use Rattle.edit_laws.proofs.laws.unrefused_scripts_are_formed.Goals as goal

pub returns : goal.returns
returns c = unrefused_scripts_are_formed
