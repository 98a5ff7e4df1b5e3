use Rattle.edit_laws.proofs.Brought.{scripts_edit_values}
use Rattle.edit_laws.proofs.laws.scripts_edit_values.Goals as goal

pub returns : goal.returns
returns c = scripts_edit_values
