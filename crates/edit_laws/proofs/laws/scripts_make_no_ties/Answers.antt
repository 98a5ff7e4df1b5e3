use Rattle.edit_laws.proofs.Instances.{scripts_make_no_ties}
use Rattle.edit_laws.proofs.laws.scripts_make_no_ties.Goals as goal

pub returns : goal.returns
returns c = scripts_make_no_ties
