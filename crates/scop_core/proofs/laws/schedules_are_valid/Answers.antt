use Rattle.scop_core.proofs.ClashFree.{valid_schedules}
use Rattle.scop_core.proofs.laws.schedules_are_valid.Goals as goal

pub returns : goal.returns
returns c = valid_schedules
