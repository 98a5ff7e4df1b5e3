use Rattle.scop_core.proofs.KeptLimits.{keeps_limits}
use Rattle.scop_core.proofs.laws.limits_are_kept.Goals as goal

pub returns : goal.returns
returns c = keeps_limits
