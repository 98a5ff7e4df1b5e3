use Rattle.dependence_blocks.proofs.Kept.{kept_hold_conflicts}
use Rattle.dependence_blocks.proofs.laws.kept_systems_hold_conflicts.Goals as goal

pub returns : goal.returns
returns c = kept_hold_conflicts
