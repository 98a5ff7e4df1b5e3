use Rattle.dependence_systems.proofs.ScopPairs.{systems_hold_conflicts}
use Rattle.dependence_systems.proofs.laws.conflicts.Goals as goal

pub returns : goal.returns
returns c = systems_hold_conflicts
