use Rattle.dependence_systems.proofs.Pairs.{systems_hold_ordered_pairs}
use Rattle.dependence_systems.proofs.laws.systems_hold_ordered_pairs.Goals as goal

pub returns : goal.returns
returns c = systems_hold_ordered_pairs
