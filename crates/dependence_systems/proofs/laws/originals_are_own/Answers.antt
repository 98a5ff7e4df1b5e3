use Rattle.dependence_systems.proofs.ScopPairs.{originals_are_own}
use Rattle.dependence_systems.proofs.laws.originals_are_own.Goals as goal

pub returns : goal.returns
returns c = originals_are_own
