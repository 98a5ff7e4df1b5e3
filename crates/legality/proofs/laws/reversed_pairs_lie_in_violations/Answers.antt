use Rattle.legality.proofs.ReversedPairs.{reversed_pairs}
use Rattle.legality.proofs.laws.reversed_pairs_lie_in_violations.Goals as goal

pub returns : goal.returns
returns c = reversed_pairs
