use Rattle.beta_tree.proofs.Lengths.{entries_are_few}
use Rattle.beta_tree.proofs.length_laws.entries_are_few.Goals as goal

pub returns : goal.returns
returns c = entries_are_few
