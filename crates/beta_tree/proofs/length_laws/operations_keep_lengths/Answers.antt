use Rattle.beta_tree.proofs.Lengths.{operations_keep_lengths}
use Rattle.beta_tree.proofs.length_laws.operations_keep_lengths.Goals as goal

pub returns : goal.returns
returns c = operations_keep_lengths
