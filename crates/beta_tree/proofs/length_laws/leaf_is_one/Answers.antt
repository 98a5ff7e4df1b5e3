use Rattle.beta_tree.proofs.Lengths.{leaf_is_one}
use Rattle.beta_tree.proofs.length_laws.leaf_is_one.Goals as goal

pub returns : goal.returns
returns c = leaf_is_one
