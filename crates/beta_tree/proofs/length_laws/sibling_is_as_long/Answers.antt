use Rattle.beta_tree.proofs.Lengths.{sibling_is_as_long}
use Rattle.beta_tree.proofs.length_laws.sibling_is_as_long.Goals as goal

pub returns : goal.returns
returns c = sibling_is_as_long
