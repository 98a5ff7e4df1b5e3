use Rattle.beta_tree.proofs.Lengths.{level_adds_one}
use Rattle.beta_tree.proofs.length_laws.level_adds_one.Goals as goal

pub returns : goal.returns
returns c = level_adds_one
