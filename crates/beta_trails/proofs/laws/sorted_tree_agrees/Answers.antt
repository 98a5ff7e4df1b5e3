use Rattle.beta_trails.proofs.Sorted.{sorted_tree_agrees as law}
use Rattle.beta_trails.proofs.laws.sorted_tree_agrees.Goals as goal

pub returns : goal.returns
returns c = law
