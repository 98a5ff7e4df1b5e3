use Rattle.beta_trails.proofs.Sorted.{sorted_tree_is_trail as law}
use Rattle.beta_trails.proofs.laws.sorted_tree_is_trail.Goals as goal

pub returns : goal.returns
returns c = law
