use Rattle.beta_trails.proofs.Dense.{trail_is_tree as law}
use Rattle.beta_trails.proofs.laws.trail_is_tree.Goals as goal

pub returns : goal.returns
returns c = law
