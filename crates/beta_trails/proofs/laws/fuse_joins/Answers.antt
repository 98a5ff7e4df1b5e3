use Rattle.beta_trails.proofs.Boundaries.{fuse_joins as law}
use Rattle.beta_trails.proofs.laws.fuse_joins.Goals as goal

pub returns : goal.returns
returns c = law
