use Rattle.beta_trails.proofs.Boundaries.{fission_parts as law}
use Rattle.beta_trails.proofs.laws.fission_parts.Goals as goal

pub returns : goal.returns
returns c = law
