use Rattle.beta_trails.proofs.Ranked.{apart_is_ranked as law}
use Rattle.beta_trails.proofs.laws.apart_is_ranked.Goals as goal

pub returns : goal.returns
returns c = law
