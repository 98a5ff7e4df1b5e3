use Rattle.beta_trails.proofs.Firsts.{first_is_parted_at_one as law}
use Rattle.beta_trails.proofs.laws.first_is_parted_at_one.Goals as goal

pub returns : goal.returns
returns c = law
