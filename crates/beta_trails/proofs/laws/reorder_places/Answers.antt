use Rattle.beta_trails.proofs.Ranked.{reorder_places as law}
use Rattle.beta_trails.proofs.laws.reorder_places.Goals as goal

pub returns : goal.returns
returns c = law
