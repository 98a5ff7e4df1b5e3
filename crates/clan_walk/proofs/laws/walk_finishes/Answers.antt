use Rattle.clan_walk.proofs.Ends.{walk_finishes}
use Rattle.clan_walk.proofs.laws.walk_finishes.Goals as goal

pub returns : goal.returns
returns c = walk_finishes
