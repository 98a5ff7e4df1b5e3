use Rattle.clan_walk.proofs.Skips.{walk_stays_closed}
use Rattle.clan_walk.proofs.laws.walk_stays_closed.Goals as goal

pub returns : goal.returns
returns c = walk_stays_closed
