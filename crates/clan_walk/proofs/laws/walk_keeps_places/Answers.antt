use Rattle.clan_walk.proofs.Ends.{walk_keeps_places}
use Rattle.clan_walk.proofs.laws.walk_keeps_places.Goals as goal

pub returns : goal.returns
returns c = walk_keeps_places
