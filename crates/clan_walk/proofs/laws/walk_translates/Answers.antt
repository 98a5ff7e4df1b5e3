use Rattle.clan_walk.proofs.Ends.{walk_translates}
use Rattle.clan_walk.proofs.laws.walk_translates.Goals as goal

pub returns : goal.returns
returns c = walk_translates
