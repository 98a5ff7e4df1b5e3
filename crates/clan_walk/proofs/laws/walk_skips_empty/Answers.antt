use Rattle.clan_walk.proofs.Skips.{walk_skips_empty}
use Rattle.clan_walk.proofs.laws.walk_skips_empty.Goals as goal

pub returns : goal.returns
returns c = walk_skips_empty
