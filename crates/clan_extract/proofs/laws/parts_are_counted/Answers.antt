use Rattle.clan_extract.proofs.Counts.{parts_are_counted}
use Rattle.clan_extract.proofs.laws.parts_are_counted.Goals as goal

pub returns : goal.returns
returns c = parts_are_counted
