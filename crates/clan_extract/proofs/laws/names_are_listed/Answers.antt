use Rattle.clan_extract.proofs.NameRoles.{names_listed}
use Rattle.clan_extract.proofs.laws.names_are_listed.Goals as goal

pub returns : goal.returns
returns c = names_listed
