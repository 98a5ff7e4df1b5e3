use Rattle.clan_extract.proofs.NameRoles.{one_role}
use Rattle.clan_extract.proofs.laws.names_have_one_role.Goals as goal

pub returns : goal.returns
returns c = one_role
