use Rattle.clan_extract.proofs.Meanings.{scop_names}
use Rattle.clan_extract.proofs.laws.scop_has_its_names.Goals as goal

pub returns : goal.returns
returns c = scop_names
