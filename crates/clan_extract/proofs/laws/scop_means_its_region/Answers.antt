use Rattle.clan_extract.proofs.Meanings.{scop_means}
use Rattle.clan_extract.proofs.laws.scop_means_its_region.Goals as goal

pub returns : goal.returns
returns c = scop_means
