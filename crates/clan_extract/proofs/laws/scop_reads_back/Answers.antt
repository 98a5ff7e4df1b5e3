use Rattle.clan_extract.proofs.ReadBacks.{scop_reads_back}
use Rattle.clan_extract.proofs.laws.scop_reads_back.Goals as goal

pub returns : goal.returns
returns c = scop_reads_back
