use Rattle.clan_extract.proofs.Loops.{loops_run}
use Rattle.clan_extract.proofs.laws.loops_run_as_long_as.Goals as goal

pub returns : goal.returns
returns c = loops_run
