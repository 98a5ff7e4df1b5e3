use Rattle.scop_data.proofs.AlikeRuns.{meaning_is_kept_on}
use Rattle.scop_data.proofs.run_laws.meaning_is_kept_on.Goals as goal

pub returns : goal.returns
returns c = meaning_is_kept_on
