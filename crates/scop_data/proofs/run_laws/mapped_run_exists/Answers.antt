use Rattle.scop_data.proofs.MappedRuns.{mapped_run_exists}
use Rattle.scop_data.proofs.run_laws.mapped_run_exists.Goals as goal

pub returns : goal.returns
returns c = mapped_run_exists
