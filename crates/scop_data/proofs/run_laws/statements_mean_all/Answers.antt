use Rattle.scop_data.proofs.AlikeRuns.{statements_mean_all}
use Rattle.scop_data.proofs.run_laws.statements_mean_all.Goals as goal

pub returns : goal.returns
returns c = statements_mean_all
