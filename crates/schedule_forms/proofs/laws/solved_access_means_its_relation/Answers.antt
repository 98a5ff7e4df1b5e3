use Rattle.schedule_forms.proofs.SolvedMeanings.{access_means}
use Rattle.schedule_forms.proofs.laws.solved_access_means_its_relation.Goals as goal

pub returns : goal.returns
returns c = access_means
