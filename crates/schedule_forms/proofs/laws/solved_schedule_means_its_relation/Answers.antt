use Rattle.schedule_forms.proofs.SolvedMeanings.{schedule_means}
use Rattle.schedule_forms.proofs.laws.solved_schedule_means_its_relation.Goals as goal

pub returns : goal.returns
returns c = schedule_means
