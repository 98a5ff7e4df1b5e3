use Rattle.schedule_forms.proofs.ReadBackSolved.{schedule_reads_back}
use Rattle.schedule_forms.proofs.laws.schedule_reads_back.Goals as goal

pub returns : goal.returns
returns c = schedule_reads_back
