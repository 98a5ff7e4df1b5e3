use Rattle.schedule_forms.proofs.ReadBackSolved.{access_reads_back}
use Rattle.schedule_forms.proofs.laws.access_reads_back.Goals as goal

pub returns : goal.returns
returns c = access_reads_back
