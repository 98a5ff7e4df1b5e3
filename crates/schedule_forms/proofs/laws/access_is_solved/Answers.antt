use Rattle.schedule_forms.proofs.SolvedPieces.{access_is_solved}
use Rattle.schedule_forms.proofs.laws.access_is_solved.Goals as goal

pub returns : goal.returns
returns c = access_is_solved
