use Rattle.schedule_forms.proofs.SolvedPieces.{solved_is_solved}
use Rattle.schedule_forms.proofs.laws.scattering_is_solved.Goals as goal

pub returns : goal.returns
returns c = solved_is_solved
