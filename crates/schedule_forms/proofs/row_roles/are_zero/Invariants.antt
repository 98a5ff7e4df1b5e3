use Rattle.std.proofs.Common.{◌≡◌, drop}
use Rattle.schedule_forms.specs.SolvedForm.{weight}
use Rattle.schedule_forms.proofs.row_roles.are_zero.Given as goal

abbrev pub invariant-loop-coeff : goal.invariant-loop-coeff
invariant-loop-coeff l = weight (drop l.coeff-index l.coeffs) ≡ weight l.coeffs
