use Rattle.std.proofs.Common.{◌≡◌, ◌+◌, drop}
use Rattle.std.specs.Prelude.{if◌then◌else◌}
use Rattle.schedule_forms.specs.SolvedForm.{weight}
use Rattle.schedule_forms.proofs.row_roles.is_unit.Given as goal

abbrev pub invariant-loop-coeff : goal.invariant-loop-coeff
invariant-loop-coeff l = (if l.found then 1 else 0) + weight (drop l.coeff-index l.coeffs) ≡ weight l.coeffs
