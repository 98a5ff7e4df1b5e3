use Rattle.std.proofs.Common.{◌≡◌, drop}
use Rattle.schedule_forms.specs.SolvedForm.{are_opposite}
use Rattle.schedule_forms.proofs.row_roles.is_opposite.Given as goal

abbrev pub invariant-loop-k : goal.invariant-loop-k
invariant-loop-k l = are_opposite (drop l.k l.a) (drop l.k l.b) ≡ are_opposite l.a l.b
