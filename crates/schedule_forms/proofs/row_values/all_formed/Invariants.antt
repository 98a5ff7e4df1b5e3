use Rattle.std.proofs.Common.{◌≡◌, drop}
use Rattle.schedule_forms.specs.SolvedForm.{are_formed}
use Rattle.schedule_forms.proofs.row_values.all_formed.Given as goal

abbrev pub invariant-loop-i : goal.invariant-loop-i
invariant-loop-i l = are_formed l.shape (drop l.i l.part.rows) ≡ are_formed l.shape l.part.rows
