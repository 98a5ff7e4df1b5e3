use Rattle.std.proofs.Common.{◌≡◌, drop}
use Rattle.schedule_forms.specs.SolvedForm.{are_equalities}
use Rattle.schedule_forms.proofs.row_values.all_equalities.Given as goal

abbrev pub invariant-loop-i : goal.invariant-loop-i
invariant-loop-i l = are_equalities (drop l.i l.part.rows) ≡ are_equalities l.part.rows
