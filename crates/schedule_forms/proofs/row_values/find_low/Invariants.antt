use Rattle.std.proofs.Common.{◌≡◌, drop}
use Rattle.std.specs.Prelude.{count_by}
use Rattle.schedule_forms.specs.SolvedForm.{is_low_row, first_row}
use Rattle.schedule_forms.proofs.row_values.find_low.Given as goal

abbrev pub invariant-loop-i : goal.invariant-loop-i
invariant-loop-i l = record {
  first : first_row (is_low_row l.shape l.k) (drop l.i l.part.rows) ≡ first_row (is_low_row l.shape l.k) l.part.rows;
  count : count_by (is_low_row l.shape l.k) (drop l.i l.part.rows) ≡ count_by (is_low_row l.shape l.k) l.part.rows;
}
