use Rattle.std.proofs.Common.{◌≡◌, drop}
use Rattle.dependence_audit.specs.Readings.{read_rows}
use Rattle.dependence_audit.proofs.readings.read_rows.Given as goal

abbrev pub invariant-loop-row : goal.invariant-loop-row
invariant-loop-row l = read_rows (drop l.row-index l.rows) l.lines ≡ read_rows l.fn.rows l.fn.lines
