use Rattle.std.proofs.Common.{◌≡◌, drop}
use Rattle.chlore_recover.specs.Triangles.{is_zero}
use Rattle.schedule_recovery.proofs.rows.is_zero.Given as goal

abbrev pub invariant-loop-value : goal.invariant-loop-value
invariant-loop-value l = is_zero (drop l.value-index l.row) ≡ is_zero l.row
