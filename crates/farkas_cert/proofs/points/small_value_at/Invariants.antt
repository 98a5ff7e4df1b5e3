use Rattle.std.proofs.Common.{◌≡◌, drop}
use Rattle.std.specs.Prelude.{◌+ℤ◌}
use Rattle.row_core.specs.Rows.{dot}
use Rattle.farkas_cert.proofs.points.small_value_at.Given as goal

abbrev pub invariant-loop-k : goal.invariant-loop-k
invariant-loop-k l = l.value +ℤ dot (drop l.k l.entries) (drop l.k l.point) ≡ dot l.entries l.point
