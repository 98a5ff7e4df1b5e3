use Rattle.std.proofs.Common.{◌≡◌, ◌+◌, drop}
use Rattle.std.specs.Prelude.{◌+ℤ◌}
use Rattle.row_core.specs.Rows.{dot}
use Rattle.farkas_cert.specs.Points.{dot_weight}
use Rattle.farkas_cert.proofs.points.sum_at.Given as goal

abbrev pub invariant-loop-k : goal.invariant-loop-k
invariant-loop-k l = record {
  value : l.sum.value +ℤ dot (drop l.k l.entries) (drop l.k l.point) ≡ dot l.entries l.point;
  weight : l.sum.weight + dot_weight (drop l.k l.entries) (drop l.k l.point) ≡ dot_weight l.entries l.point;
}
