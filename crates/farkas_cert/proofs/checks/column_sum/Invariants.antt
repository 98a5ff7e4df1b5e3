use Rattle.std.proofs.Common.{◌≡◌, ◌<◌, ◌+◌, ◌^◌, drop}
use Rattle.std.specs.Prelude.{◌+ℤ◌}
use Rattle.relation_core.specs.Points.{column, column_weight}
use Rattle.farkas_cert.proofs.checks.column_sum.Given as goal

abbrev pub invariant-loop-i : goal.invariant-loop-i
invariant-loop-i l = record {
  value : l.sum.value +ℤ column (drop l.i l.multipliers) (drop l.i l.system.rows) l.k ≡ column l.multipliers l.system.rows l.k;
  weight : l.sum.weight + column_weight (drop l.i l.multipliers) (drop l.i l.system.rows) l.k ≡ column_weight l.multipliers l.system.rows l.k;
  light : l.sum.weight < 2 ^ 127;
}
