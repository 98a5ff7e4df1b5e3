use Rattle.std.proofs.Common.{◌≡◌, ◌≤◌, ◌^◌, ◌++◌, drop}
use Rattle.std.specs.Prelude.{◌↔◌}
use Rattle.dependence_systems.specs.Comparisons.{row_for, weights_for}
use Rattle.dependence_systems.specs.Systems.{rows_between}
use Rattle.dependence_systems.proofs.comparing.push_comparisons.Given as goal

abbrev pub invariant-loop-k : goal.invariant-loop-k
invariant-loop-k l = record {
  shape : l.part.shape ≡ l.fn.part.shape;
  rows : l.part.rows ++ rows_between (row_for l.comparison l.w) (drop l.k l.a) (drop l.k l.b) ≡ l.fn.part.rows ++ rows_between (row_for l.comparison l.w) l.a l.b;
  weight : 2 ^ 127 ≤ weights_for l.comparison (drop l.k l.a) (drop l.k l.b) ↔ 2 ^ 127 ≤ weights_for l.comparison l.a l.b;
}
