use Rattle.std.proofs.Common.{◌≡◌, ◌++◌, drop}
use Rattle.dependence_systems.specs.Systems.{placed_rows}
use Rattle.dependence_systems.proofs.placing.push_placed_rows.Given as goal

abbrev pub invariant-loop-k : goal.invariant-loop-k
invariant-loop-k l = record {
  shape : l.part.shape ≡ l.fn.part.shape;
  rows : l.part.rows ++ placed_rows l.topic l.w (drop l.k l.rows) ≡ l.fn.part.rows ++ placed_rows l.topic l.w l.rows;
}
