use Rattle.std.proofs.Common.{◌≡◌, ◌≤◌, ◌^◌, ◌++◌, drop}
use Rattle.std.specs.Prelude.{◌↔◌}
use Rattle.row_core.specs.Rows.{combined, combined_weight}
use Rattle.row_core.proofs.arithmetic.combine.Given as goal

abbrev pub invariant-loop-k : goal.invariant-loop-k
invariant-loop-k l = record {
  rest : l.row ++ combined l.p (drop l.k l.a) l.q (drop l.k l.b) ≡ combined l.p l.a l.q l.b;
  weight : 2 ^ 127 ≤ combined_weight l.p (drop l.k l.a) l.q (drop l.k l.b) ↔ 2 ^ 127 ≤ combined_weight l.p l.a l.q l.b;
}
