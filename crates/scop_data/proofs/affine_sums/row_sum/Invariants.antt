use Rattle.std.proofs.Common.{◌≡◌, ◌≤◌, ◌^◌, ◌++◌, drop, pos}
use Rattle.std.specs.Prelude.{◌↔◌}
use Rattle.row_core.specs.Rows.{add_rows, scale, combined_weight}
use Rattle.scop_data.proofs.affine_sums.row_sum.Given as goal

abbrev pub invariant-loop-k : goal.invariant-loop-k
invariant-loop-k l = record {
  rest : l.row ++ add_rows (drop l.k l.a) (scale l.q (drop l.k l.b)) ≡ add_rows l.a (scale l.q l.b);
  weight : 2 ^ 127 ≤ combined_weight (pos 1) (drop l.k l.a) l.q (drop l.k l.b) ↔ 2 ^ 127 ≤ combined_weight (pos 1) l.a l.q l.b;
}
