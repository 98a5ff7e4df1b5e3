use Rattle.std.proofs.Common.{◌≡◌, ◌≤◌, ◌^◌, ◌++◌, drop, not}
use Rattle.std.specs.Prelude.{◌↔◌}
use Rattle.row_core.specs.Rows.{combined, combined_weight}
use Rattle.dependence_systems.specs.Comparisons.{factor_of}
use Rattle.dependence_systems.proofs.pieces.push_differences.Given as goal

abbrev pub invariant-loop-k : goal.invariant-loop-k
invariant-loop-k l = record {
  rest : l.row ++ combined (factor_of l.strict) (drop l.k l.a) (factor_of (not l.strict)) (drop l.k l.b) ≡ l.fn.row ++ combined (factor_of l.strict) l.a (factor_of (not l.strict)) l.b;
  weight : 2 ^ 127 ≤ combined_weight (factor_of l.strict) (drop l.k l.a) (factor_of (not l.strict)) (drop l.k l.b) ↔ 2 ^ 127 ≤ combined_weight (factor_of l.strict) l.a (factor_of (not l.strict)) l.b;
}
