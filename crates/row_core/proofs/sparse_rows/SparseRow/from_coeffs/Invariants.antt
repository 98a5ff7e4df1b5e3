use Rattle.std.proofs.Common.{◌≡◌, ◌++◌, drop, length}
use Rattle.row_core.proofs.sparse_rows.SparseRow.from_coeffs.Given as goal

abbrev pub invariant-loop-k : goal.invariant-loop-k
invariant-loop-k l = record {
  count : length l.row ≡ l.k;
  rest : l.row ++ drop l.k l.coeffs ≡ l.coeffs;
}
