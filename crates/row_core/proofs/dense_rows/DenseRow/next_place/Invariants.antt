use Rattle.std.proofs.Common.{◌≡◌, ◌<◌, ◌≤◌, ℕ}
use Rattle.std.specs.Prelude.{pos}
use Rattle.row_core.specs.Rows.{entry}
use Rattle.row_core.proofs.dense_rows.DenseRow.next_place.Given as goal

abbrev pub invariant-loop-k : goal.invariant-loop-k
invariant-loop-k l = record {
  zeros : (i : ℕ) → l.start ≤ i → i < l.k → entry l.self i ≡ pos 0;
  from : l.start ≤ l.k;
}
