use Rattle.std.proofs.Common.{◌≡◌, ℕ, ℤ, ◌<◌, ◌≤◌, Bor, List, false, length, get_or}
use Rattle.row_core.specs.Dense.{dense_among}
use Rattle.row_core.proofs.DenseOrder.{below, Known}
use Rattle.row_core.proofs.DensePlaces.{Numbered}
use Rattle.row_core.proofs.numbering.dense_vectors.Given as goal

abbrev pub invariant-loop-pair : goal.invariant-loop-pair
invariant-loop-pair l = record {
  count : length l.made ≡ length l.vectors;
  numbers : l.numbers ≡ dense_among l.vectors l.former;
  known : Known l.vectors l.former;
  before : (k : ℕ) (d : ℕ × Bor (List ℤ)) → k < l.pair-index → below l.former (get_or l.pair-items k d).1.now ≡ false;
  after : (k : ℕ) (d : ℕ × Bor (List ℤ)) → l.pair-index ≤ k → k < length l.pair-items → below (get_or l.pair-items k d).1.now l.former ≡ false;
  done : (k : ℕ) (d : ℕ × Bor (List ℤ)) → k < l.pair-index → Numbered (dense_among l.vectors) l.vectors l.made (get_or l.pair-items k d).0;
}
