use Rattle.std.proofs.Common.{◌≡◌, ◌<◌, ℕ, map, length}
use Rattle.std.specs.Prelude.{slice_get, Some}
use Rattle.std.specs.List.{All, Contains}
use Rattle.row_core.proofs.numbering.placed_vectors.Given as goal

abbrev pub invariant-loop-vector : goal.invariant-loop-vector
invariant-loop-vector l = record {
  count : length l.placed.items ≡ l.vector-index;
  each : All (λ p. slice_get l.vectors p.0 ≡ Some p.1.now) l.placed.items;
  all : (k : ℕ) → k < l.vector-index → Contains (map (λ p. p.0) l.placed.items) k;
}
