-- The first place of a row whose entry isn't 0.
use Rattle.std.specs.Prelude.{ℤ, pos, ℕ, zero, suc, ◌+◌, ◌<◌, ◌≤◌, ◌≡◌, ◌⊎◌, refl, Bool, true, false, nat_lt, min, List, [], ◌∷◌}
use Rattle.std.proofs.Common.{arith, inl, inr}
use Rattle.std.proofs.lemmas.Bool.Decides.{nat_tests}
use Rattle.row_core.specs.Rows.{entry}
use Rattle.row_core.specs.Sparse.{is_zero, nonzeros, place_from}
use Rattle.row_core.proofs.Sparse.{zero_is}

by_bool : (b : Bool) → (b ≡ true) ⊎ (b ≡ false)
by_bool true = inl refl
by_bool false = inr refl

-- the entries from place k on, as the row from there has them
pub record IsNext (k start end : ℕ) (row : List ℤ) (r : ℕ) : Type 0 where
  pub zeros : (i : ℕ) → start ≤ k + i → k + i < r → entry row i ≡ pos 0
  pub low : r < end → k ≤ r
  pub found : (i : ℕ) → r ≡ k + i → r < end → is_zero (entry row i) ≡ false
  pub from : start ≤ end → start ≤ r
  pub to : r ≤ end

next_later : (k start end : ℕ) (c : ℤ) (row : List ℤ) (r : ℕ) → (start ≤ k → c ≡ pos 0) → IsNext (suc k) start end row r → IsNext k start end (c ∷ row) r
next_later k start end c row r z h = record {
  zeros = zeros_later;
  low = λ l. let g = h.low l in omega arith;
  found = found_later;
  from = h.from;
  to = h.to;
} where
  zeros_later : (i : ℕ) → start ≤ k + i → k + i < r → entry (c ∷ row) i ≡ pos 0
  zeros_later zero a b = z (omega arith)
  zeros_later (suc i) a b = h.zeros i (omega arith) (omega arith)

  found_later : (i : ℕ) → r ≡ k + i → r < end → is_zero (entry (c ∷ row) i) ≡ false
  found_later zero e l = let g = h.low l in absurd (omega arith)
  found_later (suc i) e l = h.found i (omega arith) l

next_here : (k start end : ℕ) (c : ℤ) (row : List ℤ) → is_zero c ≡ false → start ≤ k → IsNext k start end (c ∷ row) (min k end)
next_here k start end c row z s = record {
  zeros = λ i a b. absurd (omega arith);
  low = λ l. omega arith;
  found = found_here;
  from = λ l. omega arith;
  to = omega arith;
} where
  found_here : (i : ℕ) → min k end ≡ k + i → min k end < end → is_zero (entry (c ∷ row) i) ≡ false
  found_here zero e l = z
  found_here (suc i) e l = absurd (omega arith)

pub next_is : (k start end : ℕ) (row : List ℤ) → IsNext k start end row (place_from start end (nonzeros k row))
next_is k start end [] = record { zeros = λ i a b. refl; low = λ l. absurd (omega arith); found = λ i e l. absurd (omega arith); from = λ l. l; to = omega arith }
next_is k start end (c ∷ row) = elim (by_bool (is_zero c)) [
  | inl z ↦ rw z (next_later k start end c row (place_from start end (nonzeros (suc k) row)) (λ s. zero_is c z) (next_is (suc k) start end row))
  | inr z ↦ elim (by_bool (nat_lt k start)) [
    | inl t ↦
        let b : k < start = grind (arith, nat_tests) in
        rw (z, t) (next_later k start end c row (place_from start end (nonzeros (suc k) row)) (λ s. absurd (omega arith)) (next_is (suc k) start end row))
    | inr t ↦
        let b : start ≤ k = grind (arith, nat_tests) in
        rw (z, t) (next_here k start end c row z b)
  ]
]
