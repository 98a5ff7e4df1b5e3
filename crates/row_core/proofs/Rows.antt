-- The value of a row is linear in the row; entries and limits, column by column.
use Rattle.std.specs.Prelude.{ℤ, ◌+ℤ◌, ◌*ℤ◌, ◌≡◌, pos, ℕ, zero, suc, ◌^◌, ◌≤◌, ◌<◌, List, [], ◌∷◌, ◌++◌, length, drop, max, ◌+◌, ◌-◌, unsigned_abs, insert, swap}
use Rattle.std.proofs.Common.{ap, inl, inr, ◌∙◌, subst, sym, arith, append_assoc}
use Rattle.std.proofs.Math.ListN.{set}
use Rattle.std.proofs.Math.Seq.{drop-cons}
use Rattle.std.proofs.lemmas.Bool.{cases_lt}
use Rattle.std.proofs.lemmas.List.{append-nil}
use Rattle.std.proofs.lemmas.List.Edits.{swap_is}
use Rattle.row_core.specs.Rows.{entry, combined, pair_weight, combined_weight, IsHeavy, AreCoefficients}
pub use Rattle.row_core.specs.Linear.{dot_add, dot_scale, combined_is, dot_combined}

bound_more : (row : List ℤ) (x : ℤ) → ((k : ℕ) → unsigned_abs (entry row k) < 2 ^ 127) → unsigned_abs x < 2 ^ 127
    → (k : ℕ) → unsigned_abs (entry (row ++ x ∷ []) k) < 2 ^ 127
bound_more [] x f h zero = h
bound_more [] x f h (suc k) = omega arith
bound_more (y ∷ row) x f h zero = f zero
bound_more (y ∷ row) x f h (suc k) = bound_more row x (λ j. f (suc j)) h k

-- appending a coefficient keeps all entries in range
pub coefficients_more : (row : List ℤ) (x : ℤ) → AreCoefficients row → unsigned_abs x < 2 ^ 127 → AreCoefficients (row ++ x ∷ [])
coefficients_more row x r h = record { bound = bound_more row x r.bound h }

-- so does appending a list of them
pub coefficients_append : (row more : List ℤ) → AreCoefficients row → AreCoefficients more → AreCoefficients (row ++ more)
coefficients_append row [] r m = subst AreCoefficients (sym (append-nil row)) r
coefficients_append row (x ∷ more) r m =
    subst AreCoefficients (append_assoc row (x ∷ []) more)
    (coefficients_append (row ++ x ∷ []) more (coefficients_more row x r (m.bound 0)) (record { bound = λ k. m.bound (suc k) }))

bound_insert : (row : List ℤ) (i : ℕ) (x : ℤ) → ((k : ℕ) → unsigned_abs (entry row k) < 2 ^ 127) → unsigned_abs x < 2 ^ 127
    → (k : ℕ) → unsigned_abs (entry (insert row i x) k) < 2 ^ 127
bound_insert row zero x f h zero = h
bound_insert row zero x f h (suc k) = f k
bound_insert [] (suc i) x f h zero = h
bound_insert [] (suc i) x f h (suc k) = f k
bound_insert (y ∷ row) (suc i) x f h zero = f zero
bound_insert (y ∷ row) (suc i) x f h (suc k) = bound_insert row i x (λ j. f (suc j)) h k

-- so does inserting one
pub coefficients_insert : (row : List ℤ) (i : ℕ) (x : ℤ) → AreCoefficients row → unsigned_abs x < 2 ^ 127 → AreCoefficients (insert row i x)
coefficients_insert row i x r h = record { bound = bound_insert row i x r.bound h }

bound_set : (row : List ℤ) (i : ℕ) (x : ℤ) → ((k : ℕ) → unsigned_abs (entry row k) < 2 ^ 127) → unsigned_abs x < 2 ^ 127
    → (k : ℕ) → unsigned_abs (entry (set row i x) k) < 2 ^ 127
bound_set [] i x f h k = f k
bound_set (y ∷ row) zero x f h zero = h
bound_set (y ∷ row) zero x f h (suc k) = f (suc k)
bound_set (y ∷ row) (suc i) x f h zero = f zero
bound_set (y ∷ row) (suc i) x f h (suc k) = bound_set row i x (λ j. f (suc j)) h k

-- so does an exchange of two entries
pub coefficients_swap : (row : List ℤ) (i j : ℕ) → i < length row → j < length row → AreCoefficients row → AreCoefficients (swap row i j)
coefficients_swap row i j f g r =
    subst AreCoefficients (swap_is row i j (pos 0) f g)
    (record { bound = bound_set (set row i (entry row j)) j (entry row i) (bound_set row i (entry row j) r.bound (r.bound j)) (r.bound i) })

-- what column k weighs is at most the greatest weight
pub column_below : (p : ℤ) (a : List ℤ) (q : ℤ) (b : List ℤ) (k : ℕ) → k < length a → k < length b
    → pair_weight p (entry a k) q (entry b k) ≤ combined_weight p a q b
column_below p [] q b k f g = absurd (omega arith)
column_below p (x ∷ a) q [] k f g = absurd (omega arith)
column_below p (x ∷ a) q (y ∷ b) zero f g = omega arith
column_below p (x ∷ a) q (y ∷ b) (suc k) f g =
    let f1 : k < length a = omega arith in
    let g1 : k < length b = omega arith in
    omega (arith, column_below p a q b k f1 g1)

-- and some column weighs as much, where there is one too heavy
heavy_column : (p : ℤ) (a : List ℤ) (q : ℤ) (b : List ℤ) (m : ℕ) → m < combined_weight p a q b
    → (k : ℕ) × (k < length a) × (k < length b) × (m < pair_weight p (entry a k) q (entry b k))
heavy_column p [] q b m h = absurd (omega arith)
heavy_column p (x ∷ a) q [] m h = absurd (omega arith)
heavy_column p (x ∷ a) q (y ∷ b) m h = elim (cases_lt m (pair_weight p x q y)) [
  | inl l ↦ (0, omega arith, omega arith, l)
  | inr l ↦
      let g : m < combined_weight p a q b = omega arith in
      let r = heavy_column p a q b m g in
      (suc r.0, omega (arith, r.1), omega (arith, r.2), r.3)
]

-- the greatest weight passes 2^127 - 1 exactly where some column's weight does
pub is_heavy : (p : ℤ) (a : List ℤ) (q : ℤ) (b : List ℤ) → 2 ^ 127 ≤ combined_weight p a q b → IsHeavy p a q b
is_heavy p a q b h =
    let r = heavy_column p a q b (2 ^ 127 - 1) (omega arith) in
    (r.0, r.1, r.2, omega (arith, r.3))

pub from_heavy : (p : ℤ) (a : List ℤ) (q : ℤ) (b : List ℤ) → IsHeavy p a q b → 2 ^ 127 ≤ combined_weight p a q b
from_heavy p a q b h = omega (arith, column_below p a q b h.0 h.1 h.2, h.3)

-- column k of a combination, before the columns after it
next_column : (row : List ℤ) (k : ℕ) → k < length row → drop k row ≡ entry row k ∷ drop (k + 1) row
next_column row k h =
    let next : suc k ≡ k + 1 = omega arith in
    drop-cons row k (pos 0) h ∙ ap (λ j. entry row k ∷ drop j row) next

pub combined_step : (p : ℤ) (a : List ℤ) (q : ℤ) (b : List ℤ) (k : ℕ) → k < length a → k < length b
    → combined p (drop k a) q (drop k b) ≡ ((p *ℤ entry a k) +ℤ (q *ℤ entry b k)) ∷ combined p (drop (k + 1) a) q (drop (k + 1) b)
combined_step p a q b k f g =
    ap (λ r. combined p r q (drop k b)) (next_column a k f)
    ∙ ap (λ r. combined p (entry a k ∷ drop (k + 1) a) q r) (next_column b k g)

pub weight_step : (p : ℤ) (a : List ℤ) (q : ℤ) (b : List ℤ) (k : ℕ) → k < length a → k < length b
    → combined_weight p (drop k a) q (drop k b) ≡ max (pair_weight p (entry a k) q (entry b k)) (combined_weight p (drop (k + 1) a) q (drop (k + 1) b))
weight_step p a q b k f g =
    ap (λ r. combined_weight p r q (drop k b)) (next_column a k f)
    ∙ ap (λ r. combined_weight p (entry a k ∷ drop (k + 1) a) q r) (next_column b k g)
