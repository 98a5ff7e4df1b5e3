-- Loops in common, counted from place to place of two beta vectors.
use Rattle.std.proofs.Common.{◌≡◌, ℕ, zero, suc, ◌+◌, ◌≤◌, List, [], ◌∷◌, length, drop, true, false, if◌then◌else◌, ℤ, refl, ap, sym, ◌∙◌, arith}
use Rattle.std.proofs.lemmas.List.{drop_all}
use Rattle.scop_core.specs.LevelOrder.{common_loops, is_textually_before}
use Rattle.dependence_systems.specs.Comparisons.{starts_common}

-- at the last place of one
pub ends_first : (p q : List ℤ) (k : ℕ) → length p ≤ k + 1 → starts_common (drop k p) (drop k q) ≡ false
ends_first [] q k h = by k
  where
    by : (j : ℕ) → starts_common (drop j []) (drop k q) ≡ false
    by zero = refl
    by (suc j) = refl
ends_first (b ∷ []) q zero h = refl
ends_first (b ∷ (b' ∷ p)) q zero h = absurd (omega arith)
ends_first (b ∷ p) [] (suc k) h = nothing (drop k p)
  where
    nothing : (r : List ℤ) → starts_common r [] ≡ false
    nothing [] = refl
    nothing (a ∷ []) = refl
    nothing (a ∷ (a' ∷ r)) = refl
ends_first (b ∷ p) (c ∷ q) (suc k) h = ends_first p q k (omega arith)

short : (r : List ℤ) (c : ℤ) → starts_common r (c ∷ []) ≡ false
short [] c = refl
short (a ∷ []) c = refl
short (a ∷ (a' ∷ r)) c = refl

none : (r : List ℤ) → starts_common r [] ≡ false
none [] = refl
none (a ∷ []) = refl
none (a ∷ (a' ∷ r)) = refl

pub ends_second : (p q : List ℤ) (k : ℕ) → length q ≤ k + 1 → starts_common (drop k p) (drop k q) ≡ false
ends_second p [] zero h = none p
ends_second p [] (suc k) h = none (drop (suc k) p)
ends_second p (c ∷ []) zero h = short p c
ends_second p (c ∷ (c' ∷ q)) zero h = absurd (omega arith)
ends_second [] (c ∷ q) (suc k) h = refl
ends_second (b ∷ p) (c ∷ q) (suc k) h = ends_second p q k (omega arith)

pub common_goes_on : (p q : List ℤ) (k : ℕ) → starts_common (drop k p) (drop k q) ≡ true → common_loops (drop k p) (drop k q) ≡ suc (common_loops (drop (suc k) p) (drop (suc k) q))
common_goes_on [] q zero h = absurd (cc)
common_goes_on (b ∷ []) q zero h = absurd (cc)
common_goes_on (b ∷ (b' ∷ p)) [] zero h = absurd (cc)
common_goes_on (b ∷ (b' ∷ p)) (c ∷ []) zero h = absurd (cc)
common_goes_on (b ∷ (b' ∷ p)) (c ∷ (c' ∷ q)) zero h = ap (λ t. if t then suc (common_loops (b' ∷ p) (c' ∷ q)) else 0) h
common_goes_on [] q (suc k) h = absurd (cc)
common_goes_on (b ∷ p) [] (suc k) h = absurd (let e = none (drop k p) in cc)
common_goes_on (b ∷ p) (c ∷ q) (suc k) h = common_goes_on p q k h

-- the count so far and that of what is left, one place further
pub common_step : (p q : List ℤ) (k whole : ℕ) → true ≡ starts_common (drop k p) (drop k q) → k + common_loops (drop k p) (drop k q) ≡ whole
    → k + 1 + common_loops (drop (k + 1) p) (drop (k + 1) q) ≡ whole
common_step p q k whole h e =
    let next : suc k ≡ k + 1 = omega arith in
    let one = common_goes_on p q k (sym h) in
    let here : common_loops (drop (suc k) p) (drop (suc k) q) ≡ common_loops (drop (k + 1) p) (drop (k + 1) q) = ap (λ j. common_loops (drop j p) (drop j q)) next in
    omega (arith, e, one, here)

-- no text's order is left where the second vector ends
no_order : (r : List ℤ) → is_textually_before r [] ≡ false
no_order [] = refl
no_order (b ∷ r) = refl

pub order_ends : (p q : List ℤ) (k : ℕ) → length q ≤ k → is_textually_before (drop k p) (drop k q) ≡ false
order_ends p q k h = ap (λ r. is_textually_before (drop k p) r) (drop_all k q h) ∙ no_order (drop k p)
