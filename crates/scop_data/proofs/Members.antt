-- Members of ranges and of lists that are appended.
use Rattle.std.proofs.Common.{inl, inr, ℕ, zero, suc, ◌+◌, ◌<◌, ◌≤◌, List, [], ◌∷◌, ◌++◌, arith}
use Rattle.std.specs.List.{range_with_len}
use Rattle.scop_data.specs.Sequences.{In}
use Rattle.scop_data.proofs.Stamps.{same_number}

pub in_range : (a n l : ℕ) → In l (range_with_len a n) → (a ≤ l) × (l < a + n)
in_range a zero l i = absurd i
in_range a (suc n) l (inl e) = (omega (arith, e), omega (arith, e))
in_range a (suc n) l (inr i) = let h = in_range (a + 1) n l i in (omega (arith, h.0), omega (arith, h.1))

pub range_has : (a n l : ℕ) → a ≤ l → l < a + n → In l (range_with_len a n)
range_has a zero l low high = absurd (omega (arith, low, high))
range_has a (suc n) l low high =
    elim (same_number a l) as (λ _. In l (range_with_len a (suc n))) [
      | inl e ↦ inl e
      | inr d ↦ inr (range_has (a + 1) n l (omega (arith, low, d)) (omega (arith, high)))
    ]

pub in_front : {X : Type 0} (a : X) (xs ys : List X) → In a xs → In a (xs ++ ys)
in_front a [] ys i = absurd i
in_front a (x ∷ xs) ys (inl e) = inl e
in_front a (x ∷ xs) ys (inr i) = inr (in_front a xs ys i)

pub in_behind : {X : Type 0} (a : X) (xs ys : List X) → In a ys → In a (xs ++ ys)
in_behind a [] ys i = i
in_behind a (x ∷ xs) ys i = inr (in_behind a xs ys i)
