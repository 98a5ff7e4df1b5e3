-- A list of all numbers below its length keeps them when two change places.
use Rattle.std.proofs.Common.{◌≡◌, ◌≢◌, ℕ, zero, suc, ◌+◌, ◌<◌, ◌≤◌, ◌==◌, true, false, if◌then◌else◌, inl, inr, List, [], ◌∷◌, length, get_or, set, refl, sym, ◌∙◌, ap, subst, arith}
use Rattle.std.specs.Prelude.{swap}
use Rattle.std.specs.List.{range_with_len}
use Rattle.std.proofs.lemmas.Bool.{eqb-true, eqb-false}
use Rattle.std.proofs.lemmas.List.{get_or-set_same, get_or-set_other, length-set}
use Rattle.std.proofs.lemmas.List.Edits.{swap_is, length-swap}
use Rattle.std.proofs.lemmas.List.FromFn.{length-range_with_len}
use Rattle.beta_tree.specs.Edits.{place_of}
use Rattle.beta_tree.proofs.Places.{bool_tells, same_yes}
use Rattle.schedule_recovery.specs.Steps.{HasAll, AreBelow, standing_after}

at_place : (x : ℕ) (xs : List ℕ) → place_of x xs < length xs → get_or xs (place_of x xs) 0 ≡ x
at_place x [] l = absurd (omega arith)
at_place x (y ∷ xs) l =
    elim (y == x) as (λ t. (y == x) ≡ t → (if t then 0 else place_of x xs + 1) < length (y ∷ xs) → get_or (y ∷ xs) (if t then 0 else place_of x xs + 1) 0 ≡ x) [
      | true ↦ λ e m. eqb-true y x e
      | false ↦ λ e m.
          let up : place_of x xs + 1 ≡ suc (place_of x xs) = omega arith in
          rw up (at_place x xs (omega arith))
    ] refl l

place_within : (x j : ℕ) (xs : List ℕ) → j < length xs → get_or xs j 0 ≡ x → place_of x xs < length xs
place_within x j [] l e = absurd (omega arith)
place_within x zero (y ∷ xs) l e = rw (ap (λ z. y == z) (sym e) ∙ same_yes y) (omega arith)
place_within x (suc j) (y ∷ xs) l e =
    let more = place_within x j xs (omega arith) e in
    elim (y == x) as (λ t. (if t then 0 else place_of x xs + 1) < length (y ∷ xs)) [ true ↦ omega arith | false ↦ omega arith ]

-- the place of each entry after an exchange
moved : (xs : List ℕ) (a b i : ℕ) → a < length xs → b < length xs → i < length xs → (j : ℕ) × (j < length xs) × (get_or (swap xs a b) j 0 ≡ get_or xs i 0)
moved xs a b i la lb li =
    let is = swap_is xs a b 0 la lb in
    let first : List ℕ = set xs a (get_or xs b 0) in
    let long = length-set xs a (get_or xs b 0) in
    elim (bool_tells (i == a)) [
      | inl t ↦
          let same = eqb-true i a t in
          (b, lb, ap (λ z. get_or z b 0) (sym is) ∙ (get_or-set_same first b (get_or xs a 0) 0 (omega arith) ∙ ap (λ k. get_or xs k 0) (sym same)))
      | inr f ↦
          let other = eqb-false i a f in
          elim (bool_tells (i == b)) [
            | inl t ↦
                let same = eqb-true i b t in
                let apart : a ≢ b = λ e. other (same ∙ sym e) in
                (a, la, ap (λ z. get_or z a 0) (sym is) ∙ (get_or-set_other first b a (get_or xs a 0) 0 apart ∙ (get_or-set_same xs a (get_or xs b 0) 0 la ∙ ap (λ k. get_or xs k 0) (sym same))))
            | inr g ↦
                let apart = eqb-false i b g in
                (i, li, ap (λ z. get_or z i 0) (sym is) ∙ (get_or-set_other first b i (get_or xs a 0) 0 apart ∙ get_or-set_other xs a i (get_or xs b 0) 0 other))
          ]
    ]

pub all_swapped : (d k i : ℕ) (standing : List ℕ) → HasAll d standing → k < d → place_of i standing < d → HasAll d (swap standing k (place_of i standing))
all_swapped d k i standing h l m = record {
  long = length-swap standing k (place_of i standing) ∙ h.long;
  there = λ x below.
      let long = h.long in
      let same = length-swap standing k (place_of i standing) in
      let here = h.there x below in
      let p = moved standing k (place_of i standing) (place_of x standing) (omega arith) (omega arith) (omega arith) in
      let within = place_within x p.0 (swap standing k (place_of i standing)) (let q = p.1 in omega arith) (p.2 ∙ at_place x standing (omega arith)) in
      omega arith;
}

pub all_after : (d k i : ℕ) (standing : List ℕ) → HasAll d standing → k < d → place_of i standing < d → HasAll d (standing_after k i standing)
all_after d k i standing h l m =
    elim (place_of i standing == k) as (λ t. HasAll d (if t then standing else swap standing k (place_of i standing))) [ true ↦ h | false ↦ all_swapped d k i standing h l m ]

place_in_range : (n s x : ℕ) → s ≤ x → x < s + n → place_of x (range_with_len s n) < n
place_in_range zero s x l m = absurd (omega arith)
place_in_range (suc n) s x l m =
    elim (bool_tells (s == x)) [
      | inl t ↦ rw t (omega arith)
      | inr f ↦ let ne = eqb-false s x f in let more = place_in_range n (s + 1) x (omega arith) (omega arith) in rw f (omega arith)
    ]

pub all_first : (d : ℕ) → HasAll d (range_with_len 0 d)
all_first d = record { long = length-range_with_len 0 d; there = λ x l. place_in_range d 0 x (omega arith) (omega arith) }

pub below_at : (d k : ℕ) (xs : List ℕ) → AreBelow d xs → k < length xs → get_or xs k 0 < d
below_at d k [] b l = absurd (omega arith)
below_at d zero (x ∷ xs) (h, b) l = h
below_at d (suc k) (x ∷ xs) (h, b) l = below_at d k xs b (omega arith)

pub after_long : (k i : ℕ) (standing : List ℕ) → length (standing_after k i standing) ≡ length standing
after_long k i standing =
    elim (place_of i standing == k) as (λ t. length (if t then standing else swap standing k (place_of i standing)) ≡ length standing) [ true ↦ refl | false ↦ length-swap standing k (place_of i standing) ]

pub wanted_there : (d k : ℕ) (places standing now : List ℕ) → now ≡ standing → AreBelow d places → k < length places → HasAll d standing → place_of (get_or places k 0) now < length now
wanted_there d k places standing now e b l h =
    subst (λ z. place_of (get_or places k 0) z < length z) (sym e)
    (let m = h.there (get_or places k 0) (below_at d k places b l) in let long = h.long in omega arith)
