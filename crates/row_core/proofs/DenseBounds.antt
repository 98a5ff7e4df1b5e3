-- Bounds of the dense numbering.
use Rattle.std.proofs.Common.{ℕ, ℤ, ◌≤◌, Bool, true, false, if◌then◌else◌, cond, List, [], ◌∷◌, length, filter, arith, int_lt}
use Rattle.std.specs.Ordering.{int_eq}
use Rattle.std.proofs.lemmas.Map.Made.{distinct_count-le}
use Rattle.row_core.specs.Dense.{heads, rests, lesser}

length_filter : {A : Type 0} (test : A → Bool) (xs : List A) → length (filter test xs) ≤ length xs
length_filter test [] = omega arith
length_filter test (x ∷ xs) =
    let l = length_filter test xs in
    elim (test x) as (λ b. length (cond b (x ∷ filter test xs) (filter test xs)) ≤ length (x ∷ xs)) [ true ↦ omega arith | false ↦ omega arith ]

length_heads : {A : Type 0} (V : List (List A)) → length (heads V) ≤ length V
length_heads [] = omega arith
length_heads ([] ∷ V) = let h = length_heads V in omega arith
length_heads ((x ∷ v) ∷ V) = let h = length_heads V in omega arith

-- a dense number is at most the number of vectors
pub lesser_few : (x : ℤ) (V : List (List ℤ)) → lesser x (heads V) ≤ length V
lesser_few x V =
    let a = distinct_count-le int_eq (filter (λ y. int_lt y x) (heads V)) in
    let b = length_filter (λ y. int_lt y x) (heads V) in
    let c = length_heads V in
    omega arith

pub length_rests : (x : ℤ) (V : List (List ℤ)) → length (rests x V) ≤ length V
length_rests x [] = omega arith
length_rests x ([] ∷ V) = let h = length_rests x V in omega arith
length_rests x ((y ∷ v) ∷ V) =
    let h = length_rests x V in
    elim (int_eq y x) as (λ b. length (if b then v ∷ rests x V else rests x V) ≤ length ((y ∷ v) ∷ V)) [ true ↦ omega arith | false ↦ omega arith ]
