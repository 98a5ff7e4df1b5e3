-- Places in lists, and the levels that they are the places of.
use Rattle.std.proofs.Common.{◌≡◌, ℤ, pos, ℕ, zero, suc, ◌+◌, ◌<◌, ◌≤◌, ◌==◌, true, false, if◌then◌else◌, not, inl, inr, Option, Some, None, List, [], ◌∷◌, length, map, drop, get_or, refl, sym, ◌∙◌, ap, subst, arith}
use Rattle.std.specs.Prelude.{slice_get}
use Rattle.std.specs.List.{list_any, range_with_len}
use Rattle.std.proofs.Math.Dec.{eqb}
use Rattle.std.proofs.lemmas.Bool.{eqb-true}
use Rattle.std.proofs.lemmas.Option.{slice_get_within, slice_get_past, slice_get_read}
use Rattle.beta_tree.proofs.Places.{bool_tells, same_yes, same_no}
use Rattle.beta_tree.proofs.Orders.{and_left, and_right}
use Rattle.beta_tree.specs.Edits.{place_of, same_vector}
use Rattle.beta_tree.proofs.Leaves.{same_vector_yes}
use Rattle.row_core.specs.Rows.{scale}
use Rattle.std.proofs.lemmas.List.{drop_all, drop_more}
use Rattle.beta_trails.specs.Trails.{agreement}
use Rattle.chlore_recover.specs.Strategy.{is_before}
use Rattle.scop_data.specs.declared.affines.Affine.{Affine}
use Rattle.chlore_recover.specs.Triangles.{is_sign, last_value, last_place, end_in_signs, differ, row_ending_at, sign_at}
use Rattle.chlore_recover.specs.Recoverable.{rows_of}

-- what a level found by its place says of the row that ends there
abbrev pub IsEnding : ℕ → List Affine → Option Affine → Type 0
IsEnding i levels None = (row_ending_at i (rows_of levels) ≡ []) × (sign_at i (rows_of levels) ≡ pos 0)
IsEnding i levels (Some level) =
    (row_ending_at i (rows_of levels) ≡ scale (last_value level.iterators) level.iterators) × (sign_at i (rows_of levels) ≡ last_value level.iterators)

ending_more : (i : ℕ) (x : Affine) (levels : List Affine) (found : Option Affine) → (last_place x.iterators == i) ≡ false → IsEnding i levels found → IsEnding i (x ∷ levels) found
ending_more i x levels None f h = rw f h
ending_more i x levels (Some level) f h = rw f h

pub ending : (i : ℕ) (levels : List Affine) → IsEnding i levels (slice_get levels (place_of i (map last_place (rows_of levels))))
ending i [] = (refl, refl)
ending i (x ∷ levels) =
    elim (last_place x.iterators == i) as (λ t. (last_place x.iterators == i) ≡ t → IsEnding i (x ∷ levels) (slice_get (x ∷ levels) (if t then 0 else place_of i (map last_place (rows_of levels)) + 1))) [
      | true ↦ λ e. rw e (refl, refl)
      | false ↦ λ e.
          let up : suc (place_of i (map last_place (rows_of levels))) ≡ place_of i (map last_place (rows_of levels)) + 1 = omega arith in
          subst (λ k. IsEnding i (x ∷ levels) (slice_get (x ∷ levels) k)) up
          (ending_more i x levels (slice_get levels (place_of i (map last_place (rows_of levels)))) e (ending i levels))
    ] refl

-- each level's last value is a sign
pub sign_there : (levels : List Affine) (k : ℕ) (level : Affine) → end_in_signs (rows_of levels) ≡ true → slice_get levels k ≡ Some level → is_sign (last_value level.iterators) ≡ true
sign_there [] k level h e = let l = slice_get_within [] k level e in absurd (omega arith)
sign_there (x ∷ levels) zero level h e =
    let same : x ≡ level = cc in
    subst (λ z. is_sign (last_value z.iterators) ≡ true) same (and_left (is_sign (last_value x.iterators)) (end_in_signs (rows_of levels)) h)
sign_there (x ∷ levels) (suc k) level h e = sign_there levels k level (and_right (is_sign (last_value x.iterators)) (end_in_signs (rows_of levels)) h) e

-- where the second of two vectors ends

ends_together : (u : List ℕ) → agreement u [] ≡ 0
ends_together [] = refl
ends_together (x ∷ u) = refl

pub agreement_ends : (u v : List ℕ) (k whole : ℕ) → length v ≤ k → k + agreement (drop k u) (drop k v) ≡ whole → k ≡ whole
agreement_ends u v k whole l h =
    let none : agreement (drop k u) (drop k v) ≡ 0 = ap (agreement (drop k u)) (drop_all k v l) ∙ ends_together (drop k u) in
    omega arith

pub before_ends : (u v : List ℕ) (k : ℕ) → k < length u → length v ≤ k → is_before (drop k u) (drop k v) ≡ false
before_ends u v k l m = ap (is_before (drop k u)) (drop_all k v m) ∙ ap (λ z. is_before z []) (drop_more u k 0 l)

-- a level that is found, or none

pub none_ends : (i : ℕ) (levels : List Affine) → slice_get levels (place_of i (map last_place (rows_of levels))) ≡ None → (row_ending_at i (rows_of levels) ≡ []) × (sign_at i (rows_of levels) ≡ pos 0)
none_ends i levels e = subst (IsEnding i levels) e (ending i levels)

pub some_ends : (i : ℕ) (levels : List Affine) (level : Affine) → slice_get levels (place_of i (map last_place (rows_of levels))) ≡ Some level
    → (row_ending_at i (rows_of levels) ≡ scale (last_value level.iterators) level.iterators) × (sign_at i (rows_of levels) ≡ last_value level.iterators)
some_ends i levels level e = subst (IsEnding i levels) e (ending i levels)

pub ends_past : (i k : ℕ) (levels : List Affine) (places : List ℕ) → places ≡ map last_place (rows_of levels) → k ≡ place_of i places → length levels ≤ k → (row_ending_at i (rows_of levels) ≡ []) × (sign_at i (rows_of levels) ≡ pos 0)
ends_past i k levels places e f l = none_ends i levels (ap (slice_get levels) (sym (f ∙ ap (place_of i) e)) ∙ slice_get_past levels k l)

pub ends_here : (i k : ℕ) (levels : List Affine) (places : List ℕ) (level : Affine) → places ≡ map last_place (rows_of levels) → k ≡ place_of i places → k < length levels → level ≡ get_or levels k level
    → (row_ending_at i (rows_of levels) ≡ scale (last_value level.iterators) level.iterators) × (sign_at i (rows_of levels) ≡ last_value level.iterators)
ends_here i k levels places level e f l is = some_ends i levels level (ap (slice_get levels) (sym (f ∙ ap (place_of i) e)) ∙ slice_get_read levels (length levels) k level refl l is)

pub sign_here : (levels : List Affine) (k : ℕ) (level : Affine) (row : List ℤ) (sign : ℤ) → end_in_signs (rows_of levels) ≡ true → k < length levels → level ≡ get_or levels k level → row ≡ level.iterators → sign ≡ last_value row → is_sign sign ≡ true
sign_here levels k level row sign h l is r s = ap is_sign (s ∙ ap last_value r) ∙ sign_there levels k level h (slice_get_read levels (length levels) k level refl l is)

-- the level that is found by a place ends there

abbrev pub IsFoundAt : ℕ → Option Affine → Type 0
IsFoundAt i None = Unit {0}
IsFoundAt i (Some level) = last_place level.iterators ≡ i

found_at : (i : ℕ) (levels : List Affine) → IsFoundAt i (slice_get levels (place_of i (map last_place (rows_of levels))))
found_at i [] = tt
found_at i (x ∷ levels) =
    elim (last_place x.iterators == i) as (λ t. (last_place x.iterators == i) ≡ t → IsFoundAt i (slice_get (x ∷ levels) (if t then 0 else place_of i (map last_place (rows_of levels)) + 1))) [
      | true ↦ λ e. eqb-true (last_place x.iterators) i e
      | false ↦ λ e.
          let up : suc (place_of i (map last_place (rows_of levels))) ≡ place_of i (map last_place (rows_of levels)) + 1 = omega arith in
          subst (λ k. IsFoundAt i (slice_get (x ∷ levels) k)) up (found_at i levels)
    ] refl

pub ends_there : (i k : ℕ) (levels : List Affine) (places : List ℕ) (level : Affine) (row : List ℤ) → places ≡ map last_place (rows_of levels) → k ≡ place_of i places → k < length levels → level ≡ get_or levels k level → row ≡ level.iterators → i ≡ last_place row
ends_there i k levels places level row e f l is r =
    let found : slice_get levels (place_of i (map last_place (rows_of levels))) ≡ Some level = ap (slice_get levels) (sym (f ∙ ap (place_of i) e)) ∙ slice_get_read levels (length levels) k level refl l is in
    sym (subst (IsFoundAt i) found (found_at i levels)) ∙ ap last_place (sym r)

-- in a list of numbers that differ each stands at its place

other_entry : (x : ℕ) (xs : List ℕ) (k y : ℕ) → list_any (eqb x) xs ≡ false → k < length xs → y ≡ get_or xs k 0 → (x == y) ≡ false
other_entry x [] k y f l is = absurd (omega arith)
other_entry x (z ∷ xs) zero y f l is =
    elim (x == z) as (λ t. (x == z) ≡ t → (x == y) ≡ false) [
      | true ↦ λ e. absurd (let g : list_any (eqb x) (z ∷ xs) ≡ true = rw e refl in cc)
      | false ↦ λ e. ap (λ w. x == w) is ∙ e
    ] refl
other_entry x (z ∷ xs) (suc k) y f l is =
    elim (x == z) as (λ t. (x == z) ≡ t → (x == y) ≡ false) [
      | true ↦ λ e. absurd (let g : list_any (eqb x) (z ∷ xs) ≡ true = rw e refl in cc)
      | false ↦ λ e. other_entry x xs k y (let g : list_any (eqb x) (z ∷ xs) ≡ list_any (eqb x) xs = rw e refl in sym g ∙ f) (omega arith) is
    ] refl

pub own_place : (xs : List ℕ) (k y : ℕ) → differ xs ≡ true → k < length xs → y ≡ get_or xs k 0 → k ≡ place_of y xs
own_place [] k y h l is = absurd (omega arith)
own_place (x ∷ xs) zero y h l is = rw (ap (λ w. x == w) is ∙ same_yes x) refl
own_place (x ∷ xs) (suc k) y h l is =
    let fresh : list_any (eqb x) xs ≡ false = elim (bool_tells (list_any (eqb x) xs)) [
      | inl t ↦ absurd (let g : not true ≡ true = subst (λ z. not z ≡ true) t (and_left (not (list_any (eqb x) xs)) (differ xs) h) in cc)
      | inr f ↦ f
    ] in
    let more : k ≡ place_of y xs = own_place xs k y (and_right (not (list_any (eqb x) xs)) (differ xs) h) (omega arith) is in
    rw (other_entry x xs k y fresh (omega arith) is) (omega arith)

-- numbers in order differ

range_fresh : (n t s : ℕ) → s < t → list_any (eqb s) (range_with_len t n) ≡ false
range_fresh zero t s l = refl
range_fresh (suc n) t s l = rw (same_no s t (λ e. omega arith)) (range_fresh n (t + 1) s (omega arith))

range_differs : (n s : ℕ) → differ (range_with_len s n) ≡ true
range_differs zero s = refl
range_differs (suc n) s = rw (range_fresh n (s + 1) s (omega arith)) (range_differs n (s + 1))

pub in_order_differs : (xs : List ℕ) → same_vector xs (range_with_len 0 (length xs)) ≡ true → true ≡ differ xs
in_order_differs xs h = sym (ap differ (same_vector_yes xs (range_with_len 0 (length xs)) h) ∙ range_differs (length xs) 0)
