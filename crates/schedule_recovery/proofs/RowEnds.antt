-- The last entry that isn't 0 of a row that is walked from its end.
use Rattle.std.proofs.Common.{◌≡◌, ℤ, pos, ℕ, suc, ◌+◌, ◌-◌, ◌<◌, ◌≤◌, Bool, true, false, if◌then◌else◌, ◌&&◌, inl, inr, List, [], ◌∷◌, ◌++◌, length, take, get_or, refl, sym, ◌∙◌, ap, arith}
use Rattle.std.specs.Prelude.{IsTrue, ◌↔◌}
use Rattle.std.specs.Ordering.{int_eq}
use Rattle.std.proofs.lemmas.Bool.Decides.{Decides-int_eq}
use Rattle.std.proofs.lemmas.List.{length-take-le, take_more}
use Rattle.beta_tree.proofs.Places.{bool_tells}
use Rattle.chlore_recover.specs.Triangles.{is_zero, last_place, last_value}
use Rattle.chlore_recover.proofs.Ends.{int_no}

-- a coefficient's test, as a Bool
pub zero_test : (b : Bool) (x : ℤ) → IsTrue b ↔ (x ≡ pos 0) → int_eq x (pos 0) ≡ b
zero_test b x h =
    elim (bool_tells b) [
      | inl t ↦ (Decides-int_eq x (pos 0)).1 (h.0 t) ∙ sym t
      | inr f ↦ int_no x (pos 0) (λ e. cc (h.1 e, f)) ∙ sym f
    ]

and_true : (b : Bool) → (b && true) ≡ b
and_true true = refl
and_true false = refl

and_false : (b : Bool) → (b && false) ≡ false
and_false true = refl
and_false false = refl

and_three : (a b c : Bool) → (a && (b && c)) ≡ ((a && b) && c)
and_three true b c = refl
and_three false b c = refl

zero_more : (row : List ℤ) (z : ℤ) → is_zero (row ++ z ∷ []) ≡ (is_zero row && int_eq z (pos 0))
zero_more [] z = and_true (int_eq z (pos 0))
zero_more (x ∷ row) z = ap (λ b. int_eq x (pos 0) && b) (zero_more row z) ∙ and_three (int_eq x (pos 0)) (is_zero row) (int_eq z (pos 0))

still_zero : (row : List ℤ) (z : ℤ) → int_eq z (pos 0) ≡ true → is_zero (row ++ z ∷ []) ≡ is_zero row
still_zero row z e = zero_more row z ∙ (ap (λ b. is_zero row && b) e ∙ and_true (is_zero row))

no_zero : (row : List ℤ) (z : ℤ) → int_eq z (pos 0) ≡ false → is_zero (row ++ z ∷ []) ≡ false
no_zero row z e = zero_more row z ∙ (ap (λ b. is_zero row && b) e ∙ and_false (is_zero row))

pub place_stays : (row : List ℤ) (z : ℤ) → int_eq z (pos 0) ≡ true → last_place (row ++ z ∷ []) ≡ last_place row
place_stays [] z e = refl
place_stays (x ∷ row) z e = rw (still_zero row z e, place_stays row z e) refl

pub place_moves : (row : List ℤ) (z : ℤ) → int_eq z (pos 0) ≡ false → last_place (row ++ z ∷ []) ≡ length row
place_moves [] z e = refl
place_moves (x ∷ row) z e = rw (no_zero row z e, place_moves row z e) (omega arith)

cut_more : (left : ℕ) (x : ℤ) (row : List ℤ) → 0 < left → left ≤ length row → x ≡ get_or row (left - 1) x → take left row ≡ take (left - 1) row ++ x ∷ []
cut_more left x row some l is =
    let up : left ≡ left - 1 + 1 = omega arith in
    ap (λ k. take k row) up ∙ (take_more row (left - 1) x (omega arith) ∙ ap (λ z. take (left - 1) row ++ z ∷ []) (sym is))

cut_long : (left : ℕ) (row : List ℤ) → left ≤ length row → length (take (left - 1) row) ≡ left - 1
cut_long left row l = length-take-le (left - 1) row (omega arith)

-- the entry before a place, with what is known of the row up to there

pub place_before : (left : ℕ) (x : ℤ) (row : List ℤ) → 0 < left → left ≤ length row → x ≡ get_or row (left - 1) x → int_eq x (pos 0) ≡ true → last_place (take left row) ≡ last_place row
    → last_place (take (left - 1) row) ≡ last_place row
place_before left x row some l is t h = sym (place_stays (take (left - 1) row) x t) ∙ (ap last_place (sym (cut_more left x row some l is)) ∙ h)

pub place_here : (left : ℕ) (x : ℤ) (row : List ℤ) → 0 < left → left ≤ length row → x ≡ get_or row (left - 1) x → int_eq x (pos 0) ≡ false → last_place (take left row) ≡ last_place row → left - 1 ≡ last_place row
place_here left x row some l is f h =
    sym (cut_long left row l) ∙ (sym (place_moves (take (left - 1) row) x f) ∙ (ap last_place (sym (cut_more left x row some l is)) ∙ h))

-- the last entry that isn't 0 stands at its place
pub value_there : (row : List ℤ) (place : ℕ) (x : ℤ) → place ≡ last_place row → place < length row → x ≡ get_or row place x → x ≡ last_value row
value_there [] place x e l is = absurd (omega arith)
value_there (z ∷ row) place x e l is =
    elim (is_zero row) as (λ t. is_zero row ≡ t → place ≡ (if t then 0 else last_place row + 1) → x ≡ (if t then z else last_value row)) [
      | true ↦ λ t p. is ∙ ap (λ k. get_or (z ∷ row) k x) p
      | false ↦ λ t p.
          let up : place ≡ suc (place - 1) = omega arith in
          value_there row (place - 1) x (omega arith) (omega arith) (is ∙ ap (λ k. get_or (z ∷ row) k x) up)
    ] refl e

pub value_past : (row : List ℤ) (place : ℕ) → place ≡ last_place row → length row ≤ place → pos 0 ≡ last_value row
value_past [] place e l = refl
value_past (z ∷ row) place e l =
    elim (is_zero row) as (λ t. is_zero row ≡ t → place ≡ (if t then 0 else last_place row + 1) → pos 0 ≡ (if t then z else last_value row)) [
      | true ↦ λ t p. absurd (omega arith)
      | false ↦ λ t p. value_past row (place - 1) (omega arith) (omega arith)
    ] refl e
