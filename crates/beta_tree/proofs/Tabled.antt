-- A table of the places in a permutation, filled entry by entry.
use Rattle.std.proofs.Common.{◌≡◌, ◌≢◌, ℕ, suc, ◌+◌, ◌<◌, ◌≤◌, ◌==◌, nat_lt, true, false, if◌then◌else◌, List, [], ◌∷◌, length, replicate, get_or, set, inl, inr, refl, sym, ◌∙◌, ap, subst, arith}
use Rattle.std.proofs.lemmas.Bool.{eqb-true, eqb-false, ltb-true, ltb-false}
use Rattle.std.proofs.lemmas.List.{length-replicate, length-set, get_or-set_same, get_or-set_other, get_or_past}
use Rattle.beta_tree.specs.Edits.{place_of, is_permutation_of, HasPlaces}
use Rattle.beta_tree.proofs.Places.{bool_tells}
use Rattle.beta_tree.proofs.Marks.{entry_is}
use Rattle.beta_tree.proofs.Orders.{Orders, orders_of_test, entry_at, entry_at_place, place_below, place_of_entry, entry_below}

-- the table has the place of each number below n whose place is below k
pub record Tabled (order : List ℕ) (k : ℕ) (table : List ℕ) : Type 0 where
  pub long : length table ≡ length order
  pub at : (y : ℕ) → y < length order → place_of y order < k → get_or table y (length order) ≡ place_of y order

pub tabled_none : (order : List ℕ) → Tabled order 0 (replicate (length order) 0)
tabled_none order = record {
  long = length-replicate (length order) 0;
  at = λ y l less. absurd (omega arith);
}

pub permutation_length : (n : ℕ) (order : List ℕ) → is_permutation_of n order ≡ true → length order ≡ n
permutation_length n order p = (orders_of_test n order p).long

pub permutes_itself : (n : ℕ) (order : List ℕ) → is_permutation_of n order ≡ true → is_permutation_of (length order) order ≡ true
permutes_itself n order p = subst (λ m. is_permutation_of m order ≡ true) (sym (permutation_length n order p)) p

pub entry_within : (order : List ℕ) → is_permutation_of (length order) order ≡ true → (k d : ℕ) → k < length order → get_or order k d < length order
entry_within order p k d l =
    subst (λ z. z < length order) (entry_is order k d l) (entry_below (length order) order (orders_of_test (length order) order p) k l)

pub tabled_more : (order : List ℕ) → is_permutation_of (length order) order ≡ true → (k d : ℕ) (table : List ℕ) → k < length order → Tabled order k table → Tabled order (k + 1) (set table (get_or order k d) k)
tabled_more order p k d table l t =
    let o : Orders (length order) order = orders_of_test (length order) order p in
    let is = entry_is order k d l in
    record {
      long = length-set table (get_or order k d) k ∙ t.long;
      at = λ y within less.
          elim (bool_tells (y == get_or order k d)) [
            | inl same ↦
                let e : y ≡ get_or order k d = eqb-true y (get_or order k d) same in
                let low : get_or order k d < length table = let long = t.long in omega arith in
                let put : get_or (set table (get_or order k d) k) (get_or order k d) (length order) ≡ k = get_or-set_same table (get_or order k d) k (length order) low in
                let place : place_of (get_or order k d) order ≡ k = subst (λ z. place_of z order ≡ k) is (place_of_entry (length order) order o k l) in
                rw e (put ∙ sym place)
            | inr other ↦
                let ne : y ≢ get_or order k d = eqb-false y (get_or order k d) other in
                let before : place_of y order < k =
                elim (bool_tells (nat_lt (place_of y order) k)) [
                  | inl f ↦ ltb-true (place_of y order) k f
                  | inr f ↦
                      let high = ltb-false (place_of y order) k f in
                      let e : place_of y order ≡ k = omega arith in
                      absurd (ne (sym (entry_at_place y order (o.all y within)) ∙ ap (entry_at order) e ∙ is))
                ] in
                get_or-set_other table (get_or order k d) y k (length order) ne ∙ t.at y within before
          ];
    }

absent : (y : ℕ) (order : List ℕ) → ((i : ℕ) → i < length order → entry_at order i < y) → place_of y order ≡ length order
absent y [] h = refl
absent y (x ∷ order) h =
    let low : x < y = h 0 (omega arith) in
    let rest = absent y order (λ i l. h (suc i) (omega arith)) in
    elim (x == y) as (λ t. (x == y) ≡ t → (if t then 0 else place_of y order + 1) ≡ suc (length order)) [
      | true ↦ λ e. let same = eqb-true x y e in absurd (omega arith)
      | false ↦ λ e. omega arith
    ] refl

pub tabled_all : (order table : List ℕ) → is_permutation_of (length order) order ≡ true → Tabled order (length order) table → HasPlaces order table
tabled_all order table p t =
    let o : Orders (length order) order = orders_of_test (length order) order p in
    record {
      at = λ y.
          elim (bool_tells (nat_lt y (length order))) [
            | inl f ↦ let l = ltb-true y (length order) f in t.at y l (place_below y order (o.all y l))
            | inr f ↦
                let high = ltb-false y (length order) f in
                let past : length table ≤ y = let long = t.long in omega arith in
                get_or_past table y (length order) past
                ∙ sym (absent y order (λ i l. let below = entry_below (length order) order o i l in omega arith))
          ];
    }
