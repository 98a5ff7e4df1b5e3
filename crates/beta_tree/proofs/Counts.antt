-- Facts about the number of children in a dense tree.
use Rattle.std.proofs.Common.{◌≡◌, ◌≢◌, ℕ, zero, suc, ◌+◌, ◌<◌, ◌≤◌, ◌==◌, true, false, ◌⊎◌, inl, inr, List, [], ◌∷◌, max, refl, sym, ◌∙◌, arith}
use Rattle.std.proofs.lemmas.Bool.{eqb-true, eqb-false, ltb-true, ltb-false}
use Rattle.std.proofs.lemmas.Map.Steps.{length-le_from_distinct_below, le-length_from_below}
use Rattle.std.specs.List.{list_any}
use Rattle.std.specs.Set.{distinct_count, unique_keys}
use Rattle.std.proofs.Math.Dec.{eqb, ltb}
use Rattle.beta_tree.proofs.Distinct.{member_from_In, In_from_member, member_of_unique, unique_distinct}
use Rattle.beta_tree.specs.Vectors.{In}
use Rattle.beta_tree.proofs.Places.{bool_tells, same_yes}

eq_or_below : (q x : ℕ) → q < x + 1 → (q ≡ x) ⊎ (q < x)
eq_or_below q x l = elim (bool_tells (q == x)) [ inl t ↦ inl (eqb-true q x t) | inr f ↦ inr (let ne : q ≢ x = eqb-false q x f in omega arith) ]

below_or_from : (q x : ℕ) → (q < x) ⊎ (x ≤ q)
below_or_from q x = elim (bool_tells (ltb q x)) [ inl t ↦ inl (ltb-true q x t) | inr f ↦ inr (ltb-false q x f) ]

-- with x each lesser number
abbrev pub Closed : List ℕ → Type 0
Closed xs = (x y : ℕ) → In x xs → y < x → In y xs

pub count_of_range : (n : ℕ) (xs : List ℕ) → ((x : ℕ) → x < n → In x xs) → ((x : ℕ) → In x xs → x < n) → distinct_count eqb xs ≡ n
count_of_range n xs all only =
    let low : n ≤ distinct_count eqb xs = le-length_from_below (unique_keys eqb xs) n (λ q h. member_of_unique eqb eqb-true same_yes q xs ∙ member_from_In eqb eqb-true same_yes q xs (all q h)) in
    let high : distinct_count eqb xs ≤ n = length-le_from_distinct_below (unique_keys eqb xs) n (unique_distinct eqb eqb-true same_yes xs) (λ q h. only q (In_from_member eqb eqb-true same_yes q xs (sym (member_of_unique eqb eqb-true same_yes q xs) ∙ h))) in
    omega arith

-- in a list that has with each number each lesser one, the members are the numbers below the count of distinct members
pub below_count : (xs : List ℕ) → Closed xs → (x : ℕ) → In x xs → x < distinct_count eqb xs
below_count xs closed x h =
    let low : x + 1 ≤ distinct_count eqb xs =
    le-length_from_below (unique_keys eqb xs) (x + 1) (λ q l. member_of_unique eqb eqb-true same_yes q xs ∙ member_from_In eqb eqb-true same_yes q xs (elim (eq_or_below q x l) [ inl e ↦ rw e h | inr less ↦ closed x q h less ])) in
    omega arith

pub above_count : (xs : List ℕ) → Closed xs → (x : ℕ) → x < distinct_count eqb xs → In x xs
above_count xs closed x h =
    elim (bool_tells (list_any (eqb x) xs)) [
      | inl t ↦ In_from_member eqb eqb-true same_yes x xs t
      | inr f ↦
          let high : distinct_count eqb xs ≤ x =
          length-le_from_distinct_below (unique_keys eqb xs) x (unique_distinct eqb eqb-true same_yes xs) (λ q m.
          let i : In q xs = In_from_member eqb eqb-true same_yes q xs (sym (member_of_unique eqb eqb-true same_yes q xs) ∙ m) in
          elim (below_or_from q x) [
            | inl less ↦ less
            | inr from ↦
                let j : In x xs = elim (eq_or_below x q (omega arith)) [ inl e ↦ rw e i | inr less ↦ closed q x i less ] in
                absurd (let t : true ≡ false = sym (member_from_In eqb eqb-true same_yes x xs j) ∙ f in cc)
          ]) in
          absurd (omega arith)
    ]

-- one more than the greatest number of a list, 0 for the empty list
abbrev pub past_greatest : List ℕ → ℕ
past_greatest [] = 0
past_greatest (x ∷ xs) = max (x + 1) (past_greatest xs)

past_all : (xs : List ℕ) (x : ℕ) → In x xs → x < past_greatest xs
past_all [] x h = absurd h
past_all (y ∷ xs) x (inl e) = omega arith
past_all (y ∷ xs) x (inr h) = let l = past_all xs x h in omega arith

greatest_in : (xs : List ℕ) (m : ℕ) → past_greatest xs ≡ m + 1 → In m xs
greatest_in [] m e = absurd (omega arith)
greatest_in (y ∷ xs) m e =
    elim (bool_tells (y == m)) [
      | inl t ↦ inl (eqb-true y m t)
      | inr f ↦ let ne : y ≢ m = eqb-false y m f in inr (greatest_in xs m (omega arith))
    ]

-- where each lesser number is a member too, that is the count of distinct members
pub past_is_count : (xs : List ℕ) → Closed xs → past_greatest xs ≡ distinct_count eqb xs
past_is_count xs closed =
    let high : past_greatest xs ≤ distinct_count eqb xs =
    elim (past_greatest xs) as (λ n. past_greatest xs ≡ n → n ≤ distinct_count eqb xs) [
      | zero ↦ λ e. omega arith
      | suc m ↦ λ e. let b = below_count xs closed m (greatest_in xs m (omega arith)) in omega arith
    ] refl in
    elim (bool_tells (ltb (past_greatest xs) (distinct_count eqb xs))) [
      | inr f ↦ let low = ltb-false (past_greatest xs) (distinct_count eqb xs) f in omega arith
      | inl t ↦ let l = past_all xs (past_greatest xs) (above_count xs closed (past_greatest xs) (ltb-true (past_greatest xs) (distinct_count eqb xs) t)) in absurd (omega arith)
    ]
