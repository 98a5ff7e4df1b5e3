-- An order is a permutation where each entry is below its length and none came before: flags of what came before tell.
use Rattle.std.proofs.Common.{◌≡◌, ℕ, zero, suc, ◌+◌, ◌<◌, ◌≤◌, ◌==◌, Bool, true, false, if◌then◌else◌, ◌||◌, ◌⊎◌, inl, inr, List, [], ◌∷◌, ◌++◌, length, take, replicate, get_or, set, refl, sym, ◌∙◌, subst, arith}
use Rattle.std.proofs.lemmas.Bool.{eqb-true, eqb-false}
use Rattle.std.proofs.lemmas.List.{length-replicate, length_push, length-set, get_or-set_other}
use Rattle.std.specs.List.{list_any}
use Rattle.std.proofs.Math.Dec.{eqb}
use Rattle.beta_tree.specs.Vectors.{In}
use Rattle.beta_tree.specs.Edits.{place_of, has_all_below}
use Rattle.beta_tree.proofs.Distinct.{In_from_member}
use Rattle.beta_tree.proofs.Places.{bool_tells, same_yes}
use Rattle.beta_tree.proofs.Orders.{Orders, orders_of_test, entry_at, place_of_entry, entry_below}

-- the number of flags that aren't set
abbrev pub unset_count : List Bool → ℕ
unset_count [] = 0
unset_count (flag ∷ flags) = if flag then unset_count flags else unset_count flags + 1

-- the set flags of n are those of the entries that came before, which differ
pub record Marked (n : ℕ) (before : List ℕ) (flags : List Bool) : Type 0 where
  pub long : length flags ≡ n
  pub unset : unset_count flags + length before ≡ n
  pub came : (k : ℕ) → get_or flags k false ≡ true → list_any (eqb k) before ≡ true

unset_replicate : (n : ℕ) → unset_count (replicate n false) ≡ n
unset_replicate zero = refl
unset_replicate (suc n) = let e = unset_replicate n in omega arith

none_set : (n k : ℕ) → get_or (replicate n false) k false ≡ false
none_set zero k = refl
none_set (suc n) zero = refl
none_set (suc n) (suc k) = none_set n k

pub marked_none : (n : ℕ) → Marked n [] (replicate n false)
marked_none n = record {
  long = length-replicate n false;
  unset = let e = unset_replicate n in omega arith;
  came = λ k h. let e = none_set n k in absurd (cc);
}

unset_set : (flags : List Bool) (k : ℕ) → k < length flags → get_or flags k false ≡ false → unset_count (set flags k true) + 1 ≡ unset_count flags
unset_set [] k l h = absurd (omega arith)
unset_set (true ∷ flags) zero l h = absurd (cc)
unset_set (false ∷ flags) zero l h = refl
unset_set (true ∷ flags) (suc k) l h = unset_set flags k (omega arith) h
unset_set (false ∷ flags) (suc k) l h = let e = unset_set flags k (omega arith) h in omega arith

-- a member stays one, and the new entry is one
came_more : (k x : ℕ) (before : List ℕ) → (list_any (eqb k) before ≡ true) ⊎ (k ≡ x) → list_any (eqb k) (before ++ x ∷ []) ≡ true
came_more k x [] (inl h) = absurd (cc)
came_more k x [] (inr e) = rw (e, same_yes x) refl
came_more k x (y ∷ before) h =
    elim (bool_tells (eqb k y)) [
      | inl t ↦ rw t refl
      | inr f ↦ rw f (came_more k x before (elim h [ inl g ↦ inl (subst (λ t. (t || list_any (eqb k) before) ≡ true) f g) | inr e ↦ inr e ]))
    ]

pub marked_more : (n : ℕ) (before : List ℕ) (flags : List Bool) (x : ℕ) → Marked n before flags → x < length flags → get_or flags x false ≡ false → Marked n (before ++ x ∷ []) (set flags x true)
marked_more n before flags x m l h = record {
  long = length-set flags x true ∙ m.long;
  unset = let e = unset_set flags x l h in let g = length_push before x in let u = m.unset in omega arith;
  came = λ k s.
      elim (bool_tells (k == x)) [
        | inl t ↦ came_more k x before (inr (eqb-true k x t))
        | inr f ↦ came_more k x before (inl (m.came k (sym (get_or-set_other flags x k true false (eqb-false k x f)) ∙ s)))
      ];
}

all_set : (flags : List Bool) (k : ℕ) → unset_count flags ≡ 0 → k < length flags → get_or flags k false ≡ true
all_set [] k u l = absurd (omega arith)
all_set (true ∷ flags) zero u l = refl
all_set (true ∷ flags) (suc k) u l = all_set flags k u (omega arith)
all_set (false ∷ flags) k u l = absurd (omega arith)

has_all_from : (n : ℕ) (order : List ℕ) → ((k : ℕ) → k < n → list_any (eqb k) order ≡ true) → has_all_below n order ≡ true
has_all_from zero order h = refl
has_all_from (suc n) order h = rw (h n (omega arith)) (has_all_from n order (λ k l. h k (omega arith)))

pub marked_all : (order : List ℕ) (flags : List Bool) → Marked (length order) order flags → has_all_below (length order) order ≡ true
marked_all order flags m =
    let none : unset_count flags ≡ 0 = let u = m.unset in omega arith in
    has_all_from (length order) order (λ k l. m.came k (all_set flags k none (let e = m.long in omega arith)))

-- where it is no permutation

orders_of_all : (order : List ℕ) → has_all_below (length order) order ≡ true → Orders (length order) order
orders_of_all order h = orders_of_test (length order) order (rw (same_yes (length order)) h)

pub entry_is : (order : List ℕ) (i d : ℕ) → i < length order → entry_at order i ≡ get_or order i d
entry_is [] i d l = absurd (omega arith)
entry_is (x ∷ order) zero d l = refl
entry_is (x ∷ order) (suc i) d l = entry_is order i d (omega arith)

pub lacks_large : (order : List ℕ) (i d : ℕ) → i < length order → length order ≤ get_or order i d → has_all_below (length order) order ≡ false
lacks_large order i d l large =
    elim (bool_tells (has_all_below (length order) order)) [
      | inr f ↦ f
      | inl t ↦
          let low = entry_below (length order) order (orders_of_all order t) i l in
          let e = entry_is order i d l in
          absurd (omega arith)
    ]

early : (x : ℕ) (order : List ℕ) (i : ℕ) → In x (take i order) → place_of x order < i
early x order zero h = absurd h
early x [] (suc i) h = absurd h
early x (y ∷ order) (suc i) (inl e) = rw (e, same_yes x) (omega arith)
early x (y ∷ order) (suc i) (inr h) =
    elim (y == x) as (λ t. (if t then 0 else place_of x order + 1) < suc i) [
      | true ↦ omega arith
      | false ↦ let l = early x order i h in omega arith
    ]

pub lacks_twice : (order : List ℕ) (i d : ℕ) → i < length order → list_any (eqb (get_or order i d)) (take i order) ≡ true → has_all_below (length order) order ≡ false
lacks_twice order i d l twice =
    elim (bool_tells (has_all_below (length order) order)) [
      | inr f ↦ f
      | inl t ↦
          let e = entry_is order i d l in
          let at : place_of (entry_at order i) order ≡ i = place_of_entry (length order) order (orders_of_all order t) i l in
          let low : place_of (get_or order i d) order < i = early (get_or order i d) order i (In_from_member eqb eqb-true same_yes (get_or order i d) (take i order) twice) in
          let same : place_of (get_or order i d) order ≡ i = subst (λ z. place_of z order ≡ i) e at in
          absurd (omega arith)
    ]
