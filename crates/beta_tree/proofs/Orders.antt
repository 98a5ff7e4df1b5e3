-- Reorder keeps the children of a loop dense and free of prefixes.
use Rattle.std.proofs.Common.{◌≡◌, ◌≢◌, ℕ, zero, suc, ◌+◌, ◌<◌, ◌≤◌, ◌==◌, nat_lt, Bool, true, false, if◌then◌else◌, ◌&&◌, ◌⊎◌, inl, inr, List, [], ◌∷◌, ◌++◌, length, map, refl, sym, ◌∙◌, ap, subst, arith}
use Rattle.std.proofs.lemmas.Bool.{eqb-true, eqb-false, ltb-true, ltb-false}
use Rattle.std.proofs.lemmas.Map.Steps.{le-length_from_below}
use Rattle.std.specs.List.{list_any}
use Rattle.std.proofs.Math.Dec.{eqb}
use Rattle.beta_tree.specs.Vectors.{In, Apart, IsDense}
use Rattle.beta_tree.specs.Edits.{place_of, renumbered, has_all_below, is_permutation_of}
use Rattle.beta_tree.proofs.Distinct.{member_from_In, In_from_member}
use Rattle.beta_tree.proofs.Places.{bool_tells, same_yes, In-map, from_In-map}

pub and_left : (a b : Bool) → (a && b) ≡ true → a ≡ true
and_left true b e = refl
and_left false b e = absurd (cc)

pub and_right : (a b : Bool) → (a && b) ≡ true → b ≡ true
and_right true b e = e
and_right false b e = absurd (cc)

all_below : (n : ℕ) (order : List ℕ) → has_all_below n order ≡ true → (k : ℕ) → k < n → list_any (eqb k) order ≡ true
all_below zero order h k l = absurd (omega arith)
all_below (suc n) order h k l =
    elim (bool_tells (k == n)) [
      | inl t ↦ rw (eqb-true k n t) (and_left (list_any (eqb n) order) (has_all_below n order) h)
      | inr f ↦ let ne : k ≢ n = eqb-false k n f in all_below n order (and_right (list_any (eqb n) order) (has_all_below n order) h) k (omega arith)
    ]

-- order lists each number below n once
pub record Orders (n : ℕ) (order : List ℕ) : Type 0 where
  pub long : length order ≡ n
  pub all : (k : ℕ) → k < n → In k order

pub orders_of_test : (n : ℕ) (order : List ℕ) → is_permutation_of n order ≡ true → Orders n order
orders_of_test n order h = record {
  long = eqb-true (length order) n (and_left (length order == n) (has_all_below n order) h);
  all = λ k l. In_from_member eqb eqb-true same_yes k order (all_below n order (and_right (length order == n) (has_all_below n order) h) k l);
}

-- the entry at a place, and the list without it

abbrev pub entry_at : List ℕ → ℕ → ℕ
entry_at [] i = 0
entry_at (x ∷ xs) zero = x
entry_at (x ∷ xs) (suc i) = entry_at xs i

abbrev pub without_at : List ℕ → ℕ → List ℕ
without_at [] i = []
without_at (x ∷ xs) zero = xs
without_at (x ∷ xs) (suc i) = x ∷ without_at xs i

length_without : (xs : List ℕ) (i : ℕ) → i < length xs → length (without_at xs i) + 1 ≡ length xs
length_without [] i l = absurd (omega arith)
length_without (x ∷ xs) zero l = omega arith
length_without (x ∷ xs) (suc i) l = let less : i < length xs = omega arith in let e = length_without xs i less in omega arith

in_without : (a : ℕ) (xs : List ℕ) (i : ℕ) → In a xs → (entry_at xs i ≡ a) ⊎ In a (without_at xs i)
in_without a [] i h = absurd h
in_without a (x ∷ xs) zero (inl e) = inl e
in_without a (x ∷ xs) zero (inr h) = inr h
in_without a (x ∷ xs) (suc i) (inl e) = inr (inl e)
in_without a (x ∷ xs) (suc i) (inr h) = elim (in_without a xs i h) [ inl e ↦ inl e | inr k ↦ inr (inr k) ]

in_entry : (xs : List ℕ) (i : ℕ) → i < length xs → In (entry_at xs i) xs
in_entry [] i l = absurd (omega arith)
in_entry (x ∷ xs) zero l = inl refl
in_entry (x ∷ xs) (suc i) l = inr (in_entry xs i (omega arith))

-- an entry that stands at an earlier place too is still in the list without its later place
in_before : (xs : List ℕ) (i j : ℕ) → i < j → j < length xs → entry_at xs i ≡ entry_at xs j → In (entry_at xs j) (without_at xs j)
in_before [] i j l m e = absurd (omega arith)
in_before (x ∷ xs) i zero l m e = absurd (omega arith)
in_before (x ∷ xs) zero (suc j) l m e = inl e
in_before (x ∷ xs) (suc i) (suc j) l m e = inr (in_before xs i j (omega arith) (omega arith) e)

-- the place of a number: that of its first occurrence

pub entry_at_place : (a : ℕ) (xs : List ℕ) → In a xs → entry_at xs (place_of a xs) ≡ a
entry_at_place a [] h = absurd h
entry_at_place a (x ∷ xs) h =
    elim (x == a) as (λ t. (x == a) ≡ t → entry_at (x ∷ xs) (if t then 0 else place_of a xs + 1) ≡ a) [
      | true ↦ λ e. eqb-true x a e
      | false ↦ λ e.
          let more : In a xs = elim h [ inl same ↦ absurd (eqb-false x a e same) | inr k ↦ k ] in
          let next : place_of a xs + 1 ≡ suc (place_of a xs) = omega arith in
          rw next (entry_at_place a xs more)
    ] refl

pub place_below : (a : ℕ) (xs : List ℕ) → In a xs → place_of a xs < length xs
place_below a [] h = absurd h
place_below a (x ∷ xs) h =
    elim (x == a) as (λ t. (x == a) ≡ t → (if t then 0 else place_of a xs + 1) < length (x ∷ xs)) [
      | true ↦ λ e. omega arith
      | false ↦ λ e.
          let more : In a xs = elim h [ inl same ↦ absurd (eqb-false x a e same) | inr k ↦ k ] in
          let less = place_below a xs more in
          omega arith
    ] refl

place_first : (xs : List ℕ) (i : ℕ) → i < length xs → place_of (entry_at xs i) xs ≤ i
place_first [] i l = absurd (omega arith)
place_first (x ∷ xs) zero l = rw (same_yes x) (omega arith)
place_first (x ∷ xs) (suc i) l =
    elim (x == entry_at xs i) as (λ t. (if t then 0 else place_of (entry_at xs i) xs + 1) ≤ suc i) [
      | true ↦ omega arith
      | false ↦ let low = place_first xs i (omega arith) in omega arith
    ]

-- in a permutation of the numbers below n, the entry at a place has that place
pub place_of_entry : (n : ℕ) (order : List ℕ) → Orders n order → (i : ℕ) → i < n → place_of (entry_at order i) order ≡ i
place_of_entry n order o i l =
    let within : i < length order = let e = o.long in omega arith in
    let low = place_first order i within in
    elim (bool_tells (nat_lt (place_of (entry_at order i) order) i)) [
      | inr f ↦ let high = ltb-false (place_of (entry_at order i) order) i f in omega arith
      | inl t ↦
          let less : place_of (entry_at order i) order < i = ltb-true (place_of (entry_at order i) order) i t in
          let twice : In (entry_at order i) (without_at order i) =
          in_before order (place_of (entry_at order i) order) i less within (entry_at_place (entry_at order i) order (in_entry order i within)) in
          let short = length_without order i within in
          let long = le-length_from_below (without_at order i) n (λ q m. member_from_In eqb eqb-true same_yes q (without_at order i)
          (elim (in_without q order i (o.all q m)) [ inl e ↦ subst (λ z. In z (without_at order i)) e twice | inr k ↦ k ])) in
          let e = o.long in
          absurd (omega arith)
    ]

-- each entry of a permutation of the numbers below n is below n
pub entry_below : (n : ℕ) (order : List ℕ) → Orders n order → (i : ℕ) → i < n → entry_at order i < n
entry_below n order o i l =
    elim (bool_tells (nat_lt (entry_at order i) n)) [
      | inl t ↦ ltb-true (entry_at order i) n t
      | inr f ↦
          let high = ltb-false (entry_at order i) n f in
          let within : i < length order = let e = o.long in omega arith in
          let short = length_without order i within in
          let long = le-length_from_below (without_at order i) n (λ q m. member_from_In eqb eqb-true same_yes q (without_at order i)
          (elim (in_without q order i (o.all q m)) [ inl e ↦ absurd (omega arith) | inr k ↦ k ])) in
          let e = o.long in
          absurd (omega arith)
    ]

-- the children of a loop, which are the numbers below n
pub record ChildrenBelow (n : ℕ) (W : List (List ℕ)) : Type 0 where
  pub below_n : (y : ℕ) (w : List ℕ) → In (y ∷ w) W → y < n
  pub child : (y : ℕ) → y < n → (w : List ℕ) × In (y ∷ w) W

module _ (n : ℕ) (order : List ℕ) (W : List (List ℕ)) (o : Orders n order) (s : ChildrenBelow n W) where
  same_place : (x y : ℕ) → x < n → y < n → place_of x order ≡ place_of y order → x ≡ y
  same_place x y l m e = sym (entry_at_place x order (o.all x l)) ∙ (ap (entry_at order) e ∙ entry_at_place y order (o.all y m))

  pub reorder_apart : (u v : List ℕ) → In u W → In v W → Apart u v → Apart (renumbered order u) (renumbered order v)
  reorder_apart [] v i j a = absurd a
  reorder_apart (x ∷ u) [] i j a = absurd a
  reorder_apart (x ∷ u) (y ∷ v) i j (inl ne) = inl (λ e. ne (same_place x y (s.below_n x u i) (s.below_n y v j) e))
  reorder_apart (x ∷ u) (y ∷ v) i j (inr a) = inr a

  renumbered_is : (v u : List ℕ) (x : ℕ) → renumbered order v ≡ x ∷ u → (a : ℕ) × (v ≡ a ∷ u) × (place_of a order ≡ x)
  renumbered_is [] u x e = absurd (cc)
  renumbered_is (a ∷ v) u x e = let e2 : v ≡ u = cc in let e3 : place_of a order ≡ x = cc in (a, ap (λ z. a ∷ z) e2, e3)

  pub reorder_dense : IsDense W → IsDense (map (renumbered order) W)
  reorder_dense d [] x y w h l =
      let (v, i, e) = from_In-map (renumbered order) (x ∷ w) W h in
      let (a, is, at) = renumbered_is v w x e in
      let low : a < n = s.below_n a w (subst (λ z. In z W) is i) in
      let less : y < n = let k = place_below a order (o.all a low) in let e4 = o.long in omega arith in
      let (u, j) = s.child (entry_at order y) (entry_below n order o y less) in
      (u, subst (λ z. In (z ∷ u) (map (renumbered order) W)) (place_of_entry n order o y less) (In-map (renumbered order) (entry_at order y ∷ u) W j))
  reorder_dense d (r ∷ R) x y w h l =
      let (v, i, e) = from_In-map (renumbered order) (r ∷ (R ++ x ∷ w)) W h in
      let (a, is, at) = renumbered_is v (R ++ x ∷ w) r e in
      let (u, j) = d (a ∷ R) x y w (subst (λ z. In z W) is i) l in
      (u, subst (λ z. In (z ∷ (R ++ y ∷ u)) (map (renumbered order) W)) at (In-map (renumbered order) (a ∷ (R ++ y ∷ u)) W j))
