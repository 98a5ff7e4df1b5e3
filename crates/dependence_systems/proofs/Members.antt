-- Members of lists that are made of lists.
use Rattle.std.proofs.Common.{◌≡◌, ◌⊎◌, inl, inr, ℕ, zero, suc, ◌+◌, ◌<◌, List, [], ◌∷◌, ◌++◌, map, length, Some, slice_get, refl, ap, sym, ◌∙◌, subst, arith}
use Rattle.std.specs.List.{flat_map, range_with_len}
use Rattle.std.proofs.lemmas.List.Concat.{flat_map-cons}
use Rattle.scop_core.specs.Sequences.{In}
use Rattle.dependence_systems.specs.Sides.{member}
use Rattle.dependence_systems.specs.Entries.{numbered}

pub in_left : {X : Type 0} (a : X) (xs ys : List X) → In a xs → In a (xs ++ ys)
in_left a [] ys h = absurd h
in_left a (x ∷ xs) ys (inl e) = inl e
in_left a (x ∷ xs) ys (inr h) = inr (in_left a xs ys h)

pub in_right : {X : Type 0} (a : X) (xs ys : List X) → In a ys → In a (xs ++ ys)
in_right a [] ys h = h
in_right a (x ∷ xs) ys h = inr (in_right a xs ys h)

pub in_either : {X : Type 0} (a : X) (xs ys : List X) → In a (xs ++ ys) → In a xs ⊎ In a ys
in_either a [] ys h = inr h
in_either a (x ∷ xs) ys (inl e) = inl (inl e)
in_either a (x ∷ xs) ys (inr h) = elim (in_either a xs ys h) [ inl i ↦ inl (inr i) | inr i ↦ inr i ]

-- a member of the list that f makes of some member
pub record From {X A : Type 0} (f : X → List A) (xs : List X) (a : A) : Type 0 where
  pub origin : X
  pub listed : In origin xs
  pub made : In a (f origin)

pub in_flat_map : {X A : Type 0} (f : X → List A) (xs : List X) (a : A) → From f xs a → In a (flat_map f xs)
in_flat_map f [] a h = absurd h.listed
in_flat_map f (x ∷ xs) a h =
    subst (λ t. In a t) (sym (flat_map-cons f x xs)) (by h.listed (λ i. in_flat_map f xs a (record { origin = h.origin; listed = i; made = h.made })))
  where
    by : In h.origin (x ∷ xs) → (In h.origin xs → In a (flat_map f xs)) → In a (f x ++ flat_map f xs)
    by (inl e) rest = in_left a (f x) (flat_map f xs) (subst (λ y. In a (f y)) (sym e) h.made)
    by (inr i) rest = in_right a (f x) (flat_map f xs) (rest i)

pub from_flat_map : {X A : Type 0} (f : X → List A) (xs : List X) (a : A) → In a (flat_map f xs) → From f xs a
from_flat_map f [] a h = absurd h
from_flat_map f (x ∷ xs) a h = elim (in_either a (f x) (flat_map f xs) (subst (λ t. In a t) (flat_map-cons f x xs) h)) [
  | inl i ↦ record { origin = x; listed = inl refl; made = i }
  | inr i ↦ let r = from_flat_map f xs a i in record { origin = r.origin; listed = inr r.listed; made = r.made }
]

-- what f makes of a member
pub record Image {X A : Type 0} (f : X → A) (xs : List X) (a : A) : Type 0 where
  pub origin : X
  pub listed : In origin xs
  pub made : f origin ≡ a

pub in_map : {X A : Type 0} (f : X → A) (xs : List X) (x : X) → In x xs → In (f x) (map f xs)
in_map f [] x h = absurd h
in_map f (y ∷ ys) x (inl e) = inl (ap f e)
in_map f (y ∷ ys) x (inr i) = inr (in_map f ys x i)

pub from_map : {X A : Type 0} (f : X → A) (xs : List X) (a : A) → In a (map f xs) → Image f xs a
from_map f [] a h = absurd h
from_map f (x ∷ xs) a (inl e) = record { origin = x; listed = inl refl; made = e }
from_map f (x ∷ xs) a (inr i) = let r = from_map f xs a i in record { origin = r.origin; listed = inr r.listed; made = r.made }

-- a member with its number
pub in_numbered : {X : Type 0} (k j : ℕ) (xs : List X) (x : X) → slice_get xs j ≡ Some x → In (k + j, x) (numbered k xs)
in_numbered k j [] x h = absurd (cc)
in_numbered k zero (y ∷ ys) x h = inl (ap (λ n. (n, y)) (omega arith) ∙ ap (λ z. (k + 0, z)) (some_is h))
  where
    some_is : {Y : Type 0} {a b : Y} → Some a ≡ Some b → a ≡ b
    some_is e = cc
in_numbered k (suc j) (y ∷ ys) x h = inr (subst (λ n. In (n, x) (numbered (k + 1) ys)) (omega arith) (in_numbered (k + 1) j ys x h))

pub record Numbered {X : Type 0} (k : ℕ) (xs : List X) (p : ℕ × X) : Type 0 where
  pub place : ℕ
  pub number_is : p.0 ≡ k + place
  pub member_is : slice_get xs place ≡ Some p.1

pub from_numbered : {X : Type 0} (k : ℕ) (xs : List X) (p : ℕ × X) → In p (numbered k xs) → Numbered k xs p
from_numbered k [] p h = absurd h
from_numbered k (x ∷ xs) p (inl e) = record { place = 0; number_is = sym (ap (λ q. q.0) e) ∙ omega arith; member_is = ap (λ q. Some q.1) e }
from_numbered k (x ∷ xs) p (inr i) =
    let r = from_numbered (k + 1) xs p i in record { place = suc r.place; number_is = r.number_is ∙ omega arith; member_is = r.member_is }

-- members from number 1 on
pub numbered_member : {X : Type 0} (xs : List X) (k : ℕ) (x : X) → member xs k ≡ Some x → In (k, x) (numbered 1 xs)
numbered_member xs zero x h = absurd (cc)
numbered_member xs (suc k) x h = subst (λ n. In (n, x) (numbered 1 xs)) (omega arith) (in_numbered 1 k xs x h)

pub member_numbered : {X : Type 0} (xs : List X) (p : ℕ × X) → In p (numbered 1 xs) → member xs p.0 ≡ Some p.1
member_numbered xs p h =
    let r = from_numbered 1 xs p h in
    let number : p.0 ≡ suc r.place = r.number_is ∙ omega arith in
    ap (λ n. member xs n) number ∙ r.member_is

-- numbers in a row
pub in_range : (k j n : ℕ) → j < n → In (k + j) (range_with_len k n)
in_range k j zero h = absurd (omega arith)
in_range k zero (suc n) h = inl (omega arith)
in_range k (suc j) (suc n) h = inr (subst (λ i. In i (range_with_len (k + 1) n)) (omega arith) (in_range (k + 1) j n (omega arith)))

pub from_range : (k n i : ℕ) → In i (range_with_len k n) → (j : ℕ) × (j < n) × (i ≡ k + j)
from_range k zero i h = absurd h
from_range k (suc n) i (inl e) = (0, omega arith, omega (arith, e))
from_range k (suc n) i (inr h) = let r = from_range (k + 1) n i h in (suc r.0, omega (arith, r.1), omega (arith, r.2))

-- a number from 1 to the length of a list is that of a member
some_at : {X : Type 0} (xs : List X) (j : ℕ) → j < length xs → (x : X) × (slice_get xs j ≡ Some x)
some_at [] j h = absurd (omega arith)
some_at (x ∷ xs) zero h = (x, refl)
some_at (x ∷ xs) (suc j) h = some_at xs j (omega arith)

within_at : {X : Type 0} (xs : List X) (j : ℕ) (x : X) → slice_get xs j ≡ Some x → j < length xs
within_at [] j x h = absurd (cc)
within_at (y ∷ ys) zero x h = omega arith
within_at (y ∷ ys) (suc j) x h = let r = within_at ys j x h in omega (arith, r)

pub member_of_range : {X : Type 0} (xs : List X) (k : ℕ) → In k (range_with_len 1 (length xs)) → (x : X) × (member xs k ≡ Some x)
member_of_range xs k h =
    let r = from_range 1 (length xs) k h in
    let s = some_at xs r.0 r.1 in
    let number : k ≡ suc r.0 = r.2 ∙ omega arith in
    (s.0, ap (λ n. member xs n) number ∙ s.1)

pub range_of_member : {X : Type 0} (xs : List X) (k : ℕ) (x : X) → member xs k ≡ Some x → In k (range_with_len 1 (length xs))
range_of_member xs zero x h = absurd (cc)
range_of_member xs (suc k) x h = subst (λ n. In n (range_with_len 1 (length xs))) (omega arith) (in_range 1 k (length xs) (within_at xs k x h))
