-- Facts about membership, about what follows a prefix, and about an edit below a prefix.
use Rattle.std.proofs.Common.{◌≡◌, ◌≢◌, ℕ, ◌==◌, Bool, true, false, if◌then◌else◌, ◌⊎◌, inl, inr, Option, Some, None, Bor, MatchOption, List, [], ◌∷◌, ◌++◌, map, refl, sym, ◌∙◌, ap, eq-eqb}
use Rattle.std.proofs.lemmas.Bool.{eqb-true}
use Rattle.std.specs.List.{cons_option}
use Rattle.std.specs.Option.{option_copied}
use Rattle.beta_tree.specs.Vectors.{after, under, heads, In}
use Rattle.beta_tree.specs.Edits.{below}

pub bool_tells : (b : Bool) → (b ≡ true) ⊎ (b ≡ false)
bool_tells true = inl refl
bool_tells false = inr refl

pub same_yes : (x : ℕ) → (x == x) ≡ true
same_yes x = eq-eqb x x refl

pub same_no : (x y : ℕ) → x ≢ y → (x == y) ≡ false
same_no x y ne = elim (bool_tells (x == y)) [ inl t ↦ absurd (ne (eqb-true x y t)) | inr f ↦ f ]

-- membership

pub In-map : {A B : Type 0} (f : A → B) (a : A) (xs : List A) → In a xs → In (f a) (map f xs)
In-map f a [] h = absurd h
In-map f a (x ∷ xs) (inl e) = inl (ap f e)
In-map f a (x ∷ xs) (inr h) = inr (In-map f a xs h)

pub from_In-map : {A B : Type 0} (f : A → B) (b : B) (xs : List A) → In b (map f xs) → (a : A) × In a xs × (f a ≡ b)
from_In-map f b [] h = absurd h
from_In-map f b (x ∷ xs) (inl e) = (x, inl refl, e)
from_In-map f b (x ∷ xs) (inr h) = let (a, i, e) = from_In-map f b xs h in (a, inr i, e)

-- what follows a prefix

pub after_append : (P w : List ℕ) → after P (P ++ w) ≡ Some w
after_append [] w = refl
after_append (p ∷ P) w = rw (same_yes p) (after_append P w)

pub after_is : (P v w : List ℕ) → after P v ≡ Some w → v ≡ P ++ w
after_is [] v w e = cc
after_is (p ∷ P) [] w e = absurd (cc)
after_is (p ∷ P) (x ∷ v) w e =
    elim (x == p) as (λ t. (x == p) ≡ t → (if t then after P v else None) ≡ Some w → x ∷ v ≡ p ∷ (P ++ w)) [
      | true ↦ λ t h. let same = eqb-true x p t in let more = after_is P v w h in cc
      | false ↦ λ t h. absurd (cc)
    ] refl e

pub after_is_strip : (P v : List ℕ) (r : Option (Bor (List ℕ))) → MatchOption r ((rest : List ℕ) → v ≢ P ++ rest) (λ x. v ≡ P ++ x.now) → option_copied r ≡ after P v
after_is_strip P v None h =
    elim (after P v) as (λ o. after P v ≡ o → None ≡ o) [ None ↦ λ e. refl | Some w ↦ λ e. absurd (h w (after_is P v w e)) ] refl
after_is_strip P v (Some x) h = rw h (sym (after_append P x.now))

-- the statements under a prefix

pub In-under : (P w : List ℕ) (V : List (List ℕ)) → In (P ++ w) V → In w (under P V)
In-under P w [] h = absurd h
In-under P w (v ∷ V) (inl e) = rw (e, after_append P w) (inl refl)
In-under P w (v ∷ V) (inr h) =
    elim (after P v) as (λ o. In w (cons_option o (under P V))) [ None ↦ In-under P w V h | Some u ↦ inr (In-under P w V h) ]

pub from_In-under : (P w : List ℕ) (V : List (List ℕ)) → In w (under P V) → In (P ++ w) V
from_In-under P w [] h = absurd h
from_In-under P w (v ∷ V) h =
    elim (after P v) as (λ o. after P v ≡ o → In w (cons_option o (under P V)) → (v ≡ P ++ w) ⊎ In (P ++ w) V) [
      | None ↦ λ e i. inr (from_In-under P w V i)
      | Some u ↦ λ e i. elim i [ inl same ↦ inl (after_is P v u e ∙ ap (λ t. P ++ t) same) | inr more ↦ inr (from_In-under P w V more) ]
    ] refl h

pub In-heads : {A : Type 0} (x : A) (w : List A) (V : List (List A)) → In (x ∷ w) V → In x (heads V)
In-heads x w [] h = absurd h
In-heads x w ([] ∷ V) (inl e) = absurd (cc)
In-heads x w ([] ∷ V) (inr h) = In-heads x w V h
In-heads x w ((y ∷ v) ∷ V) (inl e) = inl (cc)
In-heads x w ((y ∷ v) ∷ V) (inr h) = inr (In-heads x w V h)

pub from_In-heads : {A : Type 0} (x : A) (V : List (List A)) → In x (heads V) → (w : List A) × In (x ∷ w) V
from_In-heads x [] h = absurd h
from_In-heads x ([] ∷ V) h = let (w, i) = from_In-heads x V h in (w, inr i)
from_In-heads x ((y ∷ v) ∷ V) (inl e) = (v, inl (ap (λ t. t ∷ v) e))
from_In-heads x ((y ∷ v) ∷ V) (inr h) = let (w, i) = from_In-heads x V h in (w, inr i)

-- x is a child of P
pub child_of_prefix : (P : List ℕ) (x : ℕ) (w : List ℕ) (V : List (List ℕ)) → In (P ++ x ∷ w) V → In x (heads (under P V))
child_of_prefix P x w V h = In-heads x w (under P V) (In-under P (x ∷ w) V h)

pub vector_of_child : (P : List ℕ) (x : ℕ) (V : List (List ℕ)) → In x (heads (under P V)) → (w : List ℕ) × In (P ++ x ∷ w) V
vector_of_child P x V h = let (w, i) = from_In-heads x (under P V) h in (w, from_In-under P (x ∷ w) V i)

-- an edit below a prefix

pub below_append : (P : List ℕ) (f : List ℕ → List ℕ) (w : List ℕ) → below P f (P ++ w) ≡ P ++ f w
below_append [] f w = refl
below_append (p ∷ P) f w = rw (same_yes p, below_append P f w) refl

pub below_other : (P : List ℕ) (f : List ℕ → List ℕ) (v : List ℕ) → after P v ≡ None → below P f v ≡ v
below_other [] f v e = absurd (cc)
below_other (p ∷ P) f [] e = refl
below_other (p ∷ P) f (x ∷ v) e =
    elim (x == p) as (λ t. (if t then after P v else None) ≡ None → (if t then x ∷ below P f v else x ∷ v) ≡ x ∷ v) [
      | true ↦ λ h. ap (λ t. x ∷ t) (below_other P f v h)
      | false ↦ λ h. refl
    ] e
