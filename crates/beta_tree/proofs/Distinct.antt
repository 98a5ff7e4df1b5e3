-- Facts about the distinct members of a list, by a test that decides equality.
use Rattle.std.proofs.Common.{◌≡◌, Bool, true, false, cond, ◌||◌, inl, inr, List, [], ◌∷◌, refl, sym, ◌∙◌, ap}
use Rattle.std.specs.List.{list_any, AllByRecursion, IsDistinct}
use Rattle.std.specs.Set.{unique_keys, is_member}
use Rattle.beta_tree.specs.Vectors.{In}

module _ {K : Type 0} (eq : K → K → Bool) (right : (x y : K) → eq x y ≡ true → x ≡ y) (self : (x : K) → eq x x ≡ true) where
  pub member_from_In : (a : K) (xs : List K) → In a xs → list_any (eq a) xs ≡ true
  member_from_In a [] h = absurd h
  member_from_In a (x ∷ xs) (inl e) = rw (e, self a) refl
  member_from_In a (x ∷ xs) (inr h) = elim (eq a x) as (λ t. (t || list_any (eq a) xs) ≡ true) [ true ↦ refl | false ↦ member_from_In a xs h ]

  pub In_from_member : (a : K) (xs : List K) → list_any (eq a) xs ≡ true → In a xs
  In_from_member a [] h = absurd (cc)
  In_from_member a (x ∷ xs) h =
      elim (eq a x) as (λ t. eq a x ≡ t → (t || list_any (eq a) xs) ≡ true → In a (x ∷ xs)) [
        | true ↦ λ e g. inl (sym (right a x e))
        | false ↦ λ e g. inr (In_from_member a xs g)
      ] refl h

  pub member_of_unique : (a : K) (xs : List K) → list_any (eq a) (unique_keys eq xs) ≡ list_any (eq a) xs
  member_of_unique a [] = refl
  member_of_unique a (x ∷ xs) =
      elim (is_member eq xs x) as (λ t. is_member eq xs x ≡ t → list_any (eq a) (cond t (unique_keys eq xs) (x ∷ unique_keys eq xs)) ≡ (eq a x || list_any (eq a) xs)) [
        | true ↦ λ e. elim (eq a x) as (λ t. eq a x ≡ t → list_any (eq a) (unique_keys eq xs) ≡ (t || list_any (eq a) xs)) [
          | true ↦ λ s. member_of_unique a xs ∙ (let e2 = right a x s in rw e2 e)
          | false ↦ λ s. member_of_unique a xs
        ] refl
        | false ↦ λ e. ap (λ t. eq a x || t) (member_of_unique a xs)
      ] refl

  apart_from_absent : (x : K) (ys : List K) → is_member eq ys x ≡ false → AllByRecursion (λ y. eq x y ≡ false) ys
  apart_from_absent x [] h = tt
  apart_from_absent x (y ∷ ys) h =
      elim (eq x y) as (λ t. eq x y ≡ t → (t || is_member eq ys x) ≡ false → (eq x y ≡ false) × AllByRecursion (λ z. eq x z ≡ false) ys) [
        | true ↦ λ e g. absurd (cc)
        | false ↦ λ e g. (e, apart_from_absent x ys g)
      ] refl h

  pub distinct-cons : (x : K) (xs : List K) → is_member eq xs x ≡ false → IsDistinct eq xs → IsDistinct eq (x ∷ xs)
  unfolding IsDistinct
  distinct-cons x xs h d = (apart_from_absent x xs h, d)

  pub distinct-nil : IsDistinct eq []
  unfolding IsDistinct
  distinct-nil = tt

  pub unique_distinct : (xs : List K) → IsDistinct eq (unique_keys eq xs)
  unique_distinct [] = distinct-nil
  unique_distinct (x ∷ xs) =
      elim (is_member eq xs x) as (λ t. is_member eq xs x ≡ t → IsDistinct eq (cond t (unique_keys eq xs) (x ∷ unique_keys eq xs))) [
        | true ↦ λ e. unique_distinct xs
        | false ↦ λ e. distinct-cons x (unique_keys eq xs) (member_of_unique x xs ∙ e) (unique_distinct xs)
      ] refl
