-- Sequences under a map.
use Rattle.std.proofs.Common.{◌≡◌, inl, inr, List, [], ◌∷◌, map, refl, ◌∙◌, ap, subst}
use Rattle.scop_data.specs.Sequences.{In, Precedes, Distinct, fold_steps}

pub in_map : {X Y : Type 0} (f : X → Y) (a : X) (L : List X) → In a L → In (f a) (map f L)
in_map f a [] i = absurd i
in_map f a (x ∷ xs) (inl e) = inl (ap f e)
in_map f a (x ∷ xs) (inr i) = inr (in_map f a xs i)

-- a member of L whose image is b
pub record Source (X Y : Type 0) (f : X → Y) (L : List X) (b : Y) : Type 0 where
  pub at : X
  pub among : In at L
  pub image_is : f at ≡ b

pub from_in_map : {X Y : Type 0} (f : X → Y) (L : List X) (b : Y) → In b (map f L) → Source X Y f L b
from_in_map f [] b i = absurd i
from_in_map f (x ∷ xs) b (inl e) = record { at = x; among = inl refl; image_is = e }
from_in_map f (x ∷ xs) b (inr i) = let s = from_in_map f xs b i in record { at = s.at; among = inr s.among; image_is = s.image_is }

pub precedes_map : {X Y : Type 0} (f : X → Y) (L : List X) (a b : X) → Precedes L a b → Precedes (map f L) (f a) (f b)
precedes_map f [] a b p = absurd p
precedes_map f (x ∷ xs) a b (inl p) = inl (ap f p.0, in_map f b xs p.1)
precedes_map f (x ∷ xs) a b (inr p) = inr (precedes_map f xs a b p)

-- members that are distinct stay so where no two of them have one image
pub distinct_map : {X Y : Type 0} (f : X → Y) (L : List X) → ((a b : X) → In a L → In b L → f a ≡ f b → a ≡ b) → Distinct L → Distinct (map f L)
distinct_map f [] one d = tt
distinct_map {X = X} f (x ∷ xs) one d = (absent, distinct_map f xs (λ a b i j e. one a b (inr i) (inr j) e) d.1)
  where
    absent : ¬ In (f x) (map f xs)
    absent i = let s = from_in_map f xs (f x) i in d.0 (subst (λ w. In w xs) (one s.at x (inr s.among) (inl refl) s.image_is) s.among)

-- the same steps give one state
pub fold_map : {X Y S : Type 0} (f : X → Y) (step : X → S → S) (other : Y → S → S) (L : List X) → ((a : X) → In a L → (s : S) → step a s ≡ other (f a) s)
    → (s : S) → fold_steps step L s ≡ fold_steps other (map f L) s
fold_map f step other [] same s = refl
fold_map f step other (x ∷ xs) same s =
    ap (λ t. fold_steps step xs t) (same x (inl refl) s) ∙ fold_map f step other xs (λ a i t. same a (inr i) t) (other (f x) s)
