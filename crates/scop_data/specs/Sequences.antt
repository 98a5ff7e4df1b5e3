-- Lists as sequences of events: members, their order, runs and folds.
pub use Rattle.suite_base.specs.Sequences.{In}
use Rattle.std.specs.Prelude.{◌≡◌, ◌⊎◌, List, [], ◌∷◌, ℤ}
use Rattle.scop_data.specs.Order.{Before}

-- a stands in the list at some place before one of b
abbrev pub Precedes : {X : Type 0} → List X → X → X → Type 0
Precedes [] a b = ⊥
Precedes (x ∷ xs) a b = ((x ≡ a) × In b xs) ⊎ Precedes xs a b

-- no member stands in the list twice
abbrev pub Distinct : {X : Type 0} → List X → Type 0
Distinct [] = Unit {0}
Distinct (x ∷ xs) = (¬ In x xs) × Distinct xs

-- each member's stamp is before the stamp of the next one
abbrev pub Rising : {X : Type 0} → (X → List ℤ) → List X → Type 0
Rising stamp [] = Unit {0}
Rising stamp (x ∷ []) = Unit {0}
Rising stamp (x ∷ (y ∷ ys)) = Before (stamp x) (stamp y) × Rising stamp (y ∷ ys)

-- the members are exactly those of the domain, in the order of their stamps
pub record RunOf (X : Type 0) (Domain : X → Type 0) (stamp : X → List ℤ) (L : List X) : Type 0 where
  pub all : (a : X) → Domain a → In a L
  pub only : (a : X) → In a L → Domain a
  pub rising : Rising stamp L

-- both lists have the same members, each once, and any two that touch stand in the same order in both
pub record SameOrder (X : Type 0) (Touch : X → X → Type 0) (L M : List X) : Type 0 where
  pub once_left : Distinct L
  pub once_right : Distinct M
  pub into : (a : X) → In a L → In a M
  pub back : (a : X) → In a M → In a L
  pub kept : (a b : X) → Touch a b → Precedes L a b → Precedes M a b
  pub kept_back : (a b : X) → Touch a b → Precedes M a b → Precedes L a b

-- the state after the steps of the list's members, one after the other
abbrev pub fold_steps : {X S : Type 0} → (X → S → S) → List X → S → S
fold_steps step [] s = s
fold_steps step (x ∷ xs) s = fold_steps step xs (step x s)
