-- A list of beta vectors is a tree of loops: each vector is a leaf, and each of its proper beginnings that is not empty is a
-- loop round it. The statements keep their order in the list, whatever their places in the tree.
pub use Rattle.suite_base.specs.Sequences.{In}
pub use Rattle.row_core.specs.Dense.{heads, rests, lesser, dense_among, dense_of}
use Rattle.std.specs.Prelude.{◌≡◌, ◌≢◌, ℕ, ◌<◌, ◌^◌, ◌==◌, Bool, true, false, if◌then◌else◌, not, ◌&&◌, ◌⊎◌, Option, Some, None, List, [], ◌∷◌, ◌++◌, length}
use Rattle.std.specs.List.{filter_map, list_any}
use Rattle.std.specs.Set.{distinct_count}
use Rattle.std.proofs.Math.Dec.{eqb}

-- what follows P in v, where v begins with P
abbrev pub after : List ℕ → List ℕ → Option (List ℕ)
after [] v = Some v
after (p ∷ P) [] = None
after (p ∷ P) (x ∷ v) = if x == p then after P v else None

-- the statements under P: what follows P, in each vector that begins with P
abbrev pub under : List ℕ → List (List ℕ) → List (List ℕ)
under P V = filter_map (after P) V

-- how many children P has: the distinct next entries of the vectors under P
abbrev pub children_of : List ℕ → List (List ℕ) → ℕ
children_of P V = distinct_count eqb (heads (under P V))

-- a list is empty
abbrev pub is_nil : {A : Type 0} → List A → Bool
is_nil [] = true
is_nil (x ∷ xs) = false

-- no statement is under P
abbrev pub no_statement : List ℕ → List (List ℕ) → Bool
no_statement P V = is_nil (under P V)

-- a vector equals P
abbrev pub is_leaf : List ℕ → List (List ℕ) → Bool
is_leaf P V = list_any is_nil (under P V)

-- P is a loop: it isn't empty, statements are under it, and no vector equals it
abbrev pub is_loop : List ℕ → List (List ℕ) → Bool
is_loop P V = not (is_nil P) && not (no_statement P V) && not (is_leaf P V)

-- u and v differ at a place that both have: they aren't equal, and no one is a prefix of the other
abbrev pub Apart : {A : Type 0} → List A → List A → Type 0
Apart [] v = ⊥
Apart (x ∷ u) [] = ⊥
Apart (x ∷ u) (y ∷ v) = (x ≢ y) ⊎ Apart u v

-- v differs in this sense from each of V
abbrev pub ApartFromAll : {A : Type 0} → List A → List (List A) → Type 0
ApartFromAll v [] = Unit {0}
ApartFromAll v (w ∷ V) = Apart v w × ApartFromAll v V

-- no vector is equal to another or a prefix of it
abbrev pub PrefixFree : {A : Type 0} → List (List A) → Type 0
PrefixFree [] = Unit {0}
PrefixFree (v ∷ V) = ApartFromAll v V × PrefixFree V

-- no vector is empty
abbrev pub NoneEmpty : {A : Type 0} → List (List A) → Type 0
NoneEmpty V = In [] V → ⊥

-- the children of each loop are numbered 0, 1 and so on: where a vector has x at a place, there is for each lesser y one that
-- has y there and is the same before
abbrev pub IsDense : List (List ℕ) → Type 0
IsDense V = (P : List ℕ) (x y : ℕ) (w : List ℕ) → In (P ++ x ∷ w) V → y < x → (u : List ℕ) × In (P ++ y ∷ u) V

-- what beta vectors are: dense, none empty and none a prefix of another, and few enough that each entry fits 32 bits
pub record IsTree (V : List (List ℕ)) : Type 0 where
  pub few : length V < 2 ^ 32
  pub filled : NoneEmpty V
  pub free : PrefixFree V
  pub dense : IsDense V

-- each entry fits 32 bits
abbrev pub Fit : List ℕ → Type 0
Fit [] = Unit {0}
Fit (x ∷ v) = (x < 2 ^ 32) × Fit v

-- each entry of each vector fits 32 bits
abbrev pub AllFit : List (List ℕ) → Type 0
AllFit [] = Unit {0}
AllFit (v ∷ V) = Fit v × AllFit V

-- each vector under P is longer than k
abbrev pub LongerUnder : List ℕ → ℕ → List (List ℕ) → Type 0
LongerUnder P k V = (w : List ℕ) → In (P ++ w) V → k < length (P ++ w)
