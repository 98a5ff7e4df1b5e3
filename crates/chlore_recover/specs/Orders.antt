-- What is known of a tree's vectors in beta order.
use Rattle.std.specs.Prelude.{◌≡◌, ℕ, List, [], ◌∷◌, length, map}
use Rattle.beta_tree.specs.Vectors.{IsTree}
use Rattle.beta_trails.specs.Trails.{Rising}
use Rattle.chlore_recover.specs.Strategy.{Placed, ordered_from}
use Rattle.chlore_recover.specs.Drafted.{HaveSame}

-- the vectors of statements
abbrev pub vectors_of : List Placed → List (List ℕ)
vectors_of placed = map (λ e. e.1) placed

-- each vector is before the next one
abbrev pub Rises : List (List ℕ) → Type 0
Rises [] = Unit {0}
Rises (v ∷ V) = Rising v V

-- W is the tree V in rising order
pub record IsInOrder (V W : List (List ℕ)) : Type 0 where
  pub tree : IsTree W
  pub same : HaveSame V W
  pub rises : Rises W
  pub long : length W ≡ length V

-- the statements in beta order have a tree's vectors in rising order
abbrev pub OrderedRises : Type 0
OrderedRises = (V : List (List ℕ)) → IsTree V → IsInOrder V (vectors_of (ordered_from 0 V))
