-- The lexicographic order on stamps.
use Rattle.suite_base.specs.Sequences.{BeforeBy}
use Rattle.std.specs.Prelude.{◌≡◌, ◌⊎◌, List, [], ◌∷◌, ℤ, ◌<ℤ◌}

-- the lists differ at a place that both have, and p has the lesser number at the first such place
abbrev pub Before : List ℤ → List ℤ → Type 0
Before p q = BeforeBy (λ x y. x <ℤ y) p q

-- p is the beginning of q, or all of it
abbrev pub IsPrefix : List ℤ → List ℤ → Type 0
IsPrefix [] q = Unit {0}
IsPrefix (x ∷ p) [] = ⊥
IsPrefix (x ∷ p) (y ∷ q) = (x ≡ y) × IsPrefix p q
