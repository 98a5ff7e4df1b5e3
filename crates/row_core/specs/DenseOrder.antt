-- How the numbers of a vector follow from those of the greatest vector before it.
use Rattle.std.specs.Prelude.{ℕ, ◌+◌, ℤ, if◌then◌else◌, List, [], ◌∷◌, map}
use Rattle.std.specs.Ordering.{int_eq}

-- the numbers of v, where n has those of u: the same as long as v agrees with u, then one more than that of u, then zeros
abbrev pub numbered_after : List ℤ → List ℕ → List ℤ → List ℕ
numbered_after [] n v = map (λ _. 0) v
numbered_after (y ∷ u) [] v = map (λ _. 0) v
numbered_after (y ∷ u) (k ∷ n) [] = []
numbered_after (y ∷ u) (k ∷ n) (x ∷ v) = if int_eq y x then k ∷ numbered_after u n v else (k + 1) ∷ map (λ _. 0) v
