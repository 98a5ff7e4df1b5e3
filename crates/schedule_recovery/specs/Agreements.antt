-- In how many first entries neighbours agree at most.
use Rattle.std.specs.Prelude.{ℕ, List, [], ◌∷◌, max}
use Rattle.beta_trails.specs.Trails.{agreement}

-- the greatest of this number and the agreements of v with the first of these vectors and of each of them with the next
abbrev pub most_from : ℕ → List ℕ → List (List ℕ) → ℕ
most_from n v [] = n
most_from n v (w ∷ W) = most_from (max (agreement v w) n) w W
