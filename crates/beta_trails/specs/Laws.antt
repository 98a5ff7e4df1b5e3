-- What holds of trails, and what fission, fuse and reorder make of them.
use Rattle.std.specs.Prelude.{◌≡◌, ℕ, ◌+◌, ◌-◌, ◌<◌, ◌^◌, true, Ok, List, [], ◌∷◌, ◌++◌, length, take, map}
use Rattle.beta_tree.specs.Vectors.{IsTree}
use Rattle.beta_tree.specs.Answers.{fission_answer, fuse_answer, reorder_answer}
use Rattle.beta_tree.specs.Edits.{is_permutation_of, place_of}
use Rattle.beta_trails.specs.Trails.{Step, zeros, entry, trail, trail_end, steps_from, Agreeing, AllBelow, Rising, ranked}

-- a tree's vectors in rising order are the trail of their agreements and lengths
abbrev pub SortedTreeIsTrail : Type 0
SortedTreeIsTrail = (v : List ℕ) (V : List (List ℕ)) → IsTree (v ∷ V) → Rising v V → v ∷ V ≡ trail (zeros (length v)) (steps_from v V)

-- the agreements of a tree's vectors in rising order are below the lengths of both
abbrev pub SortedTreeAgrees : Type 0
SortedTreeAgrees = (v : List ℕ) (V : List (List ℕ)) → Rising v V → Agreeing (length v) (steps_from v V)

-- fewer than 2^32 vectors, none of them empty, with agreements below both lengths: their trail is a tree
abbrev pub TrailIsTree : Type 0
TrailIsTree = (m : ℕ) (steps : List Step) → 0 < m → length steps + 1 < 2 ^ 32 → Agreeing m steps → IsTree (trail (zeros m) steps)

-- the loop whose fission parts the vector at the end of these steps from the next, with which it agrees in n entries
abbrev pub parted_loop : ℕ → ℕ → List Step → List ℕ
parted_loop m n before = take n (trail_end (zeros m) before)

-- the child at which that loop is parted
abbrev pub parted_child : ℕ → ℕ → List Step → ℕ
parted_child m n before = entry (trail_end (zeros m) before) n + 1

-- a fission between two vectors that agree in n entries, n at least 1, makes it n - 1, and nothing else changes
abbrev pub FissionParts : Type 0
FissionParts =
    (m n l : ℕ) (before more : List Step) → 0 < n → 0 < m → length (before ++ (n, l) ∷ more) + 1 < 2 ^ 32 → Agreeing m (before ++ (n, l) ∷ more)
    → fission_answer (parted_loop m n before) (parted_child m n before) (trail (zeros m) (before ++ (n, l) ∷ more)) ≡ Ok (trail (zeros m) (before ++ (n - 1, l) ∷ more))

-- a fuse between two vectors that agree in n - 1 entries, n at least 1 and below both lengths, makes it n, and nothing else changes
abbrev pub FuseJoins : Type 0
FuseJoins =
    (m n l : ℕ) (before more : List Step) → 0 < n → 0 < m → length (before ++ (n, l) ∷ more) + 1 < 2 ^ 32 → Agreeing m (before ++ (n, l) ∷ more)
    → fuse_answer (parted_loop m n before) (trail (zeros m) (before ++ (n - 1, l) ∷ more)) ≡ Ok (trail (zeros m) (before ++ (n, l) ∷ more))

-- vectors whose neighbours agree in no entry are 0, 1 and so on with zeros behind
abbrev pub ApartIsRanked : Type 0
ApartIsRanked = (m : ℕ) (lengths : List ℕ) → 0 < m → trail (zeros m) (map (λ l. (0, l)) lengths) ≡ ranked 0 (m ∷ lengths)

-- vectors of these lengths, with the place of r and of its successors in order as their first entries and zeros behind
abbrev pub placed_from : ℕ → List ℕ → List ℕ → List (List ℕ)
placed_from r order [] = []
placed_from r order (l ∷ lengths) = (place_of r order ∷ zeros (l - 1)) ∷ placed_from (r + 1) order lengths

-- a reorder of all such vectors gives the vector with rank r its place in order
abbrev pub ReorderPlaces : Type 0
ReorderPlaces =
    (order : List ℕ) (lengths : List ℕ) → 0 < length lengths → is_permutation_of (length lengths) order ≡ true
    → reorder_answer [] order (ranked 0 lengths) ≡ Ok (placed_from 0 order lengths)

-- where all neighbours before agree in fewer entries, the loop is parted at its child 1
abbrev pub FirstIsPartedAtOne : Type 0
FirstIsPartedAtOne = (m n : ℕ) (before : List Step) → Agreeing m before → AllBelow n before → parted_child m n before ≡ 1
