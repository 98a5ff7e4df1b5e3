-- What the operations do to the lengths of vectors, and how large entries are.
use Rattle.std.specs.Prelude.{◌≡◌, ℕ, ◌+◌, ◌<◌, ◌≤◌, List, ◌∷◌, ◌++◌, length}
use Rattle.beta_tree.specs.Vectors.{In, IsTree}
use Rattle.beta_tree.specs.Edits.{fissioned, fused, reordered, with_level, below, front, last, make_room, next_sibling}

-- fission, fuse, reorder and the room for a new leaf keep the length of each vector
pub record KeepsLengths (f : List ℕ → List ℕ) : Type 0 where
  pub same : (v : List ℕ) → length (f v) ≡ length v

abbrev pub OperationsKeepLengths : Type 0
OperationsKeepLengths =
    ((P : List ℕ) (c : ℕ) → KeepsLengths (fissioned P c))
    × ((P : List ℕ) (n : ℕ) → KeepsLengths (fused P n))
    × ((P order : List ℕ) → KeepsLengths (reordered P order))
    × ((P : List ℕ) → KeepsLengths (below (front P) (make_room (last P))))

-- a new level adds one entry to each vector that begins with P, and no entry to another one
abbrev pub LevelAddsOne : Type 0
LevelAddsOne = (P w : List ℕ) (k : ℕ) → k ≤ length (P ++ w) → length (with_level P k (P ++ w)) ≡ length (P ++ w) + 1

-- the sibling right after a vector is as long
abbrev pub SiblingIsAsLong : Type 0
SiblingIsAsLong = (P : List ℕ) (x : ℕ) → length (next_sibling (x ∷ P)) ≡ length (x ∷ P)

-- each entry of a tree's vectors is below their number
abbrev pub EntriesAreFew : Type 0
EntriesAreFew = (V : List (List ℕ)) (P w : List ℕ) (x : ℕ) → IsTree V → In (P ++ x ∷ w) V → x < length V

-- no two of the vectors in a tree are equal: where one is P, the others before and behind it are not
abbrev pub LeafIsOne : Type 0
LeafIsOne = (V W : List (List ℕ)) (v u : List ℕ) → IsTree (V ++ v ∷ W) → In u (V ++ W) → u ≡ v → ⊥
