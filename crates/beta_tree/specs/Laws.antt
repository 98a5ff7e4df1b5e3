-- What holds of the operations together, for any tree.
use Rattle.std.specs.Prelude.{◌≡◌, ℕ, ◌+◌, ◌<◌, ◌≤◌, ◌^◌, pos, ◌⊎◌, Ok, List, [], ◌∷◌, length, map}
use Rattle.suite_base.specs.Sequences.{BeforeBy}
use Rattle.std.specs.List.{range_with_len}
use Rattle.beta_tree.specs.Vectors.{children_of, In, IsTree, LongerUnder, dense_of}
use Rattle.beta_tree.specs.Edits.{fissioned, fused, place_of, with_level, make_room, below, front, last}
use Rattle.beta_tree.specs.Answers.{fission_answer, fuse_answer, reorder_answer, level_answer, leaf_answer}

-- u is before v in lexicographic order: they differ at a place that both have, and u has the lesser number at the first such place
abbrev pub Before : List ℕ → List ℕ → Type 0
Before u v = BeforeBy (λ x y. x < y) u v

-- a fuse of a loop with the loop that a fission made of its children gives the vectors back
abbrev pub FuseUndoesFission : Type 0
FuseUndoesFission = (P : List ℕ) (c : ℕ) (V W : List (List ℕ)) → IsTree V → fission_answer P c V ≡ Ok W → fuse_answer P W ≡ Ok V

-- the order that undoes order: entry k is the place of k in it
abbrev pub inverse_of : List ℕ → List ℕ
inverse_of order = map (λ k. place_of k order) (range_with_len 0 (length order))

-- a reorder by the inverse order gives the vectors back
abbrev pub ReorderUndoesReorder : Type 0
ReorderUndoesReorder = (P order : List ℕ) (V W : List (List ℕ)) → IsTree V → reorder_answer P order V ≡ Ok W → reorder_answer P (inverse_of order) W ≡ Ok V

-- fission keeps the lexicographic order of any two vectors
abbrev pub FissionKeepsOrder : Type 0
FissionKeepsOrder = (P : List ℕ) (c : ℕ) (u v : List ℕ) → Before u v → Before (fissioned P c u) (fissioned P c v)

-- fuse keeps the lexicographic order of any two vectors of a tree
abbrev pub FuseKeepsOrder : Type 0
FuseKeepsOrder = (P : List ℕ) (V W : List (List ℕ)) → IsTree V → fuse_answer P V ≡ Ok W → (u v : List ℕ) → In u V → In v V → Before u v → Before (fused P (children_of P V) u) (fused P (children_of P V) v)

-- a new level keeps the lexicographic order of any two vectors
abbrev pub LevelKeepsOrder : Type 0
LevelKeepsOrder = (P : List ℕ) (k : ℕ) → length P ≤ k → (u v : List ℕ) → Before u v → Before (with_level P k u) (with_level P k v)

-- room for a new leaf after P keeps the lexicographic order of any two vectors
abbrev pub LeafKeepsOrder : Type 0
LeafKeepsOrder = (P u v : List ℕ) → Before u v → Before (below (front P) (make_room (last P)) u) (below (front P) (make_room (last P)) v)

-- what the operations make of a tree is a tree
abbrev pub AnswersAreTrees : Type 0
AnswersAreTrees =
    ((P : List ℕ) (c : ℕ) (V W : List (List ℕ)) → IsTree V → fission_answer P c V ≡ Ok W → IsTree W)
    × ((P : List ℕ) (V W : List (List ℕ)) → IsTree V → fuse_answer P V ≡ Ok W → IsTree W)
    × ((P order : List ℕ) (V W : List (List ℕ)) → IsTree V → reorder_answer P order V ≡ Ok W → IsTree W)
    × ((P : List ℕ) (k : ℕ) (V W : List (List ℕ)) → IsTree V → length P ≤ k → LongerUnder P k V → level_answer P k V ≡ Ok W → IsTree W)
    × ((P : List ℕ) (V W : List (List ℕ)) → IsTree V → length V + 1 < 2 ^ 32 → leaf_answer P V ≡ Ok W → IsTree W)

-- the dense numbering leaves dense vectors as they are
abbrev pub DenseStays : Type 0
DenseStays = (V : List (List ℕ)) → IsTree V → dense_of (map (λ v. map pos v) V) ≡ V
