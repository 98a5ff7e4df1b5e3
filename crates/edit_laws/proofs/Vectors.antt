-- The vectors of the leaves after a command are the vectors after it.
use Rattle.std.proofs.Common.{◌≡◌, inl, inr, ℕ, suc, ◌+◌, ◌≤◌, Bool, true, false, if◌then◌else◌, List, [], ◌∷◌, ◌++◌, length, map, ℤ, refl, ap, sym, subst, ◌∙◌, arith}
use Rattle.std.specs.List.{flat_map}
use Rattle.std.proofs.lemmas.List.{map-append, length-map}
use Rattle.beta_tree.specs.Vectors.{ApartFromAll, PrefixFree}
use Rattle.beta_tree.specs.Edits.{same_vector, leaf_split, below, front, last, make_room, next_sibling}
use Rattle.beta_tree.proofs.Places.{bool_tells}
use Rattle.beta_tree.proofs.Leaves.{same_vector_yes}
use Rattle.clay_script.specs.declared.commands.Command.{Command}
use Rattle.clay_script.specs.declared.commands.Command.TheVariants.{Fission, Fuse, Reorder, Interchange, Skew, Shift, Reverse, Stripmine, Tile, Iss}
use Rattle.clay_commands.specs.declared.leaves.Leaf.{Leaf}
use Rattle.clay_commands.specs.Arguments.{natural}
use Rattle.clay_commands.specs.Drafts.{Draft, betas_of, statement_after, vector_after, halves, leaf_after, draft_after}
use Rattle.clay_commands.specs.Spots.{vectors_after}
use Rattle.clay_commands.proofs.Halves.{not_same, other_split, own_split}

-- the command makes one leaf of each
abbrev pub IsWhole : Command → Type 0
IsWhole (Iss p xs ns c) = ⊥
IsWhole other = Unit {0}

-- the leaf that it makes
abbrev pub whole_leaf : Command → List (List ℕ) → Leaf → Leaf
whole_leaf command V leaf = record leaf { beta = vector_after command V leaf.beta; statement = statement_after command leaf.beta leaf.statement }

pub one_leaf : (command : Command) (V : List (List ℕ)) (leaf : Leaf) → IsWhole command → leaf_after command V leaf ≡ whole_leaf command V leaf ∷ []
one_leaf (Fission p c) V leaf h = refl
one_leaf (Fuse p) V leaf h = refl
one_leaf (Reorder p order) V leaf h = refl
one_leaf (Interchange p k l) V leaf h = refl
one_leaf (Skew p k l f) V leaf h = refl
one_leaf (Shift p k v c) V leaf h = refl
one_leaf (Reverse p k) V leaf h = refl
one_leaf (Stripmine p k s) V leaf h = refl
one_leaf (Tile p k s t) V leaf h = refl
one_leaf (Iss p xs ns c) V leaf h = absurd h

pub whole_vectors : (command : Command) (V : List (List ℕ)) → IsWhole command → vectors_after command V ≡ map (vector_after command V) V
whole_vectors (Fission p c) V h = refl
whole_vectors (Fuse p) V h = refl
whole_vectors (Reorder p order) V h = refl
whole_vectors (Interchange p k l) V h = refl
whole_vectors (Skew p k l f) V h = refl
whole_vectors (Shift p k v c) V h = refl
whole_vectors (Reverse p k) V h = refl
whole_vectors (Stripmine p k s) V h = refl
whole_vectors (Tile p k s t) V h = refl
whole_vectors (Iss p xs ns c) V h = absurd h

-- all leaves, one for one
pub whole_leaves : (command : Command) (V : List (List ℕ)) (D : Draft) → IsWhole command → flat_map (leaf_after command V) D ≡ map (whole_leaf command V) D
whole_leaves command V [] h = refl
whole_leaves command V (leaf ∷ D) h =
    ap (λ L. L ++ flat_map (leaf_after command V) D) (one_leaf command V leaf h) ∙ ap (λ t. whole_leaf command V leaf ∷ t) (whole_leaves command V D h)

whole_betas : (command : Command) (V : List (List ℕ)) (D : Draft) → betas_of (map (whole_leaf command V) D) ≡ map (vector_after command V) (betas_of D)
whole_betas command V [] = refl
whole_betas command V (leaf ∷ D) = ap (λ t. vector_after command V leaf.beta ∷ t) (whole_betas command V D)

split_betas : (p xs ns : List ℤ) (c : ℤ) (V : List (List ℕ)) (D : Draft) → betas_of (flat_map (leaf_after (Iss p xs ns c) V) D) ≡ flat_map (leaf_split (map natural p)) (betas_of D)
split_betas p xs ns c V [] = refl
split_betas p xs ns c V (leaf ∷ D) =
    map-append (λ t. t.beta) (leaf_after (Iss p xs ns c) V leaf) (flat_map (leaf_after (Iss p xs ns c) V) D)
    ∙ ap (λ L. L ++ betas_of (flat_map (leaf_after (Iss p xs ns c) V) D)) (own (same_vector leaf.beta (map natural p)))
    ∙ ap (λ L. leaf_split (map natural p) leaf.beta ++ L) (split_betas p xs ns c V D)
  where
    own : (b : Bool) → betas_of (if b then halves (map natural p) xs ns c leaf else record leaf { beta = below (front (map natural p)) (make_room (last (map natural p))) leaf.beta } ∷ [])
        ≡ (if b then leaf.beta ∷ (next_sibling (map natural p) ∷ []) else below (front (map natural p)) (make_room (last (map natural p))) leaf.beta ∷ [])
    own true = refl
    own false = refl

whole_after : (command : Command) (D : Draft) → IsWhole command → betas_of (draft_after command D) ≡ vectors_after command (betas_of D)
whole_after command D h =
    ap betas_of (whole_leaves command (betas_of D) D h) ∙ whole_betas command (betas_of D) D ∙ sym (whole_vectors command (betas_of D) h)

pub betas_after : (command : Command) (D : Draft) → betas_of (draft_after command D) ≡ vectors_after command (betas_of D)
betas_after (Fission p c) D = whole_after (Fission p c) D tt
betas_after (Fuse p) D = whole_after (Fuse p) D tt
betas_after (Reorder p order) D = whole_after (Reorder p order) D tt
betas_after (Interchange p k l) D = whole_after (Interchange p k l) D tt
betas_after (Skew p k l f) D = whole_after (Skew p k l f) D tt
betas_after (Shift p k v c) D = whole_after (Shift p k v c) D tt
betas_after (Reverse p k) D = whole_after (Reverse p k) D tt
betas_after (Stripmine p k s) D = whole_after (Stripmine p k s) D tt
betas_after (Tile p k s t) D = whole_after (Tile p k s t) D tt
betas_after (Iss p xs ns c) D = split_betas p xs ns c (betas_of D) D

-- a split makes at most one vector more

rest_long : (P u : List ℕ) (V : List (List ℕ)) → same_vector u P ≡ true → ApartFromAll u V → length (flat_map (leaf_split P) V) ≡ length V
rest_long P u [] s a = refl
rest_long P u (v ∷ V) s a =
    let other : same_vector v P ≡ false = subst (λ w. same_vector v w ≡ false) (same_vector_yes u P s) (not_same u v a.0) in
    ap (λ W. length (W ++ flat_map (leaf_split P) V)) (other_split P v other) ∙ ap (λ n. suc n) (rest_long P u V s a.1)

split_long : (P : List ℕ) (V : List (List ℕ)) → PrefixFree V → length (flat_map (leaf_split P) V) ≤ length V + 1
split_long P [] free = omega arith
split_long P (v ∷ V) free =
    elim (bool_tells (same_vector v P)) [
      | inl t ↦ let e = ap (λ W. length (W ++ flat_map (leaf_split P) V)) (own_split P v t) in let r = rest_long P v V t free.0 in omega (arith, e, r)
      | inr f ↦ let e = ap (λ W. length (W ++ flat_map (leaf_split P) V)) (other_split P v f) in let r = split_long P V free.1 in omega (arith, e, r)
    ]

whole_long : (command : Command) (V : List (List ℕ)) → IsWhole command → length (vectors_after command V) ≤ length V + 1
whole_long command V h = let e = ap length (whole_vectors command V h) ∙ length-map V (vector_after command V) in omega (arith, e)

pub long_after : (command : Command) (V : List (List ℕ)) → PrefixFree V → length (vectors_after command V) ≤ length V + 1
long_after (Fission p c) V free = whole_long (Fission p c) V tt
long_after (Fuse p) V free = whole_long (Fuse p) V tt
long_after (Reorder p order) V free = whole_long (Reorder p order) V tt
long_after (Interchange p k l) V free = whole_long (Interchange p k l) V tt
long_after (Skew p k l f) V free = whole_long (Skew p k l f) V tt
long_after (Shift p k v c) V free = whole_long (Shift p k v c) V tt
long_after (Reverse p k) V free = whole_long (Reverse p k) V tt
long_after (Stripmine p k s) V free = whole_long (Stripmine p k s) V tt
long_after (Tile p k s t) V free = whole_long (Tile p k s t) V tt
long_after (Iss p xs ns c) V free = split_long (map natural p) V free
