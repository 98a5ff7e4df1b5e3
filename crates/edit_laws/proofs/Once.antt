-- Of the leaves after a script exactly one has an instance that one leaf had before.
use Rattle.std.proofs.Common.{◌≡◌, ◌⊎◌, inl, inr, ℕ, zero, suc, ◌+◌, ◌<◌, Bool, true, false, if◌then◌else◌, Option, Some, List, [], ◌∷◌, ◌++◌, length, map, ℤ, pos, negsuc, neg_ℤ, ◌+ℤ◌, ◌≤ℤ◌, refl, ap, sym, subst, ◌∙◌, append-nil, arith}
use Rattle.std.specs.Prelude.{slice_get, IsSomeAnd}
use Rattle.std.specs.List.{flat_map}
use Rattle.std.specs.Option.{is_some}
use Rattle.std.proofs.lemmas.List.{length-map}
use Rattle.beta_tree.specs.Vectors.{after}
use Rattle.beta_tree.specs.Edits.{same_vector, below, front, last, make_room, next_sibling}
use Rattle.beta_tree.proofs.Places.{after_append}
use Rattle.beta_tree.proofs.Leaves.{same_vector_yes}
use Rattle.scop_data.specs.declared.statements.Statement.{Statement}
use Rattle.scop_core.specs.Meaning.{InDomain}
use Rattle.clay_script.specs.declared.commands.Command.{Command}
use Rattle.clay_script.specs.declared.commands.Command.TheVariants.{Fission, Fuse, Reorder, Interchange, Skew, Shift, Reverse, Stripmine, Tile, Iss}
use Rattle.clay_commands.specs.declared.leaves.Leaf.{Leaf}
use Rattle.clay_commands.specs.Arguments.{natural, prefix_in}
use Rattle.clay_commands.specs.Drafts.{Draft, betas_of, is_under, forms_after, scheduled, restricted, halves, statement_after, vector_after, leaf_after, draft_after, leaves_from}
use Rattle.clay_commands.specs.Steps.{AllUnder}
use Rattle.edit_laws.proofs.Pieces.{Fits}
use Rattle.edit_laws.proofs.Domains.{condition_at, parts_to, parts_from, parts_sign, other_value, either_sign, never_both}

-- a leaf of statement number j has x in its domain
pub record Holds (j : ℕ) (x n : List ℤ) (leaf : Leaf) : Type 0 where
  pub number : leaf.original ≡ j
  pub inside : InDomain leaf.statement x n

-- no leaf does
abbrev pub Nowhere : ℕ → List ℤ → List ℤ → Draft → Type 0
Nowhere j x n [] = Unit {0}
Nowhere j x n (leaf ∷ D) = (¬ Holds j x n leaf) × Nowhere j x n D

-- exactly one does
abbrev pub Only : ℕ → List ℤ → List ℤ → Draft → Type 0
Only j x n [] = ⊥
Only j x n (leaf ∷ D) = (Holds j x n leaf × Nowhere j x n D) ⊎ ((¬ Holds j x n leaf) × Only j x n D)

nowhere_append : (j : ℕ) (x n : List ℤ) (A B : Draft) → Nowhere j x n A → Nowhere j x n B → Nowhere j x n (A ++ B)
nowhere_append j x n [] B a b = b
nowhere_append j x n (leaf ∷ A) B a b = (a.0, nowhere_append j x n A B a.1 b)

only_front : (j : ℕ) (x n : List ℤ) (A B : Draft) → Only j x n A → Nowhere j x n B → Only j x n (A ++ B)
only_front j x n [] B a b = absurd a
only_front j x n (leaf ∷ A) B (inl a) b = inl (a.0, nowhere_append j x n A B a.1 b)
only_front j x n (leaf ∷ A) B (inr a) b = inr (a.0, only_front j x n A B a.1 b)

only_behind : (j : ℕ) (x n : List ℤ) (A B : Draft) → Nowhere j x n A → Only j x n B → Only j x n (A ++ B)
only_behind j x n [] B a b = b
only_behind j x n (leaf ∷ A) B a b = inr (a.0, only_behind j x n A B a.1 b)

-- a leaf whose statement keeps its domain

to_if : (j : ℕ) (x n : List ℤ) (command : Command) (b : Bool) (w : List ℕ) (leaf : Leaf) → Holds j x n leaf
    → Holds j x n (record leaf { beta = w; statement = if b then scheduled leaf.statement (forms_after command leaf.statement.schedule) else leaf.statement })
to_if j x n command true w leaf h = record { number = h.number; inside = h.inside }
to_if j x n command false w leaf h = record { number = h.number; inside = h.inside }

from_if : (j : ℕ) (x n : List ℤ) (command : Command) (b : Bool) (w : List ℕ) (leaf : Leaf)
    → Holds j x n (record leaf { beta = w; statement = if b then scheduled leaf.statement (forms_after command leaf.statement.schedule) else leaf.statement }) → Holds j x n leaf
from_if j x n command true w leaf h = record { number = h.number; inside = h.inside }
from_if j x n command false w leaf h = record { number = h.number; inside = h.inside }

to_after : (j : ℕ) (x n : List ℤ) (command : Command) (w : List ℕ) (leaf : Leaf) → Holds j x n leaf
    → Only j x n (record leaf { beta = w; statement = statement_after command leaf.beta leaf.statement } ∷ [])
to_after j x n command w leaf h = inl (to_if j x n command (is_under (prefix_in command) leaf.beta) w leaf h, tt)

from_after : (j : ℕ) (x n : List ℤ) (command : Command) (w : List ℕ) (leaf : Leaf) → ¬ Holds j x n leaf
    → Nowhere j x n (record leaf { beta = w; statement = statement_after command leaf.beta leaf.statement } ∷ [])
from_after j x n command w leaf h = (λ k. h (from_if j x n command (is_under (prefix_in command) leaf.beta) w leaf k), tt)

-- a half

half : List ℤ → List ℤ → ℤ → List ℕ → Leaf → Leaf
half xs ns c w leaf = record leaf { beta = w; statement = restricted xs ns c leaf.statement }

to_half : (j : ℕ) (x n xs ns : List ℤ) (c : ℤ) (w : List ℕ) (leaf : Leaf) → length xs ≡ length leaf.statement.body.iterators → length ns ≡ length n
    → pos 0 ≤ℤ condition_at xs ns c x n → Holds j x n leaf → Holds j x n (half xs ns c w leaf)
unfolding half
to_half j x n xs ns c w leaf ex en s h = record {
  number = h.number;
  inside = (h.inside.0, parts_to leaf.statement.domain xs ns c x n (ex ∙ sym h.inside.0) en s h.inside.1);
}

from_half : (j : ℕ) (x n xs ns : List ℤ) (c : ℤ) (w : List ℕ) (leaf : Leaf) → Holds j x n (half xs ns c w leaf) → Holds j x n leaf
unfolding half
from_half j x n xs ns c w leaf h = record { number = h.number; inside = (h.inside.0, parts_from leaf.statement.domain xs ns c x n h.inside.1) }

half_sign : (j : ℕ) (x n xs ns : List ℤ) (c : ℤ) (w : List ℕ) (leaf : Leaf) → length xs ≡ length leaf.statement.body.iterators → length ns ≡ length n
    → Holds j x n (half xs ns c w leaf) → pos 0 ≤ℤ condition_at xs ns c x n
unfolding half
half_sign j x n xs ns c w leaf ex en h = parts_sign leaf.statement.domain xs ns c x n (ex ∙ sym h.inside.0) en h.inside.1

halves_only : (j : ℕ) (x n : List ℤ) (P : List ℕ) (xs ns : List ℤ) (c : ℤ) (leaf : Leaf) → length xs ≡ length leaf.statement.body.iterators → length ns ≡ length n
    → Holds j x n leaf → Only j x n (halves P xs ns c leaf)
unfolding half
halves_only j x n P xs ns c leaf ex en h =
    let f = condition_at xs ns c x n in
    let ys = map neg_ℤ xs in
    let ms = map neg_ℤ ns in
    let d = neg_ℤ c +ℤ negsuc 0 in
    let ey : length ys ≡ length leaf.statement.body.iterators = length-map xs neg_ℤ ∙ ex in
    let em : length ms ≡ length n = length-map ns neg_ℤ ∙ en in
    let other : condition_at ys ms d x n ≡ neg_ℤ f +ℤ negsuc 0 = other_value xs ns c x n in
    elim (either_sign f) as (λ _. Only j x n (halves P xs ns c leaf)) [
      | inl s ↦
          inl (
            to_half j x n xs ns c leaf.beta leaf ex en s h,
            (λ k. never_both f s (subst (λ z. pos 0 ≤ℤ z) other (half_sign j x n ys ms d (next_sibling P) leaf ey em k)), tt),
          )
      | inr s ↦
          inr (
            λ k. never_both f (half_sign j x n xs ns c leaf.beta leaf ex en k) s,
            inl (to_half j x n ys ms d (next_sibling P) leaf ey em (subst (λ z. pos 0 ≤ℤ z) (sym other) s) h, tt),
          )
    ]

halves_nowhere : (j : ℕ) (x n : List ℤ) (P : List ℕ) (xs ns : List ℤ) (c : ℤ) (leaf : Leaf) → ¬ Holds j x n leaf → Nowhere j x n (halves P xs ns c leaf)
unfolding half
halves_nowhere j x n P xs ns c leaf h = (
  λ k. h (from_half j x n xs ns c leaf.beta leaf k),
  (λ k. h (from_half j x n (map neg_ℤ xs) (map neg_ℤ ns) (neg_ℤ c +ℤ negsuc 0) (next_sibling P) leaf k), tt),
)

pub own_prefix : (P v : List ℕ) → same_vector v P ≡ true → is_under P v ≡ true
own_prefix P v same = subst (λ w. is_some (after P w) ≡ true) (append-nil P ∙ sym (same_vector_yes v P same)) (ap (λ o. is_some o) (after_append P []))

split_only : (parameters j : ℕ) (x n : List ℤ) (p xs ns : List ℤ) (c : ℤ) (leaf : Leaf) → length n ≡ parameters
    → (is_under (map natural p) leaf.beta ≡ true → Fits parameters (Iss p xs ns c) leaf.statement) → (b : Bool) → same_vector leaf.beta (map natural p) ≡ b → Holds j x n leaf
    → Only j x n (if b then halves (map natural p) xs ns c leaf else record leaf { beta = below (front (map natural p)) (make_room (last (map natural p))) leaf.beta } ∷ [])
split_only m j x n p xs ns c leaf en h true same holds =
    let over = (h (own_prefix (map natural p) leaf.beta same)).over in
    halves_only j x n (map natural p) xs ns c leaf over.0 (over.1 ∙ sym en) holds
split_only m j x n p xs ns c leaf en h false same holds = inl (record { number = holds.number; inside = holds.inside }, tt)

split_nowhere : (j : ℕ) (x n : List ℤ) (P : List ℕ) (xs ns : List ℤ) (c : ℤ) (leaf : Leaf) (b : Bool) → ¬ Holds j x n leaf
    → Nowhere j x n (if b then halves P xs ns c leaf else record leaf { beta = below (front P) (make_room (last P)) leaf.beta } ∷ [])
split_nowhere j x n P xs ns c leaf true h = halves_nowhere j x n P xs ns c leaf h
split_nowhere j x n P xs ns c leaf false h = (λ k. h (record { number = k.number; inside = k.inside }), tt)

-- the leaves that come of one leaf

leaf_only : (parameters j : ℕ) (x n : List ℤ) (command : Command) (V : List (List ℕ)) (leaf : Leaf) → length n ≡ parameters
    → (is_under (prefix_in command) leaf.beta ≡ true → Fits parameters command leaf.statement) → Holds j x n leaf → Only j x n (leaf_after command V leaf)
leaf_only m j x n (Fission p c) V leaf en h holds = to_after j x n (Fission p c) (vector_after (Fission p c) V leaf.beta) leaf holds
leaf_only m j x n (Fuse p) V leaf en h holds = to_after j x n (Fuse p) (vector_after (Fuse p) V leaf.beta) leaf holds
leaf_only m j x n (Reorder p order) V leaf en h holds = to_after j x n (Reorder p order) (vector_after (Reorder p order) V leaf.beta) leaf holds
leaf_only m j x n (Interchange p k l) V leaf en h holds = to_after j x n (Interchange p k l) leaf.beta leaf holds
leaf_only m j x n (Skew p k l f) V leaf en h holds = to_after j x n (Skew p k l f) leaf.beta leaf holds
leaf_only m j x n (Shift p k v c) V leaf en h holds = to_after j x n (Shift p k v c) leaf.beta leaf holds
leaf_only m j x n (Reverse p k) V leaf en h holds = to_after j x n (Reverse p k) leaf.beta leaf holds
leaf_only m j x n (Stripmine p k s) V leaf en h holds = to_after j x n (Stripmine p k s) (vector_after (Stripmine p k s) V leaf.beta) leaf holds
leaf_only m j x n (Tile p k s t) V leaf en h holds = to_after j x n (Tile p k s t) (vector_after (Tile p k s t) V leaf.beta) leaf holds
leaf_only m j x n (Iss p xs ns c) V leaf en h holds = split_only m j x n p xs ns c leaf en h (same_vector leaf.beta (map natural p)) refl holds

leaf_nowhere : (j : ℕ) (x n : List ℤ) (command : Command) (V : List (List ℕ)) (leaf : Leaf) → ¬ Holds j x n leaf → Nowhere j x n (leaf_after command V leaf)
leaf_nowhere j x n (Fission p c) V leaf h = from_after j x n (Fission p c) (vector_after (Fission p c) V leaf.beta) leaf h
leaf_nowhere j x n (Fuse p) V leaf h = from_after j x n (Fuse p) (vector_after (Fuse p) V leaf.beta) leaf h
leaf_nowhere j x n (Reorder p order) V leaf h = from_after j x n (Reorder p order) (vector_after (Reorder p order) V leaf.beta) leaf h
leaf_nowhere j x n (Interchange p k l) V leaf h = from_after j x n (Interchange p k l) leaf.beta leaf h
leaf_nowhere j x n (Skew p k l f) V leaf h = from_after j x n (Skew p k l f) leaf.beta leaf h
leaf_nowhere j x n (Shift p k v c) V leaf h = from_after j x n (Shift p k v c) leaf.beta leaf h
leaf_nowhere j x n (Reverse p k) V leaf h = from_after j x n (Reverse p k) leaf.beta leaf h
leaf_nowhere j x n (Stripmine p k s) V leaf h = from_after j x n (Stripmine p k s) (vector_after (Stripmine p k s) V leaf.beta) leaf h
leaf_nowhere j x n (Tile p k s t) V leaf h = from_after j x n (Tile p k s t) (vector_after (Tile p k s t) V leaf.beta) leaf h
leaf_nowhere j x n (Iss p xs ns c) V leaf h = split_nowhere j x n (map natural p) xs ns c leaf (same_vector leaf.beta (map natural p)) h

leaves_nowhere : (j : ℕ) (x n : List ℤ) (command : Command) (V : List (List ℕ)) (D : Draft) → Nowhere j x n D → Nowhere j x n (flat_map (leaf_after command V) D)
leaves_nowhere j x n command V [] h = tt
leaves_nowhere j x n command V (leaf ∷ D) h =
    nowhere_append j x n (leaf_after command V leaf) (flat_map (leaf_after command V) D) (leaf_nowhere j x n command V leaf h.0) (leaves_nowhere j x n command V D h.1)

leaves_only : (parameters j : ℕ) (x n : List ℤ) (command : Command) (V : List (List ℕ)) (D : Draft) → length n ≡ parameters
    → AllUnder (prefix_in command) (Fits parameters command) D → Only j x n D → Only j x n (flat_map (leaf_after command V) D)
leaves_only m j x n command V [] en h only = absurd only
leaves_only m j x n command V (leaf ∷ D) en h (inl only) =
    only_front j x n (leaf_after command V leaf) (flat_map (leaf_after command V) D) (leaf_only m j x n command V leaf en h.0 only.0) (leaves_nowhere j x n command V D only.1)
leaves_only m j x n command V (leaf ∷ D) en h (inr only) =
    only_behind j x n (leaf_after command V leaf) (flat_map (leaf_after command V) D) (leaf_nowhere j x n command V leaf only.0) (leaves_only m j x n command V D en h.1 only.1)

pub step_only : (parameters j : ℕ) (x n : List ℤ) (command : Command) (D : Draft) → length n ≡ parameters
    → AllUnder (prefix_in command) (Fits parameters command) D → Only j x n D → Only j x n (draft_after command D)
step_only m j x n command D en h only = leaves_only m j x n command (betas_of D) D en h only

-- at the start

nowhere_from : (j : ℕ) (x n : List ℤ) (k : ℕ) (V : List (List ℕ)) (statements : List Statement) → j < k → Nowhere j x n (leaves_from k V statements)
nowhere_from j x n k [] statements l = tt
nowhere_from j x n k (v ∷ V) [] l = tt
nowhere_from j x n k (v ∷ V) (s ∷ statements) l = (λ h. omega (arith, h.number), nowhere_from j x n (k + 1) V statements (omega arith))

pub only_from : (j : ℕ) (x n : List ℤ) (k : ℕ) (V : List (List ℕ)) (statements : List Statement) (i : ℕ) → length V ≡ length statements → j ≡ k + i
    → IsSomeAnd (slice_get statements i) (λ s. InDomain s x n) → Only j x n (leaves_from k V statements)
only_from j x n k [] [] i e is h = absurd h
only_from j x n k [] (s ∷ statements) i e is h = absurd (omega (arith, e))
only_from j x n k (v ∷ V) [] i e is h = absurd (omega (arith, e))
only_from j x n k (v ∷ V) (s ∷ statements) zero e is h = inl (record { number = omega (arith, is); inside = h }, nowhere_from j x n (k + 1) V statements (omega (arith, is)))
only_from j x n k (v ∷ V) (s ∷ statements) (suc i) e is h =
    inr (λ held. omega (arith, held.number, is), only_from j x n (k + 1) V statements i (omega (arith, e)) (omega (arith, is)) h)

-- where it is

pub record Place (j : ℕ) (x n : List ℤ) (D : Draft) : Type 0 where
  pub at : ℕ
  pub leaf : Leaf
  pub found : slice_get D at ≡ Some leaf
  pub holds : Holds j x n leaf

pub only_found : (j : ℕ) (x n : List ℤ) (D : Draft) → Only j x n D → Place j x n D
only_found j x n [] h = absurd h
only_found j x n (leaf ∷ D) (inl h) = record { at = 0; leaf = leaf; found = refl; holds = h.0 }
only_found j x n (leaf ∷ D) (inr h) = let p = only_found j x n D h.1 in record { at = suc p.at; leaf = p.leaf; found = p.found; holds = p.holds }

abbrev found_as : Leaf → Option Leaf
found_as leaf = Some leaf

same_leaf : (a b : Leaf) → found_as a ≡ found_as b → a ≡ b
same_leaf a b e = cc

none_found : (j : ℕ) (x n : List ℤ) (D : Draft) (k : ℕ) (a : Leaf) → Nowhere j x n D → slice_get D k ≡ found_as a → Holds j x n a → ⊥
none_found j x n [] k a h e holds = cc
none_found j x n (leaf ∷ D) zero a h e holds = h.0 (subst (λ t. Holds j x n t) (sym (same_leaf leaf a e)) holds)
none_found j x n (leaf ∷ D) (suc k) a h e holds = none_found j x n D k a h.1 e holds

pub only_once : (j : ℕ) (x n : List ℤ) (D : Draft) (k l : ℕ) (a b : Leaf) → Only j x n D → slice_get D k ≡ Some a → slice_get D l ≡ Some b → Holds j x n a → Holds j x n b → k ≡ l
only_once j x n [] k l a b h ea eb ha hb = absurd h
only_once j x n (leaf ∷ D) zero zero a b h ea eb ha hb = refl
only_once j x n (leaf ∷ D) zero (suc l) a b (inl h) ea eb ha hb = absurd (none_found j x n D l b h.1 eb hb)
only_once j x n (leaf ∷ D) zero (suc l) a b (inr h) ea eb ha hb = absurd (h.0 (subst (λ t. Holds j x n t) (sym (same_leaf leaf a ea)) ha))
only_once j x n (leaf ∷ D) (suc k) zero a b (inl h) ea eb ha hb = absurd (none_found j x n D k a h.1 ea ha)
only_once j x n (leaf ∷ D) (suc k) zero a b (inr h) ea eb ha hb = absurd (h.0 (subst (λ t. Holds j x n t) (sym (same_leaf leaf b eb)) hb))
only_once j x n (leaf ∷ D) (suc k) (suc l) a b (inl h) ea eb ha hb = absurd (none_found j x n D l b h.1 eb hb)
only_once j x n (leaf ∷ D) (suc k) (suc l) a b (inr h) ea eb ha hb = ap suc (only_once j x n D k l a b h.1 ea eb ha hb)
