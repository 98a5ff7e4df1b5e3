-- The vectors along a script are a tree, each one longer by one than the levels of its statement.
use Rattle.std.proofs.Common.{◌≡◌, inl, inr, ℕ, zero, suc, ◌+◌, ◌<◌, ◌≤◌, ◌^◌, ◌==◌, Bool, true, false, not, ◌&&◌, ◌||◌, if◌then◌else◌, Option, Some, None, Result, Ok, Err, List, [], ◌∷◌, ◌++◌, length, map, ℤ, pos, int_le, refl, ap, sym, subst, ◌∙◌, arith}
use Rattle.std.specs.Prelude.{insert, nat_lt}
use Rattle.std.specs.List.{flat_map}
use Rattle.std.proofs.lemmas.List.{length-map, length-set, map-id}
use Rattle.std.proofs.lemmas.List.Edits.{length-swap}
use Rattle.suite_base.specs.declared.refusals.Refusal.{Refusal}
use Rattle.suite_base.specs.declared.refusals.Refusal.TheVariants as refusal
use Rattle.beta_tree.specs.declared.refusals.BetaFail.{BetaFail}
use Rattle.beta_tree.specs.declared.refusals.BetaFail.TheVariants as beta
use Rattle.beta_tree.specs.Vectors.{children_of, no_statement, is_leaf, is_loop, is_nil, IsTree, LongerUnder}
use Rattle.beta_tree.specs.Edits.{fissioned, fused, reordered, is_permutation_of, with_level, leaf_split, same_vector, below, front, last, make_room, next_sibling}
use Rattle.beta_tree.specs.Answers.{leaf_answer}
use Rattle.beta_tree.proofs.Lengths.{operations_keep_lengths, sibling_is_as_long}
use Rattle.beta_tree.proofs.Leaves.{same_vector_yes}
use Rattle.beta_tree.proofs.Orders.{and_left, and_right}
use Rattle.beta_tree.proofs.Places.{after_append}
use Rattle.beta_tree.proofs.Undone.{answers_are_trees}
use Rattle.scop_core.specs.AffineSums.{widened}
use Rattle.scop_data.specs.declared.schedules.Schedule.{Schedule}
use Rattle.scop_data.specs.declared.statements.Statement.{Statement}
use Rattle.clay_script.specs.declared.commands.Command.{Command}
use Rattle.clay_script.specs.declared.commands.Command.TheVariants.{Fission, Fuse, Reorder, Interchange, Skew, Shift, Reverse, Stripmine, Tile, Iss}
use Rattle.clay_script.specs.Commands.{prefix_of}
use Rattle.clay_commands.specs.declared.leaves.Leaf.{Leaf}
use Rattle.clay_commands.specs.Arguments.{natural, are_natural, prefix_in, order_in, place}
use Rattle.clay_commands.specs.Drafts.{Draft, betas_of, is_under, forms_after, cut, scheduled, halves, statement_after, leaf_after, draft_after}
use Rattle.clay_commands.specs.Refusals.{refused, level_then, has_level, can_cut, all_under, condition_under, condition_of}
use Rattle.clay_commands.specs.Spots.{vectors_after}
use Rattle.clay_commands.specs.Steps.{AllUnder}
use Rattle.clay_commands.proofs.Changeables.{passes, cut_within, cut_prefix, level_passed, argument_passed}
use Rattle.clay_commands.proofs.Cuts.{natural_above, natural_below}

-- each vector is longer by one than the levels
abbrev pub AreSized : Draft → Type 0
AreSized [] = Unit {0}
AreSized (leaf ∷ D) = (length leaf.beta ≡ length leaf.statement.schedule.levels + 1) × AreSized D

sized_append : (A B : Draft) → AreSized A → AreSized B → AreSized (A ++ B)
sized_append [] B a b = b
sized_append (leaf ∷ A) B a b = (a.0, sized_append A B a.1 b)

length_insert : {X : Type 0} (xs : List X) (k : ℕ) (x : X) → length (insert xs k x) ≡ length xs + 1
length_insert xs zero x = omega arith
length_insert [] (suc k) x = refl
length_insert (y ∷ xs) (suc k) x = let e = length_insert xs k x in omega (arith, e)

-- a leaf whose vector and levels keep their lengths
kept_if : (b : Bool) (s : Statement) (schedule : Schedule) (v w : List ℕ) → length v ≡ length s.schedule.levels + 1 → length w ≡ length v → length schedule.levels ≡ length s.schedule.levels
    → length w ≡ length (if b then scheduled s schedule else s).schedule.levels + 1
kept_if true s schedule v w h e l = omega (arith, h, e, l)
kept_if false s schedule v w h e l = omega (arith, h, e)

kept_leaf : (command : Command) (leaf : Leaf) (w : List ℕ) → length w ≡ length leaf.beta → length (forms_after command leaf.statement.schedule).levels ≡ length leaf.statement.schedule.levels
    → length leaf.beta ≡ length leaf.statement.schedule.levels + 1 → length w ≡ length (statement_after command leaf.beta leaf.statement).schedule.levels + 1
kept_leaf command leaf w e l h = kept_if (is_under (prefix_in command) leaf.beta) leaf.statement (forms_after command leaf.statement.schedule) leaf.beta w h e l

-- one with one more of both
more_if : (b : Bool) (s : Statement) (schedule : Schedule) (v : List ℕ) (k : ℕ) → length v ≡ length s.schedule.levels + 1 → length schedule.levels ≡ length s.schedule.levels + 1
    → length (if b then insert v k 0 else v) ≡ length (if b then scheduled s schedule else s).schedule.levels + 1
more_if true s schedule v k h l = let e = length_insert v k 0 in omega (arith, h, e, l)
more_if false s schedule v k h l = h

cut_length : (k : ℕ) (s : ℤ) (t : ℕ) (schedule : Schedule) → length (cut k s t schedule).levels ≡ length schedule.levels + 1
cut_length k s t schedule = length_insert (map widened schedule.levels) t _ ∙ ap (λ n. n + 1) (length-map schedule.levels widened)

split_sized : (P : List ℕ) (xs ns : List ℤ) (c : ℤ) (leaf : Leaf) (b : Bool) → same_vector leaf.beta P ≡ b → length leaf.beta ≡ length leaf.statement.schedule.levels + 1
    → AreSized (if b then halves P xs ns c leaf else record leaf { beta = below (front P) (make_room (last P)) leaf.beta } ∷ [])
split_sized P xs ns c leaf true same h =
    let e : leaf.beta ≡ P = same_vector_yes leaf.beta P same in
    (h, (sibling P (ap length (sym e) ∙ h) ∙ ap length (sym e) ∙ h, tt))
  where
    sibling : (P : List ℕ) → length P ≡ length leaf.statement.schedule.levels + 1 → length (next_sibling P) ≡ length P
    sibling [] l = absurd (omega (arith, l))
    sibling (x ∷ P) l = sibling_is_as_long P x
split_sized P xs ns c leaf false same h = ((operations_keep_lengths.3 P).same leaf.beta ∙ h, tt)

leaf_sized : (command : Command) (V : List (List ℕ)) (leaf : Leaf) → length leaf.beta ≡ length leaf.statement.schedule.levels + 1 → AreSized (leaf_after command V leaf)
leaf_sized (Fission p c) V leaf h = (kept_leaf (Fission p c) leaf (fissioned (map natural p) (natural c) leaf.beta) ((operations_keep_lengths.0 (map natural p) (natural c)).same leaf.beta) refl h, tt)
leaf_sized (Fuse p) V leaf h =
    (kept_leaf (Fuse p) leaf (fused (map natural p) (children_of (map natural p) V) leaf.beta) ((operations_keep_lengths.1 (map natural p) (children_of (map natural p) V)).same leaf.beta) refl h, tt)
leaf_sized (Reorder p order) V leaf h = (kept_leaf (Reorder p order) leaf (reordered (map natural p) (order_in order) leaf.beta) ((operations_keep_lengths.2 (map natural p) (order_in order)).same leaf.beta) refl h, tt)
leaf_sized (Interchange p k l) V leaf h = (kept_leaf (Interchange p k l) leaf leaf.beta refl (length-swap leaf.statement.schedule.levels (place k) (place l)) h, tt)
leaf_sized (Skew p k l f) V leaf h = (kept_leaf (Skew p k l f) leaf leaf.beta refl (length-set leaf.statement.schedule.levels (place k) _) h, tt)
leaf_sized (Shift p k v c) V leaf h = (kept_leaf (Shift p k v c) leaf leaf.beta refl (length-set leaf.statement.schedule.levels (place k) _) h, tt)
leaf_sized (Reverse p k) V leaf h = (kept_leaf (Reverse p k) leaf leaf.beta refl (length-set leaf.statement.schedule.levels (place k) _) h, tt)
leaf_sized (Stripmine p k s) V leaf h =
    (more_if (is_under (map natural p) leaf.beta) leaf.statement (forms_after (Stripmine p k s) leaf.statement.schedule) leaf.beta (natural k) h (cut_length (place k) s (place k) leaf.statement.schedule), tt)
leaf_sized (Tile p k s t) V leaf h =
    (more_if (is_under (map natural p) leaf.beta) leaf.statement (forms_after (Tile p k s t) leaf.statement.schedule) leaf.beta (natural k) h (cut_length (place k) s (place t) leaf.statement.schedule), tt)
leaf_sized (Iss p xs ns c) V leaf h = split_sized (map natural p) xs ns c leaf (same_vector leaf.beta (map natural p)) refl h

leaves_sized : (command : Command) (V : List (List ℕ)) (D : Draft) → AreSized D → AreSized (flat_map (leaf_after command V) D)
leaves_sized command V [] h = tt
leaves_sized command V (leaf ∷ D) h = sized_append (leaf_after command V leaf) (flat_map (leaf_after command V) D) (leaf_sized command V leaf h.0) (leaves_sized command V D h.1)

pub step_sized : (command : Command) (D : Draft) → AreSized D → AreSized (draft_after command D)
step_sized command D h = leaves_sized command (betas_of D) D h

-- the vectors after a command

some_is : (a b : Bool) (o : Option Refusal) (r : Refusal) → (if not a || b then Some r else o) ≡ None → b ≡ false
some_is true true o r h = absurd (cc)
some_is true false o r h = refl
some_is false b o r h = absurd (cc)

behind_is : (b : Bool) (o : Option Refusal) (r : Refusal) → (if b then Some r else o) ≡ None → o ≡ None
behind_is true o r h = absurd (cc)
behind_is false o r h = h

-- an operation that is not refused answers
abbrev answer_by : Bool → Bool → Bool → BetaFail → BetaFail → BetaFail → List (List ℕ) → Result (List (List ℕ)) BetaFail
answer_by a b c e f g W = if a then Err e else if b then Err f else if c then Err g else Ok W

three : (i : ℕ) (a b c : Bool) (W : List (List ℕ)) → refused i (answer_by a b c beta.NoBeta beta.NotALoop beta.BadArgument W) ≡ None → answer_by a b c beta.NoBeta beta.NotALoop beta.BadArgument W ≡ Ok W
three i true b c W h = absurd (cc)
three i false true c W h = absurd (cc)
three i false false true W h = absurd (cc)
three i false false false W h = refl

two : (i : ℕ) (a b c : Bool) (W : List (List ℕ)) → refused i (answer_by a b c beta.NoBeta beta.NoBeta beta.NotALoop W) ≡ None → answer_by a b c beta.NoBeta beta.NoBeta beta.NotALoop W ≡ Ok W
two i true b c W h = absurd (cc)
two i false true c W h = absurd (cc)
two i false false true W h = absurd (cc)
two i false false false W h = refl

longer : (k : ℤ) (P : List ℕ) (D : Draft) → AreSized D → AllUnder P (λ s. has_level k s ≡ true) D → LongerUnder P (natural k) (betas_of D)
longer k P [] sized all w i = absurd i
longer k P (leaf ∷ D) sized all w (inl e) =
    let under : is_under P leaf.beta ≡ true = rw (e, after_append P w) refl in
    let m = length leaf.statement.schedule.levels in
    let high : natural k ≤ m = natural_below k m (and_right (int_le (pos 1) k) (int_le k (pos m)) (all.0 under)) in
    subst (λ v. natural k < length v) e (omega (arith, sized.0, high))
longer k P (leaf ∷ D) sized all w (inr i) = longer k P D sized.1 all.1 w i

cut_tree : (i : ℕ) (k t size : ℤ) (P : List ℕ) (D : Draft) → level_then i (can_cut k t P D) (int_le (pos 1) size) ≡ None → no_statement P (betas_of D) ≡ false → AreSized D → IsTree (betas_of D)
    → IsTree (map (with_level P (natural k)) (betas_of D))
cut_tree i k t size P D h some sized tree =
    let V = betas_of D in
    let can = level_passed i (can_cut k t P D) (int_le (pos 1) size) h in
    answers_are_trees.3 P (natural k) V (map (with_level P (natural k)) V) tree (natural_above k (length P) (cut_prefix k t P D can))
    (longer k P D sized (passes P (has_level k) D (cut_within k t P D can)))
    (ap (λ b. if b then Err beta.NoBeta else Ok (map (with_level P (natural k)) V)) some)

same_tree : (V : List (List ℕ)) → IsTree V → IsTree (map (λ v. v) V)
same_tree V tree = subst (λ W. IsTree W) (sym (map-id V)) tree

tree_under : (m : ℕ) (command : Command) (D : Draft) → condition_under m 1 command (prefix_in command) D ≡ None → no_statement (prefix_in command) (betas_of D) ≡ false
    → AreSized D → IsTree (betas_of D) → length (betas_of D) + 1 < 2 ^ 32 → IsTree (vectors_after command (betas_of D))
tree_under m (Fission p c) D h some sized tree few =
    let P = map natural p in
    let V = betas_of D in
    let W = map (fissioned P (natural c)) V in
    answers_are_trees.0 P (natural c) V W tree
    (three 1 (no_statement P V) (not (is_loop P V)) (not (nat_lt 0 (natural c) && nat_lt (natural c) (children_of P V))) W h)
tree_under m (Fuse p) D h some sized tree few =
    let P = map natural p in
    let V = betas_of D in
    let W = map (fused P (children_of P V)) V in
    answers_are_trees.1 P V W tree
    (two 1 (no_statement P V) (not (is_nil P) && no_statement (next_sibling P) V) (not (is_loop P V && is_loop (next_sibling P) V)) W h)
tree_under m (Reorder p order) D h some sized tree few =
    let P = map natural p in
    let V = betas_of D in
    let W = map (reordered P (order_in order)) V in
    answers_are_trees.2 P (order_in order) V W tree
    (three 1 (no_statement P V) (is_leaf P V) (not (is_permutation_of (children_of P V) (order_in order))) W h)
tree_under m (Interchange p k l) D h some sized tree few = same_tree (betas_of D) tree
tree_under m (Skew p k l f) D h some sized tree few = same_tree (betas_of D) tree
tree_under m (Shift p k v c) D h some sized tree few = same_tree (betas_of D) tree
tree_under m (Reverse p k) D h some sized tree few = same_tree (betas_of D) tree
tree_under m (Stripmine p k s) D h some sized tree few = cut_tree 1 k k s (map natural p) D h some sized tree
tree_under m (Tile p k s t) D h some sized tree few = cut_tree 1 k t s (map natural p) D h some sized tree
tree_under m (Iss p xs ns c) D h some sized tree few =
    let P = map natural p in
    let V = betas_of D in
    let rest = all_under P (λ s. length xs == length s.body.iterators) D && length ns == m in
    let leaf : is_leaf P V ≡ true = and_left (is_leaf P V) rest (argument_passed 1 true (is_leaf P V && rest) h) in
    answers_are_trees.4 P V (flat_map (leaf_split P) V) tree few (answered P V some leaf)
  where
    answered : (P : List ℕ) (V : List (List ℕ)) → no_statement P V ≡ false → is_leaf P V ≡ true → leaf_answer P V ≡ Ok (flat_map (leaf_split P) V)
    answered P V s l = rw (s, l) refl

pub step_tree : (m : ℕ) (command : Command) (D : Draft) → condition_of m 1 command D ≡ None → AreSized D → IsTree (betas_of D) → length (betas_of D) + 1 < 2 ^ 32
    → IsTree (vectors_after command (betas_of D))
step_tree m command D h sized tree few =
    let none = no_statement (prefix_in command) (betas_of D) in
    let under = condition_under m 1 command (prefix_in command) D in
    tree_under m command D (behind_is (not (are_natural (prefix_of command)) || none) under (refusal.NoBeta 1) h) (some_is (are_natural (prefix_of command)) none under (refusal.NoBeta 1) h) sized tree few
