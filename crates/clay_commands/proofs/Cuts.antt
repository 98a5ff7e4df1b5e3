-- The leaves after a level was cut into strips.
use Rattle.std.proofs.Common.{◌≡◌, ℕ, ◌+◌, ◌-◌, ◌<◌, ◌≤◌, ◌^◌, min, Bool, true, false, if◌then◌else◌, inl, inr, Option, None, Result, Ok, Err, List, [], ◌∷◌, ◌++◌, map, length, ℤ, pos, negsuc, int_le, refl, ap, sym, ◌∙◌, subst, arith}
use Rattle.std.specs.Prelude.{All}
use Rattle.std.proofs.lemmas.Int.{ints}
use Rattle.std.proofs.lemmas.List.{length-map}
use Rattle.std.proofs.lemmas.List.Elements.{All-head, All-tail}
use Rattle.suite_base.specs.declared.refusals.Refusal.{Refusal}
use Rattle.beta_tree.specs.declared.refusals.BetaFail.{BetaFail}
use Rattle.beta_tree.specs.declared.refusals.BetaFail.TheVariants.{Memory, NoBeta, NotALoop, BadArgument}
use Rattle.beta_tree.specs.Vectors.{no_statement, In, LongerUnder}
use Rattle.beta_tree.specs.Edits.{with_level}
use Rattle.beta_tree.specs.Answers.{HasCause as CauseOfBetas, level_answer}
use Rattle.beta_tree.proofs.Places.{after_append, from_In-under}
use Rattle.beta_tree.proofs.Trees.{some_under}
use Rattle.beta_tree.proofs.Orders.{and_right}
use Rattle.scop_data.specs.declared.statements.Statement.{Statement}
use Rattle.scop_core.specs.Assembly.{HasCause}
use Rattle.clay_script.specs.declared.commands.Command.{Command}
use Rattle.clay_script.specs.declared.commands.Command.TheVariants.{Fission, Fuse, Reorder, Interchange, Skew, Shift, Reverse, Stripmine, Tile, Iss}
use Rattle.clay_commands.specs.declared.leaves.Leaf.{Leaf}
use Rattle.clay_commands.specs.Arguments.{natural, prefix_in}
use Rattle.clay_commands.specs.Drafts.{Draft, betas_of, is_under, with_beta, forms_after, scheduled, leaf_after, draft_after}
use Rattle.clay_commands.specs.Refusals.{has_level, is_within, can_cut, condition_under, limit_of, cut_limit, most_under, statement_weight}
use Rattle.clay_commands.specs.Steps.{AllUnder, IsFormCommand, changed, joined, IsCut, fail_of}
use Rattle.clay_commands.specs.Soundness.{IsSoundLeaf, IsStep}
use Rattle.clay_commands.proofs.Changeables.{le_true, passes, level_passed, cut_within, cut_prefix}
use Rattle.clay_commands.proofs.DraftMaps.{maps_to, unrefused_command}

-- vectors joined to leaves

pub joined_betas : (V : List (List ℕ)) (D : Draft) → length V ≡ length D → betas_of (joined V D) ≡ V
joined_betas [] D e = refl
joined_betas (v ∷ V) [] e = absurd (omega arith)
joined_betas (v ∷ V) (leaf ∷ D) e = ap (λ t. v ∷ t) (joined_betas V D (omega arith))

pub joined_maps : (g : List ℕ → List ℕ) (f : Leaf → Leaf) (D : Draft) → joined (map g (betas_of D)) (map f D) ≡ map (λ leaf. with_beta (g leaf.beta) (f leaf)) D
joined_maps g f [] = refl
joined_maps g f (leaf ∷ D) = ap (λ t. with_beta (g leaf.beta) (f leaf) ∷ t) (joined_maps g f D)

cut_one : (u : Bool) (leaf : Leaf) (v : List ℕ) (X : Statement)
    → record leaf { beta = v; statement = if u then X else leaf.statement } ≡ with_beta v (if u then record leaf { statement = X } else leaf)
cut_one true leaf v X = refl
cut_one false leaf v X = refl

-- a leaf whose level k is cut
abbrev pub cut_leaf : Command → ℤ → Leaf → Leaf
cut_leaf command k leaf = with_beta (with_level (prefix_in command) (natural k) leaf.beta) (changed command (prefix_in command) leaf)

pub leaf_cut : (command : Command) (k : ℤ) (V : List (List ℕ)) (leaf : Leaf) → IsCut command k → leaf_after command V leaf ≡ cut_leaf command k leaf ∷ []
leaf_cut (Stripmine p j s) k V leaf is =
    ap (λ t. t ∷ []) (cut_one (is_under (map natural p) leaf.beta) leaf (with_level (map natural p) (natural j) leaf.beta) (scheduled leaf.statement (forms_after (Stripmine p j s) leaf.statement.schedule)))
    ∙ ap (λ n. with_beta (with_level (map natural p) (natural n) leaf.beta) (changed (Stripmine p j s) (map natural p) leaf) ∷ []) is
leaf_cut (Tile p j s t) k V leaf is =
    ap (λ t. t ∷ []) (cut_one (is_under (map natural p) leaf.beta) leaf (with_level (map natural p) (natural j) leaf.beta) (scheduled leaf.statement (forms_after (Tile p j s t) leaf.statement.schedule)))
    ∙ ap (λ n. with_beta (with_level (map natural p) (natural n) leaf.beta) (changed (Tile p j s t) (map natural p) leaf) ∷ []) is
leaf_cut (Fission p c) k V leaf is = absurd is
leaf_cut (Fuse p) k V leaf is = absurd is
leaf_cut (Reorder p order) k V leaf is = absurd is
leaf_cut (Interchange p j l) k V leaf is = absurd is
leaf_cut (Skew p j l f) k V leaf is = absurd is
leaf_cut (Shift p j v c) k V leaf is = absurd is
leaf_cut (Reverse p j) k V leaf is = absurd is
leaf_cut (Iss p xs ns c) k V leaf is = absurd is

cut_draft : (command : Command) (k : ℤ) (D : Draft) → IsCut command k
    → joined (map (with_level (prefix_in command) (natural k)) (betas_of D)) (map (changed command (prefix_in command)) D) ≡ draft_after command D
cut_draft command k D is =
    joined_maps (with_level (prefix_in command) (natural k)) (changed command (prefix_in command)) D
    ∙ sym (maps_to (cut_leaf command k) (leaf_after command (betas_of D)) D (λ leaf. leaf_cut command k (betas_of D) leaf is))

-- what a cut asks, from its condition

pub cut_condition : (parameters i : ℕ) (command : Command) (k : ℤ) (P : List ℕ) (D : Draft) → IsCut command k → condition_under parameters i command P D ≡ None
    → (is_within k P D ≡ true) × (int_le (pos (length P)) k ≡ true)
cut_condition parameters i (Stripmine p j s) k P D is h =
    let passed = level_passed i (can_cut j j P D) (int_le (pos 1) s) h in
    subst (λ n. (is_within n P D ≡ true) × (int_le (pos (length P)) n ≡ true)) is (cut_within j j P D passed, cut_prefix j j P D passed)
cut_condition parameters i (Tile p j s t) k P D is h =
    let passed = level_passed i (can_cut j t P D) (int_le (pos 1) s) h in
    subst (λ n. (is_within n P D ≡ true) × (int_le (pos (length P)) n ≡ true)) is (cut_within j t P D passed, cut_prefix j t P D passed)
cut_condition parameters i (Fission p c) k P D is h = absurd is
cut_condition parameters i (Fuse p) k P D is h = absurd is
cut_condition parameters i (Reorder p order) k P D is h = absurd is
cut_condition parameters i (Interchange p j l) k P D is h = absurd is
cut_condition parameters i (Skew p j l f) k P D is h = absurd is
cut_condition parameters i (Shift p j v c) k P D is h = absurd is
cut_condition parameters i (Reverse p j) k P D is h = absurd is
cut_condition parameters i (Iss p xs ns c) k P D is h = absurd is

pub natural_below : (k : ℤ) (n : ℕ) → int_le k (pos n) ≡ true → natural k ≤ n
natural_below (pos k) n h = let l = le_true (pos k) (pos n) h in omega (arith, ints)
natural_below (negsuc k) n h = omega arith

pub natural_above : (k : ℤ) (n : ℕ) → int_le (pos n) k ≡ true → n ≤ natural k
natural_above (pos k) n h = let l = le_true (pos n) (pos k) h in omega (arith, ints)
natural_above (negsuc k) n h = absurd (let l = le_true (pos n) (negsuc k) h in omega (arith, ints))

-- a vector under P is longer than k
pub longer_leaf : (parameters : ℕ) (k : ℤ) (leaf : Leaf) → IsSoundLeaf parameters leaf → has_level k leaf.statement ≡ true → natural k < length leaf.beta
longer_leaf parameters k leaf sound h =
    let long : length (map (λ b. pos b) leaf.beta) ≡ length leaf.statement.schedule.levels + 1 = sound.shape.schedule.relation.betas in
    let same : length (map (λ b. pos b) leaf.beta) ≡ length leaf.beta = length-map leaf.beta (λ b. pos b) in
    let high = natural_below k (length leaf.statement.schedule.levels) (and_right (int_le (pos 1) k) (int_le k (pos (length leaf.statement.schedule.levels))) h) in
    omega arith

pub longer : (parameters : ℕ) (k : ℤ) (P : List ℕ) (D : Draft) → All (IsSoundLeaf parameters) D → AllUnder P (λ s. has_level k s ≡ true) D → LongerUnder P (natural k) (betas_of D)
longer parameters k P [] sound all w i = absurd i
longer parameters k P (leaf ∷ D) sound all w (inl e) =
    let under : is_under P leaf.beta ≡ true = rw (e, after_append P w) refl in
    subst (λ v. natural k < length v) e (longer_leaf parameters k leaf (All-head (IsSoundLeaf parameters) leaf D sound) (all.0 under))
longer parameters k P (leaf ∷ D) sound all w (inr i) = longer parameters k P D (All-tail (IsSoundLeaf parameters) leaf D sound) all.1 w i

-- a level of a statement is a small number
small_of : (parameters : ℕ) (k : ℤ) (P w : List ℕ) (D : Draft) → All (IsSoundLeaf parameters) D → AllUnder P (λ s. has_level k s ≡ true) D → In (P ++ w) (betas_of D) → natural k ≤ 24
small_of parameters k P w [] sound all i = absurd i
small_of parameters k P w (leaf ∷ D) sound all (inl e) =
    let under : is_under P leaf.beta ≡ true = rw (e, after_append P w) refl in
    let most = (All-head (IsSoundLeaf parameters) leaf D sound).limits.levels in
    let high = natural_below k (length leaf.statement.schedule.levels) (and_right (int_le (pos 1) k) (int_le k (pos (length leaf.statement.schedule.levels))) (all.0 under)) in
    omega arith
small_of parameters k P w (leaf ∷ D) sound all (inr i) = small_of parameters k P w D (All-tail (IsSoundLeaf parameters) leaf D sound) all.1 i

pub small_level : (parameters : ℕ) (k : ℤ) (P : List ℕ) (D : Draft) → All (IsSoundLeaf parameters) D → AllUnder P (λ s. has_level k s ≡ true) D
    → no_statement P (betas_of D) ≡ false → min (natural k) (2 ^ 32 - 1) ≡ natural k
small_level parameters k P D sound all some =
    let (u, i) = some_under P (betas_of D) some in
    let small = small_of parameters k P u D sound all (from_In-under P u (betas_of D) i) in
    omega arith

abbrev answer_of : List (List ℕ) → Result (List (List ℕ)) BetaFail
answer_of V = Ok V

ok_is : (V W : List (List ℕ)) → answer_of V ≡ answer_of W → V ≡ W
ok_is V W e = cc

no_error : (P : List ℕ) (k : ℕ) (V : List (List ℕ)) (e : BetaFail) → no_statement P V ≡ false → level_answer P k V ≡ Err e → ⊥
no_error P k V e some h =
    let made : level_answer P k V ≡ Ok (map (with_level P k) V) = rw some refl in
    let both : Ok (map (with_level P k) V) ≡ Err e = sym made ∙ h in
    cc

-- the vectors with a new level
pub levels_made : (P : List ℕ) (k : ℕ) (V W : List (List ℕ)) → no_statement P V ≡ false → level_answer P k V ≡ Ok W → W ≡ map (with_level P k) V
levels_made P k V W some h =
    let made : level_answer P k V ≡ Ok (map (with_level P k) V) = rw some refl in
    ok_is W (map (with_level P k) V) (sym h ∙ made)

pub level_cause : (i : ℕ) (P : List ℕ) (k : ℕ) (V : List (List ℕ)) (e : BetaFail) (r : Option Refusal) → no_statement P V ≡ false → CauseOfBetas e (level_answer P k V) → HasCause r (fail_of i e)
level_cause i P k V Memory r some h = tt
level_cause i P k V NoBeta r some h = absurd (no_error P k V NoBeta some h)
level_cause i P k V NotALoop r some h = absurd (no_error P k V NotALoop some h)
level_cause i P k V BadArgument r some h = absurd (no_error P k V BadArgument some h)

cut_limit_is : (i : ℕ) (command : Command) (k : ℤ) (D : Draft) → IsCut command k → limit_of i command D ≡ cut_limit i (prefix_in command) D
cut_limit_is i (Stripmine p j s) k D is = refl
cut_limit_is i (Tile p j s t) k D is = refl
cut_limit_is i (Fission p c) k D is = absurd is
cut_limit_is i (Fuse p) k D is = absurd is
cut_limit_is i (Reorder p order) k D is = absurd is
cut_limit_is i (Interchange p j l) k D is = absurd is
cut_limit_is i (Skew p j l f) k D is = absurd is
cut_limit_is i (Shift p j v c) k D is = absurd is
cut_limit_is i (Reverse p j) k D is = absurd is
cut_limit_is i (Iss p xs ns c) k D is = absurd is

pub limit_is : (i : ℕ) (command : Command) (k : ℤ) (P : List ℕ) (D : Draft) (r : Option Refusal) → IsCut command k → P ≡ prefix_in command → r ≡ cut_limit i P D → limit_of i command D ≡ r
limit_is i command k P D r is e l = cut_limit_is i command k D is ∙ sym (l ∙ ap (λ Q. cut_limit i Q D) e)

pub cut_stepped : (parameters i : ℕ) (command : Command) (k : ℤ) (P : List ℕ) (D E F : Draft) (W : List (List ℕ)) → IsCut command k → P ≡ prefix_in command
    → condition_under parameters i command P D ≡ None → limit_of i command D ≡ None → most_under P (statement_weight command) D < 2 ^ 127
    → E ≡ map (changed command P) D → no_statement P (betas_of D) ≡ false → level_answer P (natural k) (betas_of D) ≡ Ok W → F ≡ joined W E → IsStep parameters i command D F W
cut_stepped parameters i command k P D E F W is e c l w changed_all some levels joined_all =
    let none : condition_under parameters i command (prefix_in command) D ≡ None = subst (λ Q. condition_under parameters i command Q D ≡ None) e c in
    let weight : most_under (prefix_in command) (statement_weight command) D < 2 ^ 127 = subst (λ Q. most_under Q (statement_weight command) D < 2 ^ 127) e w in
    let vectors : W ≡ map (with_level (prefix_in command) (natural k)) (betas_of D) = levels_made P (natural k) (betas_of D) W some levels ∙ ap (λ Q. map (with_level Q (natural k)) (betas_of D)) e in
    let leaves : E ≡ map (changed command (prefix_in command)) D = changed_all ∙ ap (λ Q. map (changed command Q) D) e in
    let made : F ≡ draft_after command D = joined_all ∙ ap (λ t. joined t E) vectors ∙ ap (joined (map (with_level (prefix_in command) (natural k)) (betas_of D))) leaves ∙ cut_draft command k D is in
    let long : length W ≡ length E = ap length vectors ∙ length-map (betas_of D) (with_level (prefix_in command) (natural k)) ∙ length-map D (λ leaf. leaf.beta) ∙ sym (ap length leaves ∙ length-map D (changed command (prefix_in command))) in
    record {
      unrefused = unrefused_command parameters i command (prefix_in command) D none l refl weight;
      draft = made;
      vectors = sym (ap betas_of joined_all ∙ joined_betas W E long);
    }

-- what the condition of a cut says of the leaves under its prefix
pub record CutFacts (k : ℤ) (P : List ℕ) (D : Draft) : Type 0 where
  pub small : min (natural k) (2 ^ 32 - 1) ≡ natural k
  pub below : length P ≤ natural k
  pub above : LongerUnder P (natural k) (betas_of D)

pub cut_facts : (parameters i : ℕ) (command : Command) (k : ℤ) (P : List ℕ) (D : Draft) → IsCut command k → condition_under parameters i command P D ≡ None
    → All (IsSoundLeaf parameters) D → no_statement P (betas_of D) ≡ false → CutFacts k P D
cut_facts parameters i command k P D is c sound some =
    let asked = cut_condition parameters i command k P D is c in
    let levels = passes P (has_level k) D asked.0 in
    record {
      small = small_level parameters k P D sound levels some;
      below = natural_above k (length P) asked.1;
      above = longer parameters k P D sound levels;
    }

pub cut_forms : (command : Command) (k : ℤ) → IsCut command k → IsFormCommand command
cut_forms (Stripmine p j s) k is = tt
cut_forms (Tile p j s t) k is = tt
cut_forms (Fission p c) k is = absurd is
cut_forms (Fuse p) k is = absurd is
cut_forms (Reorder p order) k is = absurd is
cut_forms (Interchange p j l) k is = absurd is
cut_forms (Skew p j l f) k is = absurd is
cut_forms (Shift p j v c) k is = absurd is
cut_forms (Reverse p j) k is = absurd is
cut_forms (Iss p xs ns c) k is = absurd is
