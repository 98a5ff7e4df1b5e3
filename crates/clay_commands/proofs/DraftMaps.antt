-- The leaves after a command as the leaves that the code makes.
use Rattle.std.proofs.Common.{◌≡◌, ℕ, ◌<◌, ◌^◌, ◌≤◌, nat_le, Bool, true, false, if◌then◌else◌, inl, inr, Option, Some, None, List, [], ◌∷◌, ◌++◌, map, refl, ap, sym, ◌∙◌, subst, arith}
use Rattle.std.specs.List.{flat_map}
use Rattle.std.proofs.lemmas.Bool.{leb-true, leb-false}
use Rattle.suite_base.specs.declared.refusals.Refusal.{Refusal}
use Rattle.beta_tree.proofs.Places.{bool_tells}
use Rattle.scop_data.specs.declared.statements.Statement.{Statement}
use Rattle.scop_core.specs.Assembly.{or_else, HasCause}
use Rattle.clay_script.specs.declared.commands.Command.{Command}
use Rattle.clay_script.specs.declared.commands.Command.TheVariants.{Fission, Fuse, Reorder, Interchange, Skew, Shift, Reverse, Stripmine, Tile, Iss}
use Rattle.clay_commands.specs.declared.leaves.Leaf.{Leaf}
use Rattle.clay_commands.specs.declared.edit_fails.EditFail.{EditFail}
use Rattle.clay_commands.specs.declared.edit_fails.EditFail.TheVariants.{Memory, Heavy}
use Rattle.clay_commands.specs.Arguments.{natural, prefix_in}
use Rattle.clay_commands.specs.Drafts.{Draft, betas_of, is_under, forms_after, scheduled, leaf_after, draft_after}
use Rattle.clay_commands.specs.Refusals.{condition_under, limit_of, overflow_of, most_under, statement_weight}
use Rattle.clay_commands.specs.Steps.{IsHeavy, IsPlainCommand, IsLevelCommand, IsFormCommand, changed, edit_fail_of, refusal_under}
use Rattle.clay_commands.specs.Soundness.{IsStep}

pub maps_to : (f : Leaf → Leaf) (g : Leaf → List Leaf) (D : Draft) → ((leaf : Leaf) → g leaf ≡ f leaf ∷ []) → flat_map g D ≡ map f D
maps_to f g [] each = refl
maps_to f g (leaf ∷ D) each = ap (λ t. t ++ flat_map g D) (each leaf) ∙ ap (λ t. f leaf ∷ t) (maps_to f g D each)

plain_one : (u : Bool) (leaf : Leaf) (X : Statement)
    → record leaf { beta = leaf.beta; statement = if u then X else leaf.statement } ≡ (if u then record leaf { statement = X } else leaf)
plain_one true leaf X = refl
plain_one false leaf X = refl

plain_leaf : (command : Command) (V : List (List ℕ)) (leaf : Leaf) → IsPlainCommand command → leaf_after command V leaf ≡ changed command (prefix_in command) leaf ∷ []
plain_leaf (Interchange p k l) V leaf is = ap (λ t. t ∷ []) (plain_one (is_under (map natural p) leaf.beta) leaf (scheduled leaf.statement (forms_after (Interchange p k l) leaf.statement.schedule)))
plain_leaf (Skew p k l f) V leaf is = ap (λ t. t ∷ []) (plain_one (is_under (map natural p) leaf.beta) leaf (scheduled leaf.statement (forms_after (Skew p k l f) leaf.statement.schedule)))
plain_leaf (Shift p k v c) V leaf is = ap (λ t. t ∷ []) (plain_one (is_under (map natural p) leaf.beta) leaf (scheduled leaf.statement (forms_after (Shift p k v c) leaf.statement.schedule)))
plain_leaf (Reverse p k) V leaf is = ap (λ t. t ∷ []) (plain_one (is_under (map natural p) leaf.beta) leaf (scheduled leaf.statement (forms_after (Reverse p k) leaf.statement.schedule)))
plain_leaf (Fission p c) V leaf is = absurd is
plain_leaf (Fuse p) V leaf is = absurd is
plain_leaf (Reorder p order) V leaf is = absurd is
plain_leaf (Stripmine p k s) V leaf is = absurd is
plain_leaf (Tile p k s t) V leaf is = absurd is
plain_leaf (Iss p xs ns c) V leaf is = absurd is

pub plain_draft : (command : Command) (D : Draft) → IsPlainCommand command → draft_after command D ≡ map (changed command (prefix_in command)) D
plain_draft command D is = maps_to (changed command (prefix_in command)) (leaf_after command (betas_of D)) D (λ leaf. plain_leaf command (betas_of D) leaf is)

changed_beta : (command : Command) (P : List ℕ) (leaf : Leaf) → (changed command P leaf).beta ≡ leaf.beta
changed_beta command P leaf =
    elim (is_under P leaf.beta) as (λ u. (if u then record leaf { statement = scheduled leaf.statement (forms_after command leaf.statement.schedule) } else leaf).beta ≡ leaf.beta)
    [ true ↦ refl | false ↦ refl ]

pub changed_betas : (command : Command) (P : List ℕ) (D : Draft) → betas_of (map (changed command P) D) ≡ betas_of D
changed_betas command P [] = refl
changed_betas command P (leaf ∷ D) = ap (λ v. v ∷ betas_of (map (changed command P) D)) (changed_beta command P leaf) ∙ ap (λ V. leaf.beta ∷ V) (changed_betas command P D)

-- a weight within the greatest coefficient, and one past it
pub light_command : (i : ℕ) (command : Command) (D : Draft) → most_under (prefix_in command) (statement_weight command) D < 2 ^ 127 → overflow_of i command D ≡ None
light_command i command D l =
    elim (bool_tells (nat_le (2 ^ 127) (most_under (prefix_in command) (statement_weight command) D))) [
      | inl t ↦ absurd (let h = leb-true (2 ^ 127) (most_under (prefix_in command) (statement_weight command) D) t in omega arith)
      | inr f ↦ rw f refl
    ]

heavy_command : (i : ℕ) (command : Command) (D : Draft) → 2 ^ 127 ≤ most_under (prefix_in command) (statement_weight command) D
    → HasCause (overflow_of i command D) (edit_fail_of i Heavy)
heavy_command i command D l =
    elim (bool_tells (nat_le (2 ^ 127) (most_under (prefix_in command) (statement_weight command) D))) [
      | inl t ↦ rw t refl
      | inr f ↦ absurd (let h = leb-false (2 ^ 127) (most_under (prefix_in command) (statement_weight command) D) f in omega arith)
    ]

-- a command that no condition and no limit refuses is refused by its weight alone
by_weight : (parameters i : ℕ) (command : Command) (P : List ℕ) (D : Draft) → condition_under parameters i command P D ≡ None → limit_of i command D ≡ None
    → refusal_under parameters i command P D ≡ overflow_of i command D
by_weight parameters i command P D c l =
    ap (λ t. or_else t (or_else (limit_of i command D) (overflow_of i command D))) c ∙ ap (λ t. or_else t (overflow_of i command D)) l

pub unrefused_command : (parameters i : ℕ) (command : Command) (P : List ℕ) (D : Draft) → condition_under parameters i command P D ≡ None → limit_of i command D ≡ None
    → P ≡ prefix_in command → most_under P (statement_weight command) D < 2 ^ 127 → refusal_under parameters i command P D ≡ None
unrefused_command parameters i command P D c l e w =
    by_weight parameters i command P D c l ∙ light_command i command D (subst (λ Q. most_under Q (statement_weight command) D < 2 ^ 127) e w)

pub heavy_cause : (parameters i : ℕ) (command : Command) (P : List ℕ) (D : Draft) (fail : EditFail) → condition_under parameters i command P D ≡ None → limit_of i command D ≡ None
    → P ≡ prefix_in command → IsHeavy (most_under P (statement_weight command) D) fail → HasCause (refusal_under parameters i command P D) (edit_fail_of i fail)
heavy_cause parameters i command P D Memory c l e h = tt
heavy_cause parameters i command P D Heavy c l e h =
    let own : 2 ^ 127 ≤ most_under (prefix_in command) (statement_weight command) D = subst (λ Q. 2 ^ 127 ≤ most_under Q (statement_weight command) D) e h in
    by_weight parameters i command P D c l ∙ heavy_command i command D own

-- a condition that fails comes first
pub condition_first : (parameters i : ℕ) (command : Command) (P : List ℕ) (D : Draft) (r : Refusal) → condition_under parameters i command P D ≡ Some r
    → refusal_under parameters i command P D ≡ Some r
condition_first parameters i command P D r c = ap (λ t. or_else t (or_else (limit_of i command D) (overflow_of i command D))) c

plain_limit : (i : ℕ) (command : Command) (D : Draft) → IsPlainCommand command → limit_of i command D ≡ None
plain_limit i (Interchange p k l) D is = refl
plain_limit i (Skew p k l f) D is = refl
plain_limit i (Shift p k v c) D is = refl
plain_limit i (Reverse p k) D is = refl
plain_limit i (Fission p c) D is = absurd is
plain_limit i (Fuse p) D is = absurd is
plain_limit i (Reorder p order) D is = absurd is
plain_limit i (Stripmine p k s) D is = absurd is
plain_limit i (Tile p k s t) D is = absurd is
plain_limit i (Iss p xs ns c) D is = absurd is

pub plain_forms : (command : Command) → IsPlainCommand command → IsFormCommand command × IsLevelCommand command
plain_forms (Interchange p k l) is = (tt, tt)
plain_forms (Skew p k l f) is = (tt, tt)
plain_forms (Shift p k v c) is = (tt, tt)
plain_forms (Reverse p k) is = (tt, tt)
plain_forms (Fission p c) is = absurd is
plain_forms (Fuse p) is = absurd is
plain_forms (Reorder p order) is = absurd is
plain_forms (Stripmine p k s) is = absurd is
plain_forms (Tile p k s t) is = absurd is
plain_forms (Iss p xs ns c) is = absurd is

pub plain_stepped : (parameters i : ℕ) (command : Command) (P : List ℕ) (D E : Draft) (V : List (List ℕ)) → IsPlainCommand command → condition_under parameters i command P D ≡ None
    → P ≡ prefix_in command → most_under P (statement_weight command) D < 2 ^ 127 → E ≡ map (changed command P) D → V ≡ betas_of D → IsStep parameters i command D E V
plain_stepped parameters i command P D E V is c e w made v =
    let own : E ≡ map (changed command (prefix_in command)) D = made ∙ ap (λ Q. map (changed command Q) D) e in
    let none : condition_under parameters i command (prefix_in command) D ≡ None = subst (λ Q. condition_under parameters i command Q D ≡ None) e c in
    let weight : most_under (prefix_in command) (statement_weight command) D < 2 ^ 127 = subst (λ Q. most_under Q (statement_weight command) D < 2 ^ 127) e w in
    record {
      unrefused = unrefused_command parameters i command (prefix_in command) D none (plain_limit i command D is) refl weight;
      draft = own ∙ sym (plain_draft command D is);
      vectors = v ∙ sym (ap betas_of own ∙ changed_betas command (prefix_in command) D);
    }

pub plain_cause : (parameters i : ℕ) (command : Command) (P : List ℕ) (D : Draft) (fail : EditFail) → IsPlainCommand command → condition_under parameters i command P D ≡ None
    → P ≡ prefix_in command → IsHeavy (most_under P (statement_weight command) D) fail → HasCause (refusal_under parameters i command P D) (edit_fail_of i fail)
plain_cause parameters i command P D fail is c e h = heavy_cause parameters i command P D fail c (plain_limit i command D is) e h

-- the condition, as it was read of a slice of the leaves
pub read_condition : (parameters i : ℕ) (command : Command) (P : List ℕ) (D slice : Draft) (r : Option Refusal) → slice ≡ D → r ≡ condition_under parameters i command P slice → r ≡ None
    → condition_under parameters i command P D ≡ None
read_condition parameters i command P D slice r s c n = sym (ap (λ d. condition_under parameters i command P d) s) ∙ sym c ∙ n
