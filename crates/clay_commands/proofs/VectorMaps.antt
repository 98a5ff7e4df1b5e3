-- The leaves after a command that edits vectors alone.
use Rattle.std.proofs.Common.{◌≡◌, ℕ, ◌^◌, max, nat_lt, nat_le, Bool, true, false, not, ◌&&◌, if◌then◌else◌, Option, Some, None, Result, Ok, Err, List, [], ◌∷◌, map, length, refl, ap, sym, ◌∙◌, subst, arith}
use Rattle.std.proofs.lemmas.List.{length-map}
use Rattle.suite_base.specs.declared.refusals.Refusal.{Refusal}
use Rattle.suite_base.specs.declared.refusals.Refusal.TheVariants as refusal
use Rattle.suite_base.specs.declared.refusals.Where.TheVariants as count
use Rattle.suite_base.specs.declared.refusals.Fail.{Fail}
use Rattle.beta_tree.specs.declared.refusals.BetaFail.{BetaFail}
use Rattle.beta_tree.specs.declared.refusals.BetaFail.TheVariants as beta
use Rattle.beta_tree.specs.Vectors.{no_statement, is_leaf, is_loop, is_nil, children_of}
use Rattle.beta_tree.specs.Edits.{fissioned, fused, reordered, next_sibling, is_permutation_of}
use Rattle.beta_tree.specs.Answers.{fission_answer, fuse_answer, reorder_answer}
use Rattle.scop_core.specs.Assembly.{or_else, HasCause}
use Rattle.clay_script.specs.declared.commands.Command.{Command}
use Rattle.clay_script.specs.declared.commands.Command.TheVariants.{Fission, Fuse, Reorder, Interchange, Skew, Shift, Reverse, Stripmine, Tile, Iss}
use Rattle.clay_commands.specs.declared.leaves.Leaf.{Leaf}
use Rattle.clay_commands.specs.Arguments.{natural, order_in, prefix_in}
use Rattle.clay_commands.specs.Drafts.{Draft, betas_of, is_under, with_beta, vector_after, leaf_after, draft_after}
use Rattle.clay_commands.specs.Refusals.{refused, most_under}
use Rattle.clay_commands.specs.Steps.{joined, IsVectorCommand, vector_answer, refusal_under}
use Rattle.clay_commands.specs.Soundness.{IsStep}
use Rattle.clay_commands.proofs.DraftMaps.{maps_to}
use Rattle.clay_commands.proofs.Cuts.{joined_betas}

-- an answer that is one was refused by no test
passed : (t : Bool) (e : BetaFail) (answer : Result (List (List ℕ)) BetaFail) (W : List (List ℕ)) → (if t then Err e else answer) ≡ Ok W → answer ≡ Ok W
passed true e answer W h = absurd (cc)
passed false e answer W h = h

abbrev answer_of : List (List ℕ) → Result (List (List ℕ)) BetaFail
answer_of V = Ok V

ok_is : (V W : List (List ℕ)) → answer_of V ≡ answer_of W → W ≡ V
ok_is V W e = cc

vectors_are : (command : Command) (V W : List (List ℕ)) → IsVectorCommand command → vector_answer command (prefix_in command) V ≡ Ok W → W ≡ map (vector_after command V) V
vectors_are (Fission p c) V W is h =
    let P = map natural p in
    let made = answer_of (map (fissioned P (natural c)) V) in
    let third = if not (nat_lt 0 (natural c) && nat_lt (natural c) (children_of P V)) then Err beta.BadArgument else made in
    let second = if not (is_loop P V) then Err beta.NotALoop else third in
    ok_is (map (fissioned P (natural c)) V) W
    (passed (not (nat_lt 0 (natural c) && nat_lt (natural c) (children_of P V))) beta.BadArgument made W
    (passed (not (is_loop P V)) beta.NotALoop third W (passed (no_statement P V) beta.NoBeta second W h)))
vectors_are (Fuse p) V W is h =
    let P = map natural p in
    let made = answer_of (map (fused P (children_of P V)) V) in
    let third = if not (is_loop P V && is_loop (next_sibling P) V) then Err beta.NotALoop else made in
    let second = if not (is_nil P) && no_statement (next_sibling P) V then Err beta.NoBeta else third in
    ok_is (map (fused P (children_of P V)) V) W
    (passed (not (is_loop P V && is_loop (next_sibling P) V)) beta.NotALoop made W
    (passed (not (is_nil P) && no_statement (next_sibling P) V) beta.NoBeta third W (passed (no_statement P V) beta.NoBeta second W h)))
vectors_are (Reorder p order) V W is h =
    let P = map natural p in
    let made = answer_of (map (reordered P (order_in order)) V) in
    let third = if not (is_permutation_of (children_of P V) (order_in order)) then Err beta.BadArgument else made in
    let second = if is_leaf P V then Err beta.NotALoop else third in
    ok_is (map (reordered P (order_in order)) V) W
    (passed (not (is_permutation_of (children_of P V) (order_in order))) beta.BadArgument made W
    (passed (is_leaf P V) beta.NotALoop third W (passed (no_statement P V) beta.NoBeta second W h)))
vectors_are (Interchange p j l) V W is h = absurd is
vectors_are (Skew p j l f) V W is h = absurd is
vectors_are (Shift p j v c) V W is h = absurd is
vectors_are (Reverse p j) V W is h = absurd is
vectors_are (Stripmine p j s) V W is h = absurd is
vectors_are (Tile p j s t) V W is h = absurd is
vectors_are (Iss p xs ns c) V W is h = absurd is

same_either : (u : Bool) (leaf : Leaf) (v : List ℕ) → record leaf { beta = v; statement = if u then leaf.statement else leaf.statement } ≡ with_beta v leaf
same_either true leaf v = refl
same_either false leaf v = refl

pub vector_leaf : (command : Command) (V : List (List ℕ)) (leaf : Leaf) → IsVectorCommand command → leaf_after command V leaf ≡ with_beta (vector_after command V leaf.beta) leaf ∷ []
vector_leaf (Fission p c) V leaf is = ap (λ t. t ∷ []) (same_either (is_under (map natural p) leaf.beta) leaf (vector_after (Fission p c) V leaf.beta))
vector_leaf (Fuse p) V leaf is = ap (λ t. t ∷ []) (same_either (is_under (map natural p) leaf.beta) leaf (vector_after (Fuse p) V leaf.beta))
vector_leaf (Reorder p order) V leaf is = ap (λ t. t ∷ []) (same_either (is_under (map natural p) leaf.beta) leaf (vector_after (Reorder p order) V leaf.beta))
vector_leaf (Interchange p j l) V leaf is = absurd is
vector_leaf (Skew p j l f) V leaf is = absurd is
vector_leaf (Shift p j v c) V leaf is = absurd is
vector_leaf (Reverse p j) V leaf is = absurd is
vector_leaf (Stripmine p j s) V leaf is = absurd is
vector_leaf (Tile p j s t) V leaf is = absurd is
vector_leaf (Iss p xs ns c) V leaf is = absurd is

joined_own : (g : List ℕ → List ℕ) (D : Draft) → joined (map g (betas_of D)) D ≡ map (λ leaf. with_beta (g leaf.beta) leaf) D
joined_own g [] = refl
joined_own g (leaf ∷ D) = ap (λ t. with_beta (g leaf.beta) leaf ∷ t) (joined_own g D)

vector_draft : (command : Command) (D : Draft) → IsVectorCommand command → joined (map (vector_after command (betas_of D)) (betas_of D)) D ≡ draft_after command D
vector_draft command D is =
    joined_own (vector_after command (betas_of D)) D
    ∙ sym (maps_to (λ leaf. with_beta (vector_after command (betas_of D) leaf.beta) leaf) (leaf_after command (betas_of D)) D (λ leaf. vector_leaf command (betas_of D) leaf is))

-- such a command has no limits and no weight

abbrev overflow_by : ℕ → ℕ → Option Refusal
overflow_by i n = if nat_le (2 ^ 127) n then Some (refusal.Overflow count.Command i) else None

no_weight : (u : Bool) (n : ℕ) → n ≡ 0 → max (if u then 0 else 0) n ≡ 0
no_weight true n h = omega arith
no_weight false n h = omega arith

no_weights : (P : List ℕ) (D : Draft) → most_under P (λ s. 0) D ≡ 0
no_weights P [] = refl
no_weights P (leaf ∷ D) = let h = no_weights P D in no_weight (is_under P leaf.beta) (most_under P (λ s. 0) D) h

only_condition : (parameters i : ℕ) (command : Command) (P : List ℕ) (D : Draft) → IsVectorCommand command
    → refusal_under parameters i command P D ≡ or_else (refused i (vector_answer command P (betas_of D))) None
only_condition parameters i (Fission p c) P D is =
    ap (λ n. or_else (refused i (fission_answer P (natural c) (betas_of D))) (or_else None (overflow_by i n))) (no_weights (map natural p) D)
only_condition parameters i (Fuse p) P D is =
    ap (λ n. or_else (refused i (fuse_answer P (betas_of D))) (or_else None (overflow_by i n))) (no_weights (map natural p) D)
only_condition parameters i (Reorder p order) P D is =
    ap (λ n. or_else (refused i (reorder_answer P (order_in order) (betas_of D))) (or_else None (overflow_by i n))) (no_weights (map natural p) D)
only_condition parameters i (Interchange p j l) P D is = absurd is
only_condition parameters i (Skew p j l f) P D is = absurd is
only_condition parameters i (Shift p j v c) P D is = absurd is
only_condition parameters i (Reverse p j) P D is = absurd is
only_condition parameters i (Stripmine p j s) P D is = absurd is
only_condition parameters i (Tile p j s t) P D is = absurd is
only_condition parameters i (Iss p xs ns c) P D is = absurd is

or_none : (r : Option Refusal) → or_else r None ≡ r
or_none None = refl
or_none (Some r) = refl

pub vector_cause : (parameters i : ℕ) (command : Command) (P : List ℕ) (D : Draft) (V : List (List ℕ)) (fail : Fail) → IsVectorCommand command → V ≡ betas_of D
    → HasCause (refused i (vector_answer command P V)) fail → HasCause (refusal_under parameters i command P D) fail
vector_cause parameters i command P D V fail is e h =
    let same : refused i (vector_answer command P V) ≡ refusal_under parameters i command P D =
    ap (λ U. refused i (vector_answer command P U)) e ∙ sym (or_none (refused i (vector_answer command P (betas_of D)))) ∙ sym (only_condition parameters i command P D is) in
    subst (λ r. HasCause r fail) same h

pub vector_stepped : (parameters i : ℕ) (command : Command) (P : List ℕ) (D E : Draft) (V W : List (List ℕ)) → IsVectorCommand command → P ≡ prefix_in command → V ≡ betas_of D
    → vector_answer command P V ≡ Ok W → E ≡ joined W D → IsStep parameters i command D E W
vector_stepped parameters i command P D E V W is e v h j =
    let own : vector_answer command (prefix_in command) (betas_of D) ≡ Ok W =
    sym (ap (λ Q. vector_answer command Q (betas_of D)) e) ∙ sym (ap (λ U. vector_answer command P U) v) ∙ h in
    let vectors : W ≡ map (vector_after command (betas_of D)) (betas_of D) = vectors_are command (betas_of D) W is own in
    let long : length W ≡ length D = ap length vectors ∙ length-map (betas_of D) (vector_after command (betas_of D)) ∙ length-map D (λ leaf. leaf.beta) in
    record {
      unrefused = only_condition parameters i command (prefix_in command) D is ∙ ap (λ a. or_else (refused i a) None) own;
      draft = j ∙ ap (λ U. joined U D) vectors ∙ vector_draft command D is;
      vectors = sym (ap betas_of j ∙ joined_betas W D long);
    }

pub long_vectors : (command : Command) (P : List ℕ) (D : Draft) (V W : List (List ℕ)) → IsVectorCommand command → P ≡ prefix_in command → V ≡ betas_of D
    → vector_answer command P V ≡ Ok W → length W ≡ length D
long_vectors command P D V W is e v h =
    let own : vector_answer command (prefix_in command) (betas_of D) ≡ Ok W =
    sym (ap (λ Q. vector_answer command Q (betas_of D)) e) ∙ sym (ap (λ U. vector_answer command P U) v) ∙ h in
    ap length (vectors_are command (betas_of D) W is own) ∙ length-map (betas_of D) (vector_after command (betas_of D)) ∙ length-map D (λ leaf. leaf.beta)
