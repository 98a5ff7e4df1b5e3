-- A command that is not refused fails no condition, whatever its number.
use Rattle.std.proofs.Common.{◌≡◌, ℕ, ◌+◌, Bool, true, false, not, ◌&&◌, ◌||◌, ◌==◌, if◌then◌else◌, Option, Some, None, Result, Ok, Err, List, [], ◌∷◌, length, pos, int_le, refl, ◌∙◌}
use Rattle.std.specs.Prelude.{is_none}
use Rattle.std.specs.Ordering.{int_eq}
use Rattle.suite_base.specs.declared.refusals.Refusal.{Refusal}
use Rattle.suite_base.specs.declared.refusals.Refusal.TheVariants as refusal
use Rattle.beta_tree.specs.declared.refusals.BetaFail.{BetaFail}
use Rattle.beta_tree.specs.declared.refusals.BetaFail.TheVariants as beta
use Rattle.beta_tree.specs.Vectors.{no_statement, is_leaf}
use Rattle.beta_tree.specs.Answers.{fission_answer, fuse_answer, reorder_answer}
use Rattle.scop_core.specs.Assembly.{or_else}
use Rattle.clay_script.specs.declared.commands.Command.{Command}
use Rattle.clay_script.specs.declared.commands.Command.TheVariants.{Fission, Fuse, Reorder, Interchange, Skew, Shift, Reverse, Stripmine, Tile, Iss}
use Rattle.clay_script.specs.Commands.{prefix_of}
use Rattle.clay_commands.specs.Arguments.{natural, are_natural, prefix_in, order_in}
use Rattle.clay_commands.specs.Drafts.{Draft, betas_of, drafted, draft_after}
use Rattle.clay_commands.specs.Refusals.{refused, level_then, is_within, can_cut, all_under, condition_under, condition_of, limit_of, overflow_of, refusal_at, first_refusal, is_formed}
use Rattle.edit_laws.specs.Keeping.{UnrefusedScriptsAreFormed}
use Rattle.edit_laws.proofs.Scripts.{none_is}

refused_same : (i j : ℕ) (r : Result (List (List ℕ)) BetaFail) → is_none (refused i r) ≡ is_none (refused j r)
refused_same i j (Ok V) = refl
refused_same i j (Err beta.Memory) = refl
refused_same i j (Err beta.NoBeta) = refl
refused_same i j (Err beta.NotALoop) = refl
refused_same i j (Err beta.BadArgument) = refl

level_same : (i j : ℕ) (a b : Bool) → is_none (level_then i a b) ≡ is_none (level_then j a b)
level_same i j true true = refl
level_same i j true false = refl
level_same i j false b = refl

under_same : (m i j : ℕ) (command : Command) (P : List ℕ) (D : Draft) → is_none (condition_under m i command P D) ≡ is_none (condition_under m j command P D)
under_same m i j (Fission p c) P D = refused_same i j (fission_answer P (natural c) (betas_of D))
under_same m i j (Fuse p) P D = refused_same i j (fuse_answer P (betas_of D))
under_same m i j (Reorder p order) P D = refused_same i j (reorder_answer P (order_in order) (betas_of D))
under_same m i j (Interchange p k l) P D = level_same i j (is_within k P D && is_within l P D) true
under_same m i j (Skew p k l f) P D = level_same i j (is_within k P D && is_within l P D) (not (int_eq k l))
under_same m i j (Shift p k v c) P D = level_same i j (is_within k P D) (length v == m)
under_same m i j (Reverse p k) P D = level_same i j (is_within k P D) true
under_same m i j (Stripmine p k s) P D = level_same i j (can_cut k k P D) (int_le (pos 1) s)
under_same m i j (Tile p k s t) P D = level_same i j (can_cut k t P D) (int_le (pos 1) s)
under_same m i j (Iss p xs ns c) P D = level_same i j true (is_leaf P (betas_of D) && (all_under P (λ s. length xs == length s.body.iterators) D && length ns == m))

condition_same : (m i j : ℕ) (command : Command) (D : Draft) → is_none (condition_of m i command D) ≡ is_none (condition_of m j command D)
condition_same m i j command D = by (not (are_natural (prefix_of command)) || no_statement (prefix_in command) (betas_of D))
  where
    by : (b : Bool) → is_none (if b then Some (refusal.NoBeta i) else condition_under m i command (prefix_in command) D)
        ≡ is_none (if b then Some (refusal.NoBeta j) else condition_under m j command (prefix_in command) D)
    by true = refl
    by false = under_same m i j command (prefix_in command) D

first_none : (a b : Option Refusal) → or_else a b ≡ None → is_none a ≡ true
first_none None b h = refl
first_none (Some r) b h = absurd (cc)

rest_none : (a b : Option Refusal) → or_else a b ≡ None → b ≡ None
rest_none None b h = h
rest_none (Some r) b h = absurd (cc)

both : (a b : Bool) → a ≡ true → b ≡ true → (a && b) ≡ true
both a b e f = rw e f

formed : (m i : ℕ) (script : List Command) (D : Draft) → first_refusal m i script D ≡ None → is_formed m script D ≡ true
formed m i [] D h = refl
formed m i (command ∷ script) D h =
    let rest = first_refusal m (i + 1) script (draft_after command D) in
    let own : refusal_at m i command D ≡ None = none_is (refusal_at m i command D) (first_none (refusal_at m i command D) rest h) in
    let one : is_none (condition_of m i command D) ≡ true = first_none (condition_of m i command D) (or_else (limit_of i command D) (overflow_of i command D)) own in
    both (is_none (condition_of m 1 command D)) (is_formed m script (draft_after command D)) (condition_same m 1 i command D ∙ one)
    (formed m (i + 1) script (draft_after command D) (rest_none (refusal_at m i command D) rest h))

pub unrefused_scripts_are_formed : UnrefusedScriptsAreFormed
unrefused_scripts_are_formed S script h = formed S.context.shape.parameters 1 script (drafted S) h
