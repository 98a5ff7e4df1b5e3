-- Refusals of `clay`: none is TooLong, and a text of a script has no fault.
use Rattle.std.proofs.Common.{◌≡◌, ℕ, ◌+◌, ◌≤◌, ◌^◌, Bool, true, false, List, [], ◌∷◌, length, refl, ap, sym, ◌∙◌}
use Rattle.std.specs.Prelude.{Option, Some, None, Result, Ok, Err, if◌then◌else◌, ◌&&◌, not, ◌||◌, map, nat_le, int_le, pos, ◌==◌}
use Rattle.std.specs.Ordering.{int_eq}
use Rattle.suite_base.specs.declared.refusals.Fail.TheVariants as fail
use Rattle.suite_base.specs.declared.refusals.Refusal.{Refusal}
use Rattle.suite_base.specs.declared.refusals.Refusal.TheVariants as refusal
use Rattle.suite_base.specs.declared.refusals.Which.TheVariants.{Levels, Locals, Statements, Rows}
use Rattle.suite_base.specs.declared.refusals.Where.TheVariants as count
use Rattle.suite_base.specs.Limits.{max_commands}
use Rattle.beta_tree.specs.declared.refusals.BetaFail.{BetaFail}
use Rattle.beta_tree.specs.declared.refusals.BetaFail.TheVariants as beta
use Rattle.beta_tree.specs.Vectors.{no_statement, is_leaf}
use Rattle.beta_tree.specs.Answers.{fission_answer, fuse_answer, reorder_answer}
use Rattle.scop_core.specs.ScopData.{ScopData}
use Rattle.scop_core.specs.Assembly.{or_else}
use Rattle.clay_script.specs.declared.commands.Command.{Command}
use Rattle.clay_script.specs.declared.commands.Command.TheVariants.{Fission, Fuse, Reorder, Interchange, Skew, Shift, Reverse, Stripmine, Tile, Iss}
use Rattle.clay_script.specs.declared.tokens.Lexeme.{Lexeme}
use Rattle.clay_script.specs.Commands.{prefix_of}
use Rattle.suite_base.specs.Places.{first_place}
use Rattle.clay_script.specs.Lexemes.{lexemes_of}
use Rattle.clay_script.specs.Grammar.{script_tokens, tokens_of, IsScript, FirstFault}
use Rattle.clay_script.specs.Reading.{commands_at}
use Rattle.clay_script.proofs.Scripts.{all_read, none_read}
use Rattle.clay_script.proofs.Laws.{IsText}
use Rattle.clay_script.proofs.Answers.{text_is, only_is, first_is}
use Rattle.clay_commands.specs.Arguments.{natural, are_natural, prefix_in, order_in}
use Rattle.clay_commands.specs.Drafts.{Draft, betas_of, drafted, draft_after}
use Rattle.clay_commands.specs.Refusals.{refused, level_then, is_within, can_cut, all_under, has_full_part, most_under, weight_of, condition_under, condition_of, cut_limit, limit_of, overflow_of, refusal_at, first_refusal}
use Rattle.clay_commands.specs.Afters.{refusal_of}

-- ---- no command is refused as too long

abbrev is_length : Refusal → Bool
is_length refusal.TooLong = true
is_length other = false

abbrev says : Option Refusal → Bool
says None = false
says (Some r) = is_length r

or_says : (a b : Option Refusal) → says a ≡ false → says b ≡ false → says (or_else a b) ≡ false
or_says None b f g = g
or_says (Some r) b f g = f

if_says : (b : Bool) (x y : Option Refusal) → says x ≡ false → says y ≡ false → says (if b then x else y) ≡ false
if_says true x y f g = f
if_says false x y f g = g

refused_says : (i : ℕ) (r : Result (List (List ℕ)) BetaFail) → says (refused i r) ≡ false
refused_says i (Ok V) = refl
refused_says i (Err beta.Memory) = refl
refused_says i (Err beta.NoBeta) = refl
refused_says i (Err beta.NotALoop) = refl
refused_says i (Err beta.BadArgument) = refl

level_says : (i : ℕ) (a b : Bool) → says (level_then i a b) ≡ false
level_says i true true = refl
level_says i true false = refl
level_says i false b = refl

under_says : (m i : ℕ) (command : Command) (P : List ℕ) (D : Draft) → says (condition_under m i command P D) ≡ false
under_says m i (Fission p c) P D = refused_says i (fission_answer P (natural c) (betas_of D))
under_says m i (Fuse p) P D = refused_says i (fuse_answer P (betas_of D))
under_says m i (Reorder p order) P D = refused_says i (reorder_answer P (order_in order) (betas_of D))
under_says m i (Interchange p k l) P D = level_says i (is_within k P D && is_within l P D) true
under_says m i (Skew p k l f) P D = level_says i (is_within k P D && is_within l P D) (not (int_eq k l))
under_says m i (Shift p k v c) P D = level_says i (is_within k P D) (length v == m)
under_says m i (Reverse p k) P D = level_says i (is_within k P D) true
under_says m i (Stripmine p k s) P D = level_says i (can_cut k k P D) (int_le (pos 1) s)
under_says m i (Tile p k s t) P D = level_says i (can_cut k t P D) (int_le (pos 1) s)
under_says m i (Iss p xs ns c) P D =
    level_says i true (is_leaf P (betas_of D) && (all_under P (λ s. length xs == length s.body.iterators) D && length ns == m))

condition_says : (m i : ℕ) (command : Command) (D : Draft) → says (condition_of m i command D) ≡ false
condition_says m i command D =
    if_says (not (are_natural (prefix_of command)) || no_statement (prefix_in command) (betas_of D)) (Some (refusal.NoBeta i)) _ refl (under_says m i command (prefix_in command) D)

-- one limit, or another, or none
two_say : (a b : Bool) (r s : Refusal) → is_length r ≡ false → is_length s ≡ false → says (if a then Some r else (if b then Some s else None)) ≡ false
two_say true b r s f g = f
two_say false true r s f g = g
two_say false false r s f g = refl

cut_says : (i : ℕ) (P : List ℕ) (D : Draft) → says (cut_limit i P D) ≡ false
cut_says i P D =
    two_say (nat_le 24 (most_under P (λ s. length s.schedule.levels) D)) (nat_le 24 (most_under P (λ s. length s.schedule.floors) D))
    (refusal.Limit Levels i) (refusal.Limit Locals i) refl refl

limit_says : (i : ℕ) (command : Command) (D : Draft) → says (limit_of i command D) ≡ false
limit_says i (Stripmine p k s) D = cut_says i (map natural p) D
limit_says i (Tile p k s t) D = cut_says i (map natural p) D
limit_says i (Iss p xs ns c) D =
    two_say (nat_le 1024 (length D)) (not (all_under (map natural p) (λ s. not (has_full_part s)) D)) (refusal.Limit Statements i) (refusal.Limit Rows i) refl refl
limit_says i (Fission p c) D = refl
limit_says i (Fuse p) D = refl
limit_says i (Reorder p order) D = refl
limit_says i (Interchange p a b) D = refl
limit_says i (Skew p a b f) D = refl
limit_says i (Shift p a v c) D = refl
limit_says i (Reverse p a) D = refl

one_says : (b : Bool) (r : Refusal) → is_length r ≡ false → says (if b then Some r else None) ≡ false
one_says true r f = f
one_says false r f = refl

script_says : (m i : ℕ) (script : List Command) (D : Draft) → says (first_refusal m i script D) ≡ false
script_says m i [] D = refl
script_says m i (command ∷ commands) D =
    or_says (refusal_at m i command D) (first_refusal m (i + 1) commands (draft_after command D))
    (or_says (condition_of m i command D) (or_else (limit_of i command D) (overflow_of i command D)) (condition_says m i command D)
    (or_says (limit_of i command D) (overflow_of i command D) (limit_says i command D) (one_says (nat_le (2 ^ 127) (weight_of command D)) (refusal.Overflow count.Command i) refl)))
    (script_says m (i + 1) commands (draft_after command D))

pub script_says_no_length : (S : ScopData) (script : List Command) → ¬ (refusal_of S script ≡ Some refusal.TooLong)
script_says_no_length S script e =
    absurd (let no : true ≡ false = sym (ap says e) ∙ script_says S.context.shape.parameters 1 script (drafted S) in cc)

-- ---- a text of a script has no fault

text_excluded : (ts : List Lexeme) (r : Refusal) (cs : List Command) → IsText ts → FirstFault max_commands ts r → tokens_of ts ≡ script_tokens cs → length cs ≤ max_commands
    → (v : Result (List Command) Refusal) → commands_at max_commands ts ≡ v → ⊥
text_excluded ts r cs text fault same few (Ok ds) e = let no : none_read r ≡ Ok ds = first_is max_commands ts (Ok ds) r text e fault in absurd (cc)
text_excluded ts r cs text fault same few (Err s) e = let no : all_read cs ≡ Err s = only_is max_commands ts (Err (fail.Refused s)) cs e same few in absurd (cc)

pub script_has_no_fault : (bytes : List ℕ) (script : List Command) (r : Refusal) → IsScript bytes script → length script ≤ max_commands → ¬ FirstFault max_commands (lexemes_of bytes) r
script_has_no_fault bytes script r is few fault =
    text_excluded (lexemes_of bytes) r script (text_is 0 first_place bytes) fault is few (commands_at max_commands (lexemes_of bytes)) refl

pub fault_is_no_length : (bytes : List ℕ) → ¬ FirstFault max_commands (lexemes_of bytes) refusal.TooLong
fault_is_no_length bytes fault = fault.fault

one_read : (ts : List Lexeme) (a b : List Command) → length a ≤ max_commands → length b ≤ max_commands → tokens_of ts ≡ script_tokens a → tokens_of ts ≡ script_tokens b
    → (v : Result (List Command) Refusal) → commands_at max_commands ts ≡ v → a ≡ b
one_read ts a b few some f g (Ok ds) e =
    let first : all_read a ≡ Ok ds = only_is max_commands ts (Ok ds) a e f few in
    let second : all_read b ≡ Ok ds = only_is max_commands ts (Ok ds) b e g some in
    cc
one_read ts a b few some f g (Err s) e = let no : all_read a ≡ Err s = only_is max_commands ts (Err (fail.Refused s)) a e f few in absurd (cc)

-- a text is one of one script
pub one_script : (text : List ℕ) (a b : List Command) → length a ≤ max_commands → length b ≤ max_commands → IsScript text a → IsScript text b → a ≡ b
one_script text a b few some e f = one_read (lexemes_of text) a b few some e f (commands_at max_commands (lexemes_of text)) refl
