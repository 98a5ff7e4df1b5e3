-- One command of a script and the rest of it.
use Rattle.std.proofs.Common.{◌≡◌, ℕ, ◌+◌, ◌<◌, Option, List, ◌∷◌, drop, length, get_or, ap, sym, ◌∙◌, subst, add-one}
use Rattle.std.proofs.Math.Seq.{drop-cons}
use Rattle.suite_base.specs.declared.refusals.Refusal.{Refusal}
use Rattle.suite_base.specs.declared.refusals.Fail.{Fail}
use Rattle.suite_base.specs.declared.refusals.Fail.TheVariants.{Memory, Refused}
use Rattle.scop_core.specs.Assembly.{or_else, HasCause}
use Rattle.clay_script.specs.declared.commands.Command.{Command}
use Rattle.clay_commands.specs.Drafts.{Draft, draft_after, drafts_after}
use Rattle.clay_commands.specs.Refusals.{refusal_at, first_refusal}
use Rattle.clay_commands.specs.Soundness.{IsCommandStep}

-- the rest of a script at command k, and the rest behind it
at_command : (script : List Command) (k : ℕ) (c : Command) → k < length script → c ≡ get_or script k c → drop k script ≡ c ∷ drop (k + 1) script
at_command script k c l is =
    drop-cons script k c l ∙ ap (λ n. get_or script k c ∷ drop n script) (sym (add-one k)) ∙ ap (λ x. x ∷ drop (k + 1) script) (sym is)

pub refusals_left : (parameters i k : ℕ) (script : List Command) (c : Command) (D E : Draft) (V : List (List ℕ)) (all : Option Refusal) → k < length script → c ≡ get_or script k c
    → IsCommandStep parameters i c D E V → first_refusal parameters i (drop k script) D ≡ all → first_refusal parameters (i + 1) (drop (k + 1) script) E ≡ all
refusals_left parameters i k script c D E V all l is step h =
    let here : first_refusal parameters i (c ∷ drop (k + 1) script) D ≡ all = sym (ap (λ t. first_refusal parameters i t D) (at_command script k c l is)) ∙ h in
    ap (λ t. first_refusal parameters (i + 1) (drop (k + 1) script) t) step.draft
    ∙ sym (ap (λ r. or_else r (first_refusal parameters (i + 1) (drop (k + 1) script) (draft_after c D))) step.unrefused) ∙ here

pub drafts_left : (parameters i k : ℕ) (script : List Command) (c : Command) (D E : Draft) (V : List (List ℕ)) (all : Draft) → k < length script → c ≡ get_or script k c
    → IsCommandStep parameters i c D E V → drafts_after (drop k script) D ≡ all → drafts_after (drop (k + 1) script) E ≡ all
drafts_left parameters i k script c D E V all l is step h =
    ap (λ t. drafts_after (drop (k + 1) script) t) step.draft ∙ sym (ap (λ t. drafts_after t D) (at_command script k c l is)) ∙ h

-- a refusal of this command is the first one
refused_first : (r rest : Option Refusal) (fail : Fail) → HasCause r fail → HasCause (or_else r rest) fail
refused_first r rest Memory h = tt
refused_first r rest (Refused q) h = ap (λ t. or_else t rest) h

pub cause_here : (parameters i k : ℕ) (script : List Command) (c : Command) (D : Draft) (all : Option Refusal) (fail : Fail) → k < length script → c ≡ get_or script k c
    → first_refusal parameters i (drop k script) D ≡ all → HasCause (refusal_at parameters i c D) fail → HasCause all fail
cause_here parameters i k script c D all fail l is h cause =
    let here : first_refusal parameters i (c ∷ drop (k + 1) script) D ≡ all = sym (ap (λ t. first_refusal parameters i t D) (at_command script k c l is)) ∙ h in
    subst (λ r. HasCause r fail) here (refused_first (refusal_at parameters i c D) (first_refusal parameters (i + 1) (drop (k + 1) script) (draft_after c D)) fail cause)
