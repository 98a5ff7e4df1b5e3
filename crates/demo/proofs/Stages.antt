-- The stages of a demo: what it shows, why it stops, and that it doesn't where each stage takes what it is given.
use Rattle.std.proofs.Common.{◌≡◌, inl, inr, ◌∙◌, ℕ, ◌≤◌, Some, None, List, Result, Ok, Err, IfErr, Bool, if◌then◌else◌, length, refl, ap, sym, subst}
use Rattle.std.proofs.lemmas.Bool.{le-leb}
use Rattle.suite_base.specs.Limits.{max_commands, max_input}
use Rattle.suite_base.specs.declared.refusals.Fail.{Fail}
use Rattle.suite_base.specs.declared.refusals.Fail.TheVariants.{Memory, Refused}
use Rattle.suite_base.specs.declared.refusals.Refusal.{Refusal}
use Rattle.suite_base.specs.declared.refusals.Refusal.TheVariants.{Limit}
use Rattle.suite_base.specs.declared.refusals.Which.TheVariants.{Commands}
use Rattle.scop_core.specs.Assembly.{HasCause, or_else}
use Rattle.scop_core.specs.ScopData.{ScopData}
use Rattle.dependence_systems.specs.Sides.{own_sides}
use Rattle.dependence_systems.specs.Entries.{entries}
use Rattle.candl_deps.specs.Decisions.{IsCause, IsRefusal}
use Rattle.candl_deps.proofs.Printing.{decidable_is_not_refused}
use Rattle.clay_script.specs.declared.commands.Command.{Command}
use Rattle.clay_commands.specs.declared.edited.Edited.{Edited}
use Rattle.clay_commands.specs.Afters.{after_script}
use Rattle.chlore_recover.specs.Recovered.{CanRecover}
use Rattle.chlore_recover.specs.Refusals.{length_refusal, recovery_refusal}
use Rattle.chlore_recover.specs.Strategy.{strategy}
use Rattle.chlore_recover.proofs.Decisions.{unrefused_can_recover}
use Rattle.region_extract.specs.Answers.{IsTranslation, Translates}
use Rattle.region_extract.proofs.Exclusions.{translated_is_not_refused}
use Rattle.demo.specs.declared.summaries.Counts.{Counts}
use Rattle.demo.specs.declared.summaries.SystemCounts.{SystemCounts}
use Rattle.demo.specs.Summaries.{summary}
use Rattle.demo.specs.Inputs.{demo_script, demo_text}
use Rattle.demo.specs.Edits.{IsScriptAccepted, IsScriptRefused, IsScriptStop}
use Rattle.demo.specs.Demonstrations.{AreCounted, Demonstrates, IsRead, IsStop, Refuses, Takes, after_demo}
use Rattle.demo.proofs.ClearEdits.{clear_is_not_refused}
use Rattle.demo.proofs.Short.{script_is_short, text_is_short}
use Rattle.demo.proofs.Translations.{one_translation}

-- ---- what is handed on

pub text_translates : (k : ℕ) (text : List ℕ) (r : Result ScopData Fail) → text ≡ demo_text k → Translates text r → Translates (demo_text k) r
text_translates k text r e h = subst (λ t. Translates t r) e h

pub short_text : (k : ℕ) (text : List ℕ) → text ≡ demo_text k → k ≤ 32 → length text ≤ max_input
short_text k text e most = subst (λ t. length t ≤ max_input) (sym e) (text_is_short k most)

pub short_script : (k : ℕ) (script : List Command) → script ≡ demo_script k → k ≤ 32 → length script ≤ max_commands
short_script k script e most = subst (λ s. length s ≤ max_commands) (sym e) (script_is_short k most)

pub is_read : (k : ℕ) (S : ScopData) (systems : SystemCounts) → IsTranslation (demo_text k) S → AreCounted S systems → IsRead k S systems
is_read k S systems t counted = record { translated = t; counted = counted }

pub demo_accepted : (k : ℕ) (S : ScopData) (script : List Command) → script ≡ demo_script k → IsScriptAccepted S script → IsScriptAccepted S (demo_script k)
demo_accepted k S script e h = subst (IsScriptAccepted S) e h

pub demo_made : (k : ℕ) (S : ScopData) (script : List Command) (made : Edited) → script ≡ demo_script k → made ≡ after_script S script → made.scop ≡ after_demo k S
demo_made k S script made e h = ap (λ (m : Edited). m.scop) h ∙ ap (λ c. (after_script S c).scop) e

-- what was counted is the summary of a demo
pub demonstrated : (k : ℕ) (S made : ScopData) (systems : SystemCounts) (found : List Command) (text : List ℕ) (statements commands recovered : ℕ)
    → IsRead k S systems → IsScriptAccepted S (demo_script k) → made ≡ after_demo k S → recovery_refusal S made ≡ None → found ≡ strategy S made
    → statements ≡ length S.statements → commands ≡ length (demo_script k) → recovered ≡ length found
    → text ≡ summary (record { loops = k; statements = statements; systems = systems; commands = commands; recovered = recovered }) → Demonstrates k text
demonstrated k S made systems found text statements commands recovered read accepted same none script a b d e =
    let back : recovered ≡ length (strategy S (after_demo k S)) = d ∙ ap length script ∙ ap (λ T. length (strategy S T)) same in
    let counts : (statements commands recovered : ℕ) → Counts
    = λ x y z. record { loops = k; statements = x; systems = systems; commands = y; recovered = z } in
    record {
      scop = S;
      systems = systems;
      read = read;
      accepted = accepted;
      recoverable = subst (λ T. recovery_refusal S T ≡ None) same none;
      summary_is = e ∙ ap (λ x. summary (counts x commands recovered)) a ∙ ap (λ y. summary (counts (length S.statements) y recovered)) b
          ∙ ap (λ z. summary (counts (length S.statements) (length (demo_script k)) z)) back;
    }

-- ---- why a stage stops

pub text_stops : (k : ℕ) (fail : Fail) → Translates (demo_text k) (Err fail) → IsStop k fail
text_stops k Memory h = tt
text_stops k (Refused refusal) h = inl h

pub systems_stop : (k : ℕ) (S : ScopData) (fail : Fail) → IsTranslation (demo_text k) S → IsCause S fail → IsStop k fail
systems_stop k S Memory t h = tt
systems_stop k S (Refused refusal) t h = inr (inl (record { scop = S; translated = t; refused = h }))

pub script_stops : (k : ℕ) (S : ScopData) (systems : SystemCounts) (script : List Command) (fail : Fail) → IsRead k S systems → script ≡ demo_script k
    → IsScriptStop S script fail → IsStop k fail
script_stops k S systems script Memory r e h = tt
script_stops k S systems script (Refused refusal) r e h =
    inr (inr (inl (record { scop = S; systems = systems; read = r; refused = subst (λ c. IsScriptRefused S c refusal) e h })))

pub recovery_stops : (k : ℕ) (S made : ScopData) (systems : SystemCounts) (fail : Fail) → IsRead k S systems → IsScriptAccepted S (demo_script k) → made ≡ after_demo k S
    → HasCause (recovery_refusal S made) fail → IsStop k fail
recovery_stops k S made systems Memory r a e h = tt
recovery_stops k S made systems (Refused refusal) r a e h =
    inr (inr (inr (record { scop = S; systems = systems; read = r; accepted = a; refused = subst (λ T. recovery_refusal S T ≡ Some refusal) e h })))

-- ---- no stage stops that takes what it is given

not_long : (O T : ScopData) → length (strategy O T) ≤ max_commands → length_refusal (strategy O T) ≡ None
not_long O T few = ap (λ (b : Bool). if b then None else Some (Limit Commands 0)) (le-leb (length (strategy O T)) max_commands few)

recoverable : (O T : ScopData) → CanRecover O T → length (strategy O T) ≤ max_commands → recovery_refusal O T ≡ None
recoverable O T can few = ap (λ r. or_else r (length_refusal (strategy O T))) ((unrefused_can_recover O T).1 can) ∙ not_long O T few

no_two : (S T : ScopData) (refusal : Refusal) → recovery_refusal S T ≡ None → ¬ (recovery_refusal S T ≡ Some refusal)
no_two S T refusal p q = absurd (cc)

-- a demo whose stages take what they are given is not refused
pub taken_is_not_refused : (k : ℕ) (refusal : Refusal) → Takes k → ¬ Refuses k refusal
taken_is_not_refused k refusal t (inl h) = translated_is_not_refused (demo_text k) t.scop refusal t.translated h
taken_is_not_refused k refusal t (inr (inl h)) =
    let same : h.scop ≡ t.scop = one_translation (demo_text k) h.scop t.scop h.translated t.translated in
    decidable_is_not_refused t.scop refusal t.decidable (subst (λ (S : ScopData). IsRefusal S.context (own_sides S) (entries (own_sides S)) refusal) same h.refused)
taken_is_not_refused k refusal t (inr (inr (inl h))) =
    let same : h.scop ≡ t.scop = one_translation (demo_text k) h.scop t.scop h.read.translated t.translated in
    clear_is_not_refused t.scop (demo_script k) refusal t.unrefused t.clear (subst (λ S. IsScriptRefused S (demo_script k) refusal) same h.refused)
taken_is_not_refused k refusal t (inr (inr (inr h))) =
    let same : h.scop ≡ t.scop = one_translation (demo_text k) h.scop t.scop h.read.translated t.translated in
    no_two t.scop (after_demo k t.scop) refusal (recoverable t.scop (after_demo k t.scop) t.recoverable t.few)
    (subst (λ S. recovery_refusal S (after_demo k S) ≡ Some refusal) same h.refused)

-- so its only failure is want of memory
pub only_memory : (k : ℕ) (fail : Fail) → IsStop k fail → Takes k → fail ≡ Memory
only_memory k Memory h t = refl
only_memory k (Refused refusal) h t = absurd (taken_is_not_refused k refusal t h)

pub stops_complete : (k : ℕ) (r : Result (List ℕ) Fail) → IfErr r (IsStop k) → IfErr r (λ fail. Takes k → fail ≡ Memory)
stops_complete k (Ok text) h = tt
stops_complete k (Err fail) h = λ t. only_memory k fail h t

pub text_completes : (k : ℕ) (fail : Fail) → Translates (demo_text k) (Err fail) → Takes k → fail ≡ Memory
text_completes k fail h t = only_memory k fail (text_stops k fail h) t
