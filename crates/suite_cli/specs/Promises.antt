-- What each command promises of the texts of its files, which stand in the order of their words.
use Rattle.std.specs.Prelude.{◌≡◌, ℕ, List, [], ◌∷◌, Result, Ok, Err}
use Rattle.suite_base.specs.declared.refusals.Fail.{Fail}
use Rattle.suite_base.specs.declared.refusals.Fail.TheVariants as fail
use Rattle.suite_base.specs.declared.refusals.Refusal.{Refusal}
use Rattle.demo.specs.Demonstrations as demo
use Rattle.suite_cli.specs.declared.outcomes.Outcome.{Outcome}
use Rattle.suite_cli.specs.declared.outcomes.Outcome.TheVariants.{Memory, Refused}
use Rattle.suite_cli.specs.AuditPromise as audit
use Rattle.suite_cli.specs.CandlPromise as candl
use Rattle.suite_cli.specs.ChlorePromise as chlore
use Rattle.suite_cli.specs.ClayPromise as clay
use Rattle.suite_cli.specs.Commands.{Command, Audit, Candl, Chlore, Clan, Clay, Demo, Scop}
use Rattle.suite_cli.specs.ClanPromise as clan
use Rattle.suite_cli.specs.ScopPromise as scop

-- there is one text, and P holds of it
abbrev pub OfOne : (List ℕ → Type 0) → List (List ℕ) → Type 0
OfOne P (text ∷ []) = P text
OfOne P texts = ⊥

-- there are two texts, and P holds of them
abbrev pub OfTwo : (List ℕ → List ℕ → Type 0) → List (List ℕ) → Type 0
OfTwo P (first ∷ (second ∷ [])) = P first second
OfTwo P texts = ⊥

-- the command makes this output of these texts
abbrev pub Makes : Command → List (List ℕ) → List ℕ → Type 0
Makes (Clan file) texts output = OfOne (λ text. clan.Makes text output) texts
Makes (Scop file) texts output = OfOne (λ text. scop.Makes text output) texts
Makes (Candl file) texts output = OfOne (λ text. candl.Makes text output) texts
Makes (Audit file) texts output = OfOne (λ text. audit.Makes text output) texts
Makes (Clay script file) texts output = OfTwo (λ first second. clay.Makes first second output) texts
Makes (Chlore original target) texts output = OfTwo (λ first second. chlore.Makes first second output) texts
Makes (Demo loops) texts output = demo.Demonstrates loops output

-- the command takes these texts
abbrev pub Takes : Command → List (List ℕ) → Type 0
Takes (Clan file) texts = OfOne clan.Takes texts
Takes (Scop file) texts = OfOne scop.Takes texts
Takes (Candl file) texts = OfOne candl.Takes texts
Takes (Audit file) texts = OfOne audit.Takes texts
Takes (Clay script file) texts = OfTwo clay.Takes texts
Takes (Chlore original target) texts = OfTwo chlore.Takes texts
Takes (Demo loops) texts = demo.Takes loops

-- the command refuses these texts so; the refusal speaks of the file at this place, from 1, or of none at 0
abbrev pub Refuses : Command → List (List ℕ) → ℕ → Refusal → Type 0
Refuses (Clan file) texts place refusal = (place ≡ 1) × OfOne (λ text. clan.Refuses text refusal) texts
Refuses (Scop file) texts place refusal = (place ≡ 1) × OfOne (λ text. scop.Refuses text refusal) texts
Refuses (Candl file) texts place refusal = (place ≡ 1) × OfOne (λ text. candl.Refuses text refusal) texts
Refuses (Audit file) texts place refusal = (place ≡ 1) × OfOne (λ text. audit.Refuses text refusal) texts
Refuses (Clay script file) texts place refusal = OfTwo (λ first second. clay.Refuses first second place refusal) texts
Refuses (Chlore original target) texts place refusal = OfTwo (λ first second. chlore.Refuses first second place refusal) texts
Refuses (Demo loops) texts place refusal = (place ≡ 0) × demo.Refuses loops refusal

-- where a failure is a refusal, P holds of it
abbrev pub FailCause : (Refusal → Type 0) → Fail → Type 0
FailCause P fail.Memory = Unit {0}
FailCause P (fail.Refused refusal) = P refusal

-- why the command made no output: memory was wanting, or it refuses the texts so
abbrev pub StopCause : Command → List (List ℕ) → Outcome → Type 0
StopCause command texts Memory = Unit {0}
StopCause command texts (Refused place refusal) = Refuses command texts place refusal
StopCause command texts outcome = ⊥

-- the output, or the outcome of a failure of the work on the file at this place
abbrev pub made_of : ℕ → Result (List ℕ) Fail → Result (List ℕ) Outcome
made_of place (Ok output) = Ok output
made_of place (Err fail.Memory) = Err Memory
made_of place (Err (fail.Refused refusal)) = Err (Refused place refusal)
