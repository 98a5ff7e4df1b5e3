-- Where no violation system has a rational point, no pair that touches is reversed, and so the memory is kept.
use Rattle.std.proofs.Common.{◌≡◌, inl, inr, ℤ, List, [], ◌∷◌, sym, subst, Result, Ok, Err, IfOk}
use Rattle.relation_core.specs.Points.{LiesIn}
use Rattle.relation_core.proofs.Points.{members_are_points}
use Rattle.scop_core.specs.Sequences.{In}
use Rattle.scop_core.specs.Memory.{initial}
use Rattle.scop_core.specs.Meaning.{InContext, Instance}
use Rattle.scop_core.specs.Theorems.{HasValidSchedules}
use Rattle.scop_core.specs.MappedRuns.{IsReversed, MapsInstances}
use Rattle.scop_data.proofs.MappedRuns.{mapped_run_exists, nothing_reversed_keeps_memory}
use Rattle.scop_core.proofs.ClashFree.{valid_schedules}
use Rattle.dependence_systems.specs.Originals.{as_original}
use Rattle.suite_base.specs.declared.refusals.Fail.{Fail}
use Rattle.legality.specs.declared.legal.Legal.{Legal}
use Rattle.legality.specs.declared.legal.Legal.TheVariants.{Yes}
use Rattle.legality.proofs.Answered.{yes_none}
use Rattle.legality.specs.Violations.{Edit, Violation, violations, violation_system}
use Rattle.legality.specs.Answers.{AreNone, IsNone, IsSaid}
use Rattle.legality.specs.Edits.{KeepsInstances}
use Rattle.legality.specs.Memories.{KeepsMemory, AcceptedEditsKeepMemory}
use Rattle.legality.proofs.ReversedPairs.{reversed_pairs}

none_of : (E : Edit) (v : Violation) (list : List Violation) → AreNone E list → In v list → IsNone E v
none_of E v [] all h = absurd h
none_of E v (w ∷ list) all (inl e) = subst (λ u. IsNone E u) e all.0
none_of E v (w ∷ list) all (inr i) = none_of E v list all.1 i

nothing_reversed : (E : Edit) → KeepsInstances E → AreNone E (violations E) → (n : List ℤ) → InContext E.now n → (a b : Instance)
    → ¬ IsReversed E.now E.old n (as_original E.of) a b
nothing_reversed E kept all n in_context a b h =
    let found = reversed_pairs E kept.edit n in_context a b h in
    let point = members_are_points (violation_system E found.violation) a.values b.values n found.lies in
    (none_of E found.violation (violations E) all found.listed).no_point point.at point.factor point.length_is point.point

pub accepted_edits_keep_memory : AcceptedEditsKeepMemory
accepted_edits_keep_memory E kept all n in_context L run =
    let long = in_context.parameters_are in
    let maps : MapsInstances E.now E.old n (as_original E.of) = kept.instances n long in
    let valid : HasValidSchedules E.now.statements = valid_schedules E.now kept.edit.now_valid in
    let made = mapped_run_exists E.now E.old n (as_original E.of) L maps run valid (kept.no_ties n L long run) in
    let now_in_context : InContext E.now n = subst (λ c. LiesIn c [] [] n) kept.edit.context in_context in
    let agree = nothing_reversed_keeps_memory E.now E.old n (as_original E.of) L made.0 maps run made.1 (nothing_reversed E kept all n now_in_context) initial in
    (made.0, made.1, λ c. sym (agree c))

-- so it is where the answer is Yes
pub yes_keeps : (E : Edit) (answer : Result Legal Fail) → IsSaid E 1 (violations E) answer → IfOk answer (λ legal. legal ≡ Yes → KeepsInstances E → KeepsMemory E.old E.now)
yes_keeps E (Err f) said = tt
yes_keeps E (Ok legal) said = λ accepted kept.
    accepted_edits_keep_memory E kept (yes_none E 1 (violations E) (subst (λ l. IsSaid E 1 (violations E) (Ok l)) accepted said))
