-- What the answers of the commands and of the check say of a script.
use Rattle.std.proofs.Common.{◌≡◌, inl, inr, ℕ, List, None, Result, Ok, Err, subst}
use Rattle.suite_base.specs.declared.refusals.Fail.{Fail}
use Rattle.suite_base.specs.declared.refusals.Fail.TheVariants.{Memory, Refused}
use Rattle.suite_base.specs.declared.refusals.Refusal.{Refusal}
use Rattle.suite_base.specs.declared.refusals.Refusal.TheVariants.{Illegal}
use Rattle.scop_core.specs.Assembly.{HasCause}
use Rattle.scop_core.specs.ScopData.{ScopData}
use Rattle.clay_script.specs.declared.commands.Command.{Command}
use Rattle.clay_commands.specs.declared.edited.Edited.{Edited}
use Rattle.clay_commands.specs.Afters.{after_script, refusal_of}
use Rattle.legality.specs.declared.legal.Legal.{Legal}
use Rattle.legality.specs.declared.legal.Legal.TheVariants as answer
use Rattle.legality.specs.Violations.{Edit, edit_of}
use Rattle.legality.specs.Answers as legal
use Rattle.demo.specs.Edits.{IsScriptAccepted, IsScriptRefused, IsScriptStop, IsStopped, edited}

pub apply_stops : (S : ScopData) (script : List Command) (fail : Fail) → HasCause (refusal_of S script) fail → IsScriptStop S script fail
apply_stops S script Memory h = tt
apply_stops S script (Refused refusal) h = inl h

refused_is_stopped : (E : Edit) (refusal : Refusal) → legal.IsRefusal E refusal → IsStopped E refusal
refused_is_stopped E (Illegal k) h = absurd h
refused_is_stopped E refusal h = h

module _ (S : ScopData) (script : List Command) (made : Edited) (none : refusal_of S script ≡ None) (same : made ≡ after_script S script) where
  answers : (r : Result Legal Fail) → legal.IsAnswer (edit_of S made) r → legal.IsAnswer (edited S script) r
  answers r h = subst (λ m. legal.IsAnswer (edit_of S m) r) same h

  pub check_accepts : (l : Legal) → l ≡ answer.Yes → legal.IsAnswer (edit_of S made) (Ok l) → IsScriptAccepted S script
  check_accepts l is h = record { unrefused = none; none = answers (Ok answer.Yes) (subst (λ x. legal.IsAnswer (edit_of S made) (Ok x)) is h) }

  pub check_rejects : (l : Legal) (k : ℕ) → l ≡ answer.Illegal k → legal.IsAnswer (edit_of S made) (Ok l) → IsScriptRefused S script (Illegal k)
  check_rejects l k is h =
      inr (record { unrefused = none; stopped = answers (Ok (answer.Illegal k)) (subst (λ x. legal.IsAnswer (edit_of S made) (Ok x)) is h) })

  pub check_stops : (fail : Fail) → legal.IsAnswer (edit_of S made) (Err fail) → IsScriptStop S script fail
  check_stops Memory h = tt
  check_stops (Refused refusal) h =
      inr (record { unrefused = none; stopped = refused_is_stopped (edited S script) refusal (answers (Err (Refused refusal)) h) })
