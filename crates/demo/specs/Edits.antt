-- The edit that a script makes of a SCoP: when it is accepted, and why it is refused.
use Rattle.std.specs.Prelude.{◌≡◌, ◌⊎◌, ◌<◌, ◌≤◌, ◌^◌, List, [], ◌∷◌, length, Some, None}
use Rattle.suite_base.specs.Limits.{max_systems, max_stage_rows}
use Rattle.suite_base.specs.declared.refusals.Fail.{Fail}
use Rattle.suite_base.specs.declared.refusals.Fail.TheVariants.{Memory, Refused}
use Rattle.suite_base.specs.declared.refusals.Refusal.{Refusal}
use Rattle.suite_base.specs.declared.refusals.Refusal.TheVariants.{Illegal}
use Rattle.scop_core.specs.ScopData.{ScopData}
use Rattle.clay_script.specs.declared.commands.Command.{Command}
use Rattle.clay_commands.specs.Afters.{after_script, refusal_of}
use Rattle.legality.specs.Violations.{Edit, Violation, edit_of, dependences, violations, violation_peak}
use Rattle.legality.specs.Answers.{IsAccepted, IsNone, IsRefusal, IsRejected}

-- a SCoP and the one after a script
abbrev pub edited : ScopData → List Command → Edit
edited S script = edit_of S (after_script S script)

-- no command of a script is refused, and no violation system of the edit has a rational point
pub record IsScriptAccepted (scop : ScopData) (script : List Command) : Type 0 where
  pub unrefused : refusal_of scop script ≡ None
  pub none : IsAccepted (edited scop script)

-- an edit is refused as illegal for the first violation system with a rational point, or for what its systems are refused
abbrev pub IsStopped : Edit → Refusal → Type 0
IsStopped E (Illegal k) = IsRejected E k
IsStopped E refusal = IsRefusal E refusal

-- a script that no command of is refused is refused for the edit that it makes
pub record IsEditRefused (scop : ScopData) (script : List Command) (refusal : Refusal) : Type 0 where
  pub unrefused : refusal_of scop script ≡ None
  pub stopped : IsStopped (edited scop script) refusal

-- a script is refused for the first command with a refusal, or for the edit
abbrev pub IsScriptRefused : ScopData → List Command → Refusal → Type 0
IsScriptRefused scop script refusal = (refusal_of scop script ≡ Some refusal) ⊎ IsEditRefused scop script refusal

-- why there is no accepted edit: memory was wanting, or the script is refused
abbrev pub IsScriptStop : ScopData → List Command → Fail → Type 0
IsScriptStop scop script Memory = Unit {0}
IsScriptStop scop script (Refused refusal) = IsScriptRefused scop script refusal

-- no violation has a rational point, and each peak is within both limits
abbrev pub AreClear : Edit → List Violation → Type 0
AreClear E [] = Unit {0}
AreClear E (v ∷ vs) =
    let p = violation_peak E v in IsNone E v × (p.weight < 2 ^ 127) × (p.rows ≤ max_stage_rows) × AreClear E vs

-- an edit of which every violation system is decided, and has no rational point
pub record IsClear (E : Edit) : Type 0 where
  pub few : length (dependences E) ≤ max_systems
  pub clear : AreClear E (violations E)
