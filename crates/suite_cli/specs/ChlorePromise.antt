-- What `chlore` promises of the texts of its files: an original, and a target.
use Rattle.std.specs.Prelude.{◌≡◌, ◌⊎◌, ◌≤◌, ℕ, List, length, Some, None}
use Rattle.suite_base.specs.declared.refusals.Refusal.{Refusal}
use Rattle.suite_base.specs.declared.refusals.Refusal.TheVariants.{NotClanForm, NotRecoverable}
use Rattle.suite_base.specs.Limits.{max_commands}
use Rattle.scop_core.specs.ScopData.{ScopData}
use Rattle.scop_reader.specs.Texts.{IsScopText, fault}
use Rattle.clay_script.specs.Grammar.{IsScript}
use Rattle.clay_script.specs.Layout.{layout}
use Rattle.chlore_recover.specs.Recovered.{CanRecover}
use Rattle.chlore_recover.specs.Refusals.{recovery_refusal}
use Rattle.chlore_recover.specs.Strategy.{strategy, Recovers}
use Rattle.suite_cli.specs.declared.outcomes.Outcome.{Outcome}
use Rattle.suite_cli.specs.declared.outcomes.Outcome.TheVariants.{Memory, Refused}

-- the SCoPs that the texts stand for
pub record AreScopTexts (first second : List ℕ) (original target : ScopData) : Type 0 where
  pub first_text : IsScopText first original
  pub second_text : IsScopText second target

-- the output is the layout of the script for these SCoPs, and a text of it; no command of the script is refused for the original, and
-- at all integers the script gives each statement the target's dense stamp
pub record IsRecoveredText (original target : ScopData) (output : List ℕ) : Type 0 where
  pub unrefused : recovery_refusal original target ≡ None
  pub layout_is : output ≡ layout (strategy original target)
  pub stands : IsScript output (strategy original target)
  pub recovers : Recovers original target (strategy original target)

-- the output is that of the SCoPs that the texts stand for
pub record Makes (first second output : List ℕ) : Type 0 where
  pub original : ScopData
  pub target : ScopData
  pub texts : AreScopTexts first second original target
  pub made : IsRecoveredText original target output

-- it takes an original in Clan's form and a recoverable target with the same counts, whose script is short enough
pub record Takes (first second : List ℕ) : Type 0 where
  pub original : ScopData
  pub target : ScopData
  pub texts : AreScopTexts first second original target
  pub can : CanRecover original target
  pub few : length (strategy original target) ≤ max_commands

-- the place of the file that a refusal speaks of: that of the original, that of the target, or 0 for both
abbrev pub place_of : Refusal → ℕ
place_of (NotClanForm k) = 1
place_of (NotRecoverable k) = 2
place_of refusal = 0

-- two texts of SCoPs are refused together
pub record IsTogetherRefused (first second : List ℕ) (refusal : Refusal) : Type 0 where
  pub original : ScopData
  pub target : ScopData
  pub texts : AreScopTexts first second original target
  pub refusal_is : recovery_refusal original target ≡ Some refusal

-- the second text is refused by its first fault, after a text of a SCoP
pub record IsSecondRefused (first second : List ℕ) (refusal : Refusal) : Type 0 where
  pub original : ScopData
  pub first_text : IsScopText first original
  pub fault_is : fault second ≡ Some refusal

-- it refuses a first text by its first fault, then the second one, then both; the place is that of the file
abbrev pub Refuses : List ℕ → List ℕ → ℕ → Refusal → Type 0
Refuses first second place refusal =
    ((place ≡ 1) × (fault first ≡ Some refusal))
    ⊎ (((place ≡ 2) × IsSecondRefused first second refusal) ⊎ ((place ≡ place_of refusal) × IsTogetherRefused first second refusal))

-- why there is no output: memory was wanting, or the texts are refused so
abbrev pub IsStop : List ℕ → List ℕ → Outcome → Type 0
IsStop first second Memory = Unit {0}
IsStop first second (Refused place refusal) = Refuses first second place refusal
IsStop first second outcome = ⊥
