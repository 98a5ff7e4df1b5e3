-- What a demo shows, and why it shows nothing.
use Rattle.std.specs.Prelude.{◌≡◌, ◌⊎◌, ◌≤◌, ℕ, Bool, true, false, not, ℤ, Option, List, [], ◌∷◌, length, count_by, Some, None}
use Rattle.suite_base.specs.Limits.{max_commands, max_systems}
use Rattle.suite_base.specs.declared.refusals.Fail.{Fail}
use Rattle.suite_base.specs.declared.refusals.Fail.TheVariants.{Memory, Refused}
use Rattle.suite_base.specs.declared.refusals.Refusal.{Refusal}
use Rattle.relation_core.specs.Systems.{System, columns}
use Rattle.relation_core.specs.Points.{HasPoint}
use Rattle.farkas_cert.specs.Certificates.{HasNoPoint}
use Rattle.scop_core.specs.ScopData.{ScopData}
use Rattle.dependence_systems.specs.declared.dependences.Dep.{Dep}
use Rattle.dependence_systems.specs.Sides.{Side, own_sides}
use Rattle.dependence_systems.specs.Entries.{entries}
use Rattle.dependence_systems.specs.Systems.{system_of}
use Rattle.candl_deps.specs.Decisions.{IsDecidable, IsRefusal}
use Rattle.clay_commands.specs.Afters.{after_script, refusal_of}
use Rattle.chlore_recover.specs.Recovered.{CanRecover}
use Rattle.chlore_recover.specs.Refusals.{recovery_refusal}
use Rattle.chlore_recover.specs.Strategy.{strategy}
use Rattle.region_extract.specs.Answers.{IsTranslation, Refuses as IsTextRefused}
use Rattle.demo.specs.declared.summaries.Counts.{Counts}
use Rattle.demo.specs.declared.summaries.SystemCounts.{SystemCounts}
use Rattle.demo.specs.Inputs.{demo_text, demo_script}
use Rattle.demo.specs.Summaries.{summary}
use Rattle.demo.specs.Edits.{IsClear, IsScriptAccepted, IsScriptRefused, edited}

-- ---- the systems

-- a system is marked exactly where it has a rational point
abbrev pub IsMarked : System → Bool → Type 0
IsMarked system true = HasPoint (columns system.shape) system.rows
IsMarked system false = HasNoPoint (columns system.shape) system.rows

-- so is each system of a list
abbrev pub AreMarked : System → List Side → List Dep → List Bool → Type 0
AreMarked context sides [] [] = Unit {0}
AreMarked context sides [] (mark ∷ marks) = ⊥
AreMarked context sides (e ∷ list) [] = ⊥
AreMarked context sides (e ∷ list) (mark ∷ marks) = IsMarked (system_of context sides e) mark × AreMarked context sides list marks

-- a system without a certificate is kept
abbrev pub is_kept : Option (List ℤ) → Bool
is_kept None = true
is_kept (Some certificate) = false

-- the numbers of systems of a SCoP: of all, of those with a rational point, and of those without
pub record AreCounted (S : ScopData) (counts : SystemCounts) : Type 0 where
  pub few : length (entries (own_sides S)) ≤ max_systems
  pub marks : List Bool
  pub marked : AreMarked S.context (own_sides S) (entries (own_sides S)) marks
  pub all_are : counts.all ≡ length (entries (own_sides S))
  pub kept_are : counts.kept ≡ count_by (λ mark. mark) marks
  pub dropped_are : counts.dropped ≡ count_by not marks

-- ---- the stages

-- the SCoP of the text of k loops, and the numbers of its systems
pub record IsRead (k : ℕ) (scop : ScopData) (systems : SystemCounts) : Type 0 where
  pub translated : IsTranslation (demo_text k) scop
  pub counted : AreCounted scop systems

-- the SCoP after the script
abbrev pub after_demo : ℕ → ScopData → ScopData
after_demo k S = (after_script S (demo_script k)).scop

-- what is counted
abbrev pub counts_of : ℕ → ScopData → SystemCounts → Counts
counts_of k S systems = record {
  loops = k;
  statements = length S.statements;
  systems = systems;
  commands = length (demo_script k);
  recovered = length (strategy S (after_demo k S));
}

-- the output is the summary of what is counted in all stages
pub record Demonstrates (k : ℕ) (output : List ℕ) : Type 0 where
  pub scop : ScopData
  pub systems : SystemCounts
  pub read : IsRead k scop systems
  pub accepted : IsScriptAccepted scop (demo_script k)
  pub recoverable : recovery_refusal scop (after_demo k scop) ≡ None
  pub summary_is : output ≡ summary (counts_of k scop systems)

-- ---- refusals

-- the SCoP of the text is refused for its systems
pub record AreSystemsRefused (k : ℕ) (refusal : Refusal) : Type 0 where
  pub scop : ScopData
  pub translated : IsTranslation (demo_text k) scop
  pub refused : IsRefusal scop.context (own_sides scop) (entries (own_sides scop)) refusal

-- the script is refused for the SCoP, whose systems were counted
pub record IsEditingRefused (k : ℕ) (refusal : Refusal) : Type 0 where
  pub scop : ScopData
  pub systems : SystemCounts
  pub read : IsRead k scop systems
  pub refused : IsScriptRefused scop (demo_script k) refusal

-- no script is recovered from the SCoP and the edited one
pub record IsRecoveryRefused (k : ℕ) (refusal : Refusal) : Type 0 where
  pub scop : ScopData
  pub systems : SystemCounts
  pub read : IsRead k scop systems
  pub accepted : IsScriptAccepted scop (demo_script k)
  pub refused : recovery_refusal scop (after_demo k scop) ≡ Some refusal

-- the first stage with a refusal: the region of the text, its systems, the script, the way back
abbrev pub Refuses : ℕ → Refusal → Type 0
Refuses k refusal =
    IsTextRefused (demo_text k) refusal ⊎ (AreSystemsRefused k refusal ⊎ (IsEditingRefused k refusal ⊎ IsRecoveryRefused k refusal))

-- why there is no summary: memory was wanting, or a stage is refused
abbrev pub IsStop : ℕ → Fail → Type 0
IsStop k Memory = Unit {0}
IsStop k (Refused refusal) = Refuses k refusal

-- ---- completeness

-- each stage takes what it is given
pub record Takes (k : ℕ) : Type 0 where
  pub scop : ScopData
  pub translated : IsTranslation (demo_text k) scop
  pub decidable : IsDecidable scop
  pub unrefused : refusal_of scop (demo_script k) ≡ None
  pub clear : IsClear (edited scop (demo_script k))
  pub recoverable : CanRecover scop (after_demo k scop)
  pub few : length (strategy scop (after_demo k scop)) ≤ max_commands
