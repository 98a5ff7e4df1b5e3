-- What `candl` promises of the text of its file.
use Rattle.std.specs.Prelude.{◌≡◌, ◌⊎◌, ◌↔◌, ℕ, ℤ, List, Some}
use Rattle.suite_base.specs.declared.refusals.Refusal.{Refusal}
use Rattle.scop_core.specs.ScopData.{ScopData}
use Rattle.scop_core.specs.Layouts.{layout}
use Rattle.scop_core.specs.Meaning.{Instance, InContext, Conflict}
use Rattle.scop_reader.specs.Texts.{IsScopText, fault}
use Rattle.dependence_systems.specs.Sides.{own_sides}
use Rattle.dependence_systems.specs.Entries.{entries}
use Rattle.dependence_blocks.specs.Conflicts.{LiesInKept}
use Rattle.candl_deps.specs.Decisions.{IsDecidable, IsRefusal, WithDependences}

-- the output is the layout of the SCoP with the block of its dependences, and a text of that SCoP; in context, a pair of
-- instances lies in a kept system exactly where it conflicts
pub record Makes (text output : List ℕ) : Type 0 where
  pub scop : ScopData
  pub read : IsScopText text scop
  pub made : ScopData
  pub dependences : WithDependences scop made
  pub layout_is : output ≡ layout made
  pub stands : IsScopText output made
  pub conflicts : (n : List ℤ) → InContext scop n → (a b : Instance)
      → LiesInKept scop.context (own_sides scop) n (entries (own_sides scop)) dependences.is_block.verdicts a b ↔ Conflict scop n a b

-- it takes a text of a SCoP with few systems, each of which can be decided
abbrev pub Takes : List ℕ → Type 0
Takes text = (scop : ScopData) × IsScopText text scop × IsDecidable scop

-- it refuses each other text by its first fault, or a SCoP for its systems
abbrev pub Refuses : List ℕ → Refusal → Type 0
Refuses text refusal =
    (fault text ≡ Some refusal)
    ⊎ ((scop : ScopData) × IsScopText text scop × IsRefusal scop.context (own_sides scop) (entries (own_sides scop)) refusal)
