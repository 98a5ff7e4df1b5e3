-- What `scop` promises of the text of its file.
use Rattle.std.specs.Prelude.{◌≡◌, ℕ, List, Some}
use Rattle.suite_base.specs.declared.refusals.Refusal.{Refusal}
use Rattle.scop_core.specs.ScopData.{ScopData}
use Rattle.scop_core.specs.Layouts.{layout}
use Rattle.scop_reader.specs.Texts.{IsScopText, fault}

-- the output is the layout of the SCoP that the text stands for, and a text of that SCoP too
pub record Makes (text output : List ℕ) : Type 0 where
  pub scop : ScopData
  pub read : IsScopText text scop
  pub layout_is : output ≡ layout scop
  pub stands : IsScopText output scop

-- it takes a text of a SCoP
abbrev pub Takes : List ℕ → Type 0
Takes text = (scop : ScopData) × IsScopText text scop

-- it refuses each other text by its first fault
abbrev pub Refuses : List ℕ → Refusal → Type 0
Refuses text refusal = fault text ≡ Some refusal
