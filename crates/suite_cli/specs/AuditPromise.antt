-- What `audit` promises of the text of its file.
use Rattle.std.specs.Prelude.{◌≡◌, ◌⊎◌, ℕ, List, ◌++◌, codes, Some, Ok, Err}
use Rattle.std.specs.Fmt.{decimal}
use Rattle.suite_base.specs.declared.refusals.Refusal.{Refusal}
use Rattle.scop_core.specs.ScopData.{ScopData}
use Rattle.scop_reader.specs.Texts.{IsScopText, fault}
use Rattle.dependence_audit.specs.declared.audits.Counts.{Counts}
use Rattle.dependence_audit.specs.Audits.{audited}
use Rattle.dependence_audit.specs.Theorems.{IsAudited}

-- the line of the counts
abbrev pub counts_line : Counts → List ℕ
counts_line c =
    codes "systems " ++ (decimal c.systems ++ (codes " kept " ++ (decimal c.kept ++ (codes " dropped " ++ (decimal c.dropped ++ codes "\n")))))

-- the output is the line of the counts of the SCoP's block, whose entries are the defined ones: no dropped system has a
-- rational point, and in context a pair of instances lies in a kept one exactly where it conflicts
pub record Makes (text output : List ℕ) : Type 0 where
  pub scop : ScopData
  pub read : IsScopText text scop
  pub counts : Counts
  pub passes : audited scop ≡ Ok counts
  pub says : IsAudited scop counts
  pub line : output ≡ counts_line counts

-- it takes a text of a SCoP whose block passes
abbrev pub Takes : List ℕ → Type 0
Takes text = (scop : ScopData) × (counts : Counts) × IsScopText text scop × (audited scop ≡ Ok counts)

-- it refuses each other text by its first fault, or a SCoP for its block
abbrev pub Refuses : List ℕ → Refusal → Type 0
Refuses text refusal = (fault text ≡ Some refusal) ⊎ ((scop : ScopData) × IsScopText text scop × (audited scop ≡ Err refusal))
