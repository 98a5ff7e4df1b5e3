-- When a SCoP as data is what pieces give: its own, without a refusal.
use Rattle.std.specs.Prelude.{ℕ, ◌≡◌, ◌≢◌, true, List, length, All, IfSome}
use Rattle.scop_data.specs.declared.statements.Statement.{Statement}
use Rattle.scop_data.specs.ScopData.{ScopData}
use Rattle.scop_data.specs.Order.{IsPrefix}
use Rattle.scop_data.specs.Theorems.{IsStatement}
use Rattle.scop_core.specs.Printable.{is_name, are_names, is_body, are_kept, are_arrays, body_name, arrays_name}
use Rattle.scop_core.specs.Shapes.{IsShapedScop}
use Rattle.scop_core.specs.KeptLimits.{KeepsLimits}
use Rattle.scop_core.specs.ReadBack.{ReadBack}
use Rattle.scop_core.specs.Validity.{IsValid}

-- the body and the extensions of a statement can be printed
pub record StatementHasTexts (statement : Statement) : Type 0 where
  pub body : is_body statement.body ≡ true
  pub extensions : are_kept body_name statement.extensions ≡ true

-- the texts of a SCoP can be printed; where parameters are named, each is
pub record HasTexts (scop : ScopData) : Type 0 where
  pub language : is_name scop.language ≡ true
  pub names : IfSome scop.parameters (λ names. are_names names ≡ true)
  pub name_count : IfSome scop.parameters (λ names. length names ≡ scop.context.shape.parameters)
  pub statements : All StatementHasTexts scop.statements
  pub arrays : IfSome scop.arrays (λ arrays. are_arrays arrays ≡ true)
  pub extensions : are_kept arrays_name scop.extensions ≡ true

-- no beta vector is another statement's or the beginning of one
abbrev pub AreApart : List Statement → Type 0
AreApart statements = (j k : ℕ) (s t : Statement) → IsStatement statements j s → IsStatement statements k t → j ≢ k → ¬ IsPrefix s.schedule.betas t.schedule.betas

-- the shapes are those of a SCoP, no limit is passed, the texts can be printed, and the vectors are apart
pub record IsAssemblable (scop : ScopData) : Type 0 where
  pub shapes : IsShapedScop scop
  pub limits : KeepsLimits scop
  pub texts : HasTexts scop
  pub apart : AreApart scop.statements

-- such data is what the pieces that it is printed as give, without a refusal
abbrev pub AssemblableDataReadsBack : Type 0
AssemblableDataReadsBack = (S : ScopData) → IsAssemblable S → ReadBack S

-- and every valid SCoP is such data
abbrev pub ValidScopsAreAssemblable : Type 0
ValidScopsAreAssemblable = (S : ScopData) → IsValid S → IsAssemblable S
