-- A SCoP as data: what contracts see of a Scop.
use Rattle.std.specs.Prelude.{ℤ, ℕ, List, [], ◌∷◌, ◌++◌, Option, None, Some, map, if◌then◌else◌}
use Rattle.std.specs.Str.{bytes_eq}
use Rattle.relation_core.specs.Systems.{System}
use Rattle.scop_data.specs.declared.statements.Extension.{Extension}
use Rattle.scop_data.specs.declared.statements.Statement.{Statement}

-- language, context, names of the parameters and arrays where they are present, statements in the
-- order of the text, and the global extensions but for the arrays
pub record ScopData : Type 0 where
  pub language : List ℕ
  pub context : System
  pub parameters : Option (List (List ℕ))
  pub statements : List Statement
  pub arrays : Option (List (ℤ × List ℕ))
  pub extensions : List Extension

-- the arrays; none where they are not present
abbrev pub arrays_of : ScopData → List (ℤ × List ℕ)
arrays_of scop = elim scop.arrays [ None ↦ [] | Some arrays ↦ arrays ]

-- the beta vectors of the statements
abbrev pub betas_in : List Statement → List (List ℤ)
betas_in statements = map (λ statement. statement.schedule.betas) statements

-- the extensions of another name
abbrev pub others : List ℕ → List Extension → List Extension
others name [] = []
others name (extension ∷ extensions) =
    if bytes_eq extension.name name then others name extensions else extension ∷ others name extensions

-- the SCoP with this extension last, in place of those of its name
abbrev pub extended : ScopData → Extension → ScopData
extended scop extension = record scop { extensions = others extension.name scop.extensions ++ extension ∷ [] }
