-- SCoPs and scripts on which the definitions are tried.
use Rattle.std.proofs.Common.{ℕ, List, [], ◌∷◌, ℤ, pos, negsuc, None}
use Rattle.std.specs.Prelude.{codes}
use Rattle.relation_core.specs.Systems.{System}
use Rattle.relation_core.specs.declared.part_rows.PartRow.{PartRow}
use Rattle.relation_core.specs.declared.part_rows.RowKind.TheVariants.{AtLeast}
use Rattle.scop_data.specs.declared.affines.Affine.{Affine}
use Rattle.scop_data.specs.declared.statements.Statement.{Statement}
use Rattle.scop_core.specs.ScopData.{ScopData}

abbrev pub at_least : List ℤ → PartRow
at_least entries = record { kind = AtLeast; entries = entries }

-- a SCoP of these statements with so many parameters
abbrev pub scop_with : ℕ → List Statement → ScopData
scop_with parameters statements = record {
  language = codes "C";
  context = record { shape = record { outputs = 0; inputs = 0; locals = 0; parameters = parameters }; rows = [] };
  parameters = None;
  statements = statements;
  arrays = None;
  extensions = [];
}

-- a form without floors
abbrev pub form : List ℤ → List ℤ → ℤ → Affine
form iterators parameters constant = record { iterators = iterators; floors = []; parameters = parameters; constant = constant }

-- a statement of so many iterators with these levels and betas, and no accesses
abbrev pub statement_with : List System → List (List ℕ) → List Affine → List ℤ → Statement
statement_with domain names levels betas = record {
  domain = domain;
  schedule = record { floors = []; levels = levels; betas = betas };
  accesses = [];
  body = record { text = codes "S"; iterators = names };
  extensions = [];
}

abbrev pub part : ℕ → ℕ → List PartRow → System
part outputs parameters rows = record { shape = record { outputs = outputs; inputs = 0; locals = 0; parameters = parameters }; rows = rows }

-- i from -5 to 5
abbrev pub ten : ScopData
ten = scop_with 0 (statement_with (part 1 0 (at_least (pos 1 ∷ (pos 5 ∷ [])) ∷ (at_least (negsuc 0 ∷ (pos 5 ∷ [])) ∷ [])) ∷ [])
    (codes "i" ∷ []) (form (pos 1 ∷ []) [] (pos 0) ∷ []) (pos 0 ∷ (pos 0 ∷ [])) ∷ [])

-- i from 1 to N - 1, and in it j from 0 to M - 1
abbrev pub pair : ScopData
pair = scop_with 2 (statement_with (part 2 2 [] ∷ []) (codes "i" ∷ (codes "j" ∷ []))
    (form (pos 1 ∷ (pos 0 ∷ [])) (pos 0 ∷ (pos 0 ∷ [])) (pos 0) ∷ (form (pos 0 ∷ (pos 1 ∷ [])) (pos 0 ∷ (pos 0 ∷ [])) (pos 0) ∷ []))
    (pos 0 ∷ (pos 0 ∷ (pos 0 ∷ []))) ∷ [])

-- i from 0 to N - 1
abbrev pub line : ScopData
line = scop_with 1 (statement_with (part 1 1 (at_least (pos 1 ∷ (pos 0 ∷ (pos 0 ∷ []))) ∷ (at_least (negsuc 0 ∷ (pos 1 ∷ (negsuc 0 ∷ []))) ∷ [])) ∷ [])
    (codes "i" ∷ []) (form (pos 1 ∷ []) (pos 0 ∷ []) (pos 0) ∷ []) (pos 0 ∷ (pos 0 ∷ [])) ∷ [])
