-- SCoPs and scripts on which the definitions are tried.
use Rattle.std.proofs.Common.{ℕ, List, [], ◌∷◌, ℤ, pos, negsuc, None}
use Rattle.std.specs.Prelude.{codes}
use Rattle.relation_core.specs.Systems.{System}
use Rattle.relation_core.specs.declared.part_rows.PartRow.{PartRow}
use Rattle.relation_core.specs.declared.part_rows.RowKind.TheVariants.{Equal, AtLeast}
use Rattle.scop_data.specs.declared.affines.Affine.{Affine}
use Rattle.scop_data.specs.declared.accesses.AccessKind.{AccessKind}
use Rattle.scop_data.specs.declared.accesses.AccessKind.TheVariants.{Read, Write}
use Rattle.scop_data.specs.declared.accesses.Access.{Access}
use Rattle.scop_data.specs.declared.statements.Statement.{Statement}
use Rattle.scop_core.specs.ScopData.{ScopData}
use Rattle.dependence_systems.specs.declared.dependences.DepKind.{DepKind}
use Rattle.clay_script.specs.declared.commands.Command.{Command}
use Rattle.clay_commands.specs.Afters.{after_script}
use Rattle.legality.specs.Violations.{Edit, Violation}

abbrev pub o : ℤ
o = pos 0

abbrev pub one : ℤ
one = pos 1

abbrev pub minus : ℤ
minus = negsuc 0

abbrev pub equal : List ℤ → PartRow
equal entries = record { kind = Equal; entries = entries }

abbrev pub at_least : List ℤ → PartRow
at_least entries = record { kind = AtLeast; entries = entries }

-- a form without floors
abbrev pub form : List ℤ → List ℤ → ℤ → Affine
form iterators parameters constant = record { iterators = iterators; floors = []; parameters = parameters; constant = constant }

abbrev pub to : AccessKind → ℤ → List Affine → Access
to kind array subscripts = record { kind = kind; array = array; subscripts = subscripts }

-- a domain of one part with these rows
abbrev pub part : ℕ → ℕ → List PartRow → List System
part outputs parameters rows = record { shape = record { outputs = outputs; inputs = 0; locals = 0; parameters = parameters }; rows = rows } ∷ []

abbrev pub statement_with : List System → List Affine → List ℤ → List Access → List (List ℕ) → Statement
statement_with domain levels betas accesses iterators = record {
  domain = domain;
  schedule = record { floors = []; levels = levels; betas = betas };
  accesses = accesses;
  body = record { text = codes "S"; iterators = iterators };
  extensions = [];
}

abbrev pub scop_with : ℕ → List Statement → ScopData
scop_with parameters statements = record {
  language = codes "C";
  context = record { shape = record { outputs = 0; inputs = 0; locals = 0; parameters = parameters }; rows = [] };
  parameters = None;
  statements = statements;
  arrays = None;
  extensions = [];
}

-- what a script makes of a SCoP
abbrev pub edited_by : ScopData → List Command → Edit
edited_by S script = let after = after_script S script in record { old = S; now = after.scop; of = after.of }

-- a violation by source, target, their accesses, the old level and the new one; each domain has one part
abbrev pub violation : DepKind → ℕ → ℕ → ℕ → ℕ → ℕ → ℕ → Violation
violation kind s t a b old new = record {
  entry = record {
    kind = kind;
    source = s;
    target = t;
    source_access = a;
    target_access = b;
    source_part = 1;
    target_part = 1;
    level = old;
  };
  level = new;
}

-- the two iterators of a pair of loops
abbrev pub first : Affine
first = form (one ∷ (o ∷ [])) (o ∷ (o ∷ [])) o

abbrev pub second : Affine
second = form (o ∷ (one ∷ [])) (o ∷ (o ∷ [])) o

-- i from 1 to N - 1, in it j from 0 to M - 1: A[i][j] = A[i-1][j+1]
abbrev pub stencil : ScopData
stencil = scop_with 2 (statement_with (part 2 2 (
    at_least (one ∷ (o ∷ (o ∷ (o ∷ (minus ∷ [])))))
    ∷ (at_least (minus ∷ (o ∷ (one ∷ (o ∷ (minus ∷ [])))))
    ∷ (at_least (o ∷ (one ∷ (o ∷ (o ∷ (o ∷ [])))))
    ∷ (at_least (o ∷ (minus ∷ (o ∷ (one ∷ (minus ∷ []))))) ∷ [])))))
    (first ∷ (second ∷ [])) (o ∷ (o ∷ (o ∷ [])))
    (to Read one (form (one ∷ (o ∷ [])) (o ∷ (o ∷ [])) minus ∷ (form (o ∷ (one ∷ [])) (o ∷ (o ∷ [])) one ∷ [])) ∷ (to Write one (first ∷ (second ∷ [])) ∷ []))
    (codes "i" ∷ (codes "j" ∷ [])) ∷ [])

-- i, in a SCoP of one parameter
abbrev pub value_i : Affine
value_i = form (one ∷ []) (o ∷ []) o

-- i from 0 to N - 1 - c
abbrev pub up_to : ℤ → List System
up_to c = part 1 1 (at_least (one ∷ (o ∷ (o ∷ []))) ∷ (at_least (minus ∷ (one ∷ (c ∷ []))) ∷ []))

-- i from 0 to N - 1: A[i] = B[i]; then i from 0 to N - 2: C[i] = A[i+1]
abbrev pub two_loops : ScopData
two_loops = scop_with 1 (
    statement_with (up_to minus) (value_i ∷ []) (o ∷ (o ∷ [])) (to Read (pos 2) (value_i ∷ []) ∷ (to Write one (value_i ∷ []) ∷ [])) (codes "i" ∷ [])
    ∷ (statement_with (up_to (negsuc 1)) (value_i ∷ []) (one ∷ (o ∷ [])) (to Read one (form (one ∷ []) (o ∷ []) one ∷ []) ∷ (to Write (pos 3) (value_i ∷ []) ∷ [])) (codes "i" ∷ []) ∷ []))

-- i from 0 to N - 1: A[i] = A[N-1-i]
abbrev pub mirror : ScopData
mirror = scop_with 1 (statement_with (up_to minus) (value_i ∷ []) (o ∷ (o ∷ []))
    (to Read one (form (minus ∷ []) (one ∷ []) minus ∷ []) ∷ (to Write one (value_i ∷ []) ∷ [])) (codes "i" ∷ []) ∷ [])
