-- The list of systems and their rows on concrete SCoPs.
use Rattle.std.proofs.Common.{◌≡◌, refl, ℤ, pos, negsuc, ℕ, List, [], ◌∷◌, None}
use Rattle.std.specs.Prelude.{codes}
use Rattle.relation_core.specs.Systems.{System}
use Rattle.relation_core.specs.declared.part_rows.PartRow.{PartRow}
use Rattle.relation_core.specs.declared.part_rows.RowKind.TheVariants.{Equal, AtLeast}
use Rattle.scop_data.specs.declared.affines.Affine.{Affine}
use Rattle.scop_data.specs.declared.accesses.AccessKind.{AccessKind}
use Rattle.scop_data.specs.declared.accesses.AccessKind.TheVariants.{Read, Write, MayWrite}
use Rattle.scop_data.specs.declared.accesses.Access.{Access}
use Rattle.scop_data.specs.declared.schedules.Schedule.{Schedule}
use Rattle.scop_data.specs.declared.statements.Statement.{Statement}
use Rattle.scop_core.specs.ScopData.{ScopData}
use Rattle.dependence_systems.specs.declared.dependences.Dep.{Dep}
use Rattle.dependence_systems.specs.declared.dependences.DepKind.{DepKind}
use Rattle.dependence_systems.specs.declared.dependences.DepKind.TheVariants.{Raw, War, Waw}
use Rattle.scop_core.specs.LevelOrder.{levels_between}
use Rattle.dependence_systems.specs.Sides.{sides, own_sides}
use Rattle.dependence_systems.specs.Entries.{entries}
use Rattle.dependence_systems.specs.Systems.{system_of, summand_weight}

abbrev o : ℤ
o = pos 0

abbrev one : ℤ
one = pos 1

abbrev minus : ℤ
minus = negsuc 0

abbrev equal : List ℤ → PartRow
equal entries = record { kind = Equal; entries = entries }

abbrev at_least : List ℤ → PartRow
at_least entries = record { kind = AtLeast; entries = entries }

abbrev value : List ℤ → List ℤ → List ℤ → ℤ → Affine
value iterators floors parameters constant = record { iterators = iterators; floors = floors; parameters = parameters; constant = constant }

abbrev to : AccessKind → ℤ → List Affine → Access
to kind array subscripts = record { kind = kind; array = array; subscripts = subscripts }

-- so many outputs, inputs, locals and parameters
abbrev shaped : ℕ → ℕ → ℕ → ℕ → List PartRow → System
shaped outputs inputs locals parameters rows =
    record { shape = record { outputs = outputs; inputs = inputs; locals = locals; parameters = parameters }; rows = rows }

-- an entry of statement, access and part of source and target, and the level
abbrev entry_of : DepKind → ℕ → ℕ → ℕ → ℕ → ℕ → ℕ → ℕ → Dep
entry_of kind s t a b p q level = record {
  kind = kind;
  source = s;
  target = t;
  source_access = a;
  target_access = b;
  source_part = p;
  target_part = q;
  level = level;
}

abbrev statement_of : List System → Schedule → List Access → List (List ℕ) → Statement
statement_of domain schedule accesses iterators = record {
  domain = domain;
  schedule = schedule;
  accesses = accesses;
  body = record { text = codes "S"; iterators = iterators };
  extensions = [];
}

abbrev scop_with : System → List Statement → ScopData
scop_with context statements = record {
  language = codes "C";
  context = context;
  parameters = None;
  statements = statements;
  arrays = None;
  extensions = [];
}

-- the matrix product: three loops, C[i][j] += A[i][k] * B[k][j]
abbrev product_domain : System
product_domain = shaped 3 0 0 1 (
    at_least (one ∷ (o ∷ (o ∷ (o ∷ (o ∷ [])))))
    ∷ (at_least (minus ∷ (o ∷ (o ∷ (one ∷ (minus ∷ [])))))
    ∷ (at_least (o ∷ (one ∷ (o ∷ (o ∷ (o ∷ [])))))
    ∷ (at_least (o ∷ (minus ∷ (o ∷ (one ∷ (minus ∷ [])))))
    ∷ (at_least (o ∷ (o ∷ (one ∷ (o ∷ (o ∷ [])))))
    ∷ (at_least (o ∷ (o ∷ (minus ∷ (one ∷ (minus ∷ []))))) ∷ []))))))

abbrev value_i : Affine
value_i = value (one ∷ (o ∷ (o ∷ []))) [] (o ∷ []) o

abbrev value_j : Affine
value_j = value (o ∷ (one ∷ (o ∷ []))) [] (o ∷ []) o

abbrev value_k : Affine
value_k = value (o ∷ (o ∷ (one ∷ []))) [] (o ∷ []) o

abbrev product : ScopData
product = scop_with (shaped 0 0 0 1 []) (statement_of (product_domain ∷ [])
    (record { floors = []; levels = value_i ∷ (value_j ∷ (value_k ∷ [])); betas = o ∷ (o ∷ (o ∷ (o ∷ []))) })
    (to Read one (value_i ∷ (value_j ∷ [])) ∷ (to Read (pos 2) (value_i ∷ (value_k ∷ [])) ∷ (to Read (pos 3) (value_k ∷ (value_j ∷ [])) ∷ (to Write one (value_i ∷ (value_j ∷ [])) ∷ []))))
    (codes "i" ∷ (codes "j" ∷ (codes "k" ∷ []))) ∷ [])

-- its nine entries: WAR of accesses 1 and 4, then RAW of 4 and 1, then WAW of 4 and 4, each at levels 1, 2, 3
product_entries : entries (own_sides product) ≡
    entry_of War 1 1 1 4 1 1 1
    ∷ (entry_of War 1 1 1 4 1 1 2
    ∷ (entry_of War 1 1 1 4 1 1 3
    ∷ (entry_of Raw 1 1 4 1 1 1 1
    ∷ (entry_of Raw 1 1 4 1 1 1 2
    ∷ (entry_of Raw 1 1 4 1 1 1 3
    ∷ (entry_of Waw 1 1 4 4 1 1 1
    ∷ (entry_of Waw 1 1 4 4 1 1 2
    ∷ (entry_of Waw 1 1 4 4 1 1 3 ∷ []))))))))
product_entries = refl

-- the rows of entry 3
product_third : system_of product.context (own_sides product) (entry_of War 1 1 1 4 1 1 3) ≡ shaped 3 3 0 1 (
    at_least (one ∷ (o ∷ (o ∷ (o ∷ (o ∷ (o ∷ (o ∷ (o ∷ []))))))))
    ∷ (at_least (minus ∷ (o ∷ (o ∷ (o ∷ (o ∷ (o ∷ (one ∷ (minus ∷ []))))))))
    ∷ (at_least (o ∷ (one ∷ (o ∷ (o ∷ (o ∷ (o ∷ (o ∷ (o ∷ []))))))))
    ∷ (at_least (o ∷ (minus ∷ (o ∷ (o ∷ (o ∷ (o ∷ (one ∷ (minus ∷ []))))))))
    ∷ (at_least (o ∷ (o ∷ (one ∷ (o ∷ (o ∷ (o ∷ (o ∷ (o ∷ []))))))))
    ∷ (at_least (o ∷ (o ∷ (minus ∷ (o ∷ (o ∷ (o ∷ (one ∷ (minus ∷ []))))))))
    ∷ (at_least (o ∷ (o ∷ (o ∷ (one ∷ (o ∷ (o ∷ (o ∷ (o ∷ []))))))))
    ∷ (at_least (o ∷ (o ∷ (o ∷ (minus ∷ (o ∷ (o ∷ (one ∷ (minus ∷ []))))))))
    ∷ (at_least (o ∷ (o ∷ (o ∷ (o ∷ (one ∷ (o ∷ (o ∷ (o ∷ []))))))))
    ∷ (at_least (o ∷ (o ∷ (o ∷ (o ∷ (minus ∷ (o ∷ (one ∷ (minus ∷ []))))))))
    ∷ (at_least (o ∷ (o ∷ (o ∷ (o ∷ (o ∷ (one ∷ (o ∷ (o ∷ []))))))))
    ∷ (at_least (o ∷ (o ∷ (o ∷ (o ∷ (o ∷ (minus ∷ (one ∷ (minus ∷ []))))))))
    ∷ (equal (one ∷ (o ∷ (o ∷ (minus ∷ (o ∷ (o ∷ (o ∷ (o ∷ []))))))))
    ∷ (equal (o ∷ (one ∷ (o ∷ (o ∷ (minus ∷ (o ∷ (o ∷ (o ∷ []))))))))
    ∷ (equal (one ∷ (o ∷ (o ∷ (minus ∷ (o ∷ (o ∷ (o ∷ (o ∷ []))))))))
    ∷ (equal (o ∷ (one ∷ (o ∷ (o ∷ (minus ∷ (o ∷ (o ∷ (o ∷ []))))))))
    ∷ (at_least (o ∷ (o ∷ (minus ∷ (o ∷ (o ∷ (one ∷ (o ∷ (minus ∷ [])))))))) ∷ [])))))))))))))))))
product_third = refl

-- the only statement is its own original
product_original : sides product product (1 ∷ []) ≡ own_sides product
product_original = refl

-- the loop from N down to 0 with A[i] = A[i + 1]
abbrev downward : ScopData
downward = scop_with (shaped 0 0 0 1 []) (statement_of (shaped 1 0 0 1 (at_least (minus ∷ (one ∷ (o ∷ []))) ∷ (at_least (one ∷ (o ∷ (o ∷ []))) ∷ [])) ∷ [])
    (record { floors = []; levels = value (minus ∷ []) [] (o ∷ []) o ∷ []; betas = o ∷ (o ∷ []) })
    (to Read one (value (one ∷ []) [] (o ∷ []) one ∷ []) ∷ (to Write one (value (one ∷ []) [] (o ∷ []) o ∷ []) ∷ [])) (codes "i" ∷ []) ∷ [])

-- WAR, RAW and WAW
downward_entries : entries (own_sides downward) ≡
    entry_of War 1 1 1 2 1 1 1
    ∷ (entry_of Raw 1 1 2 1 1 1 1
    ∷ (entry_of Waw 1 1 2 2 1 1 1 ∷ []))
downward_entries = refl

-- the rows of the WAR
downward_war : system_of downward.context (own_sides downward) (entry_of War 1 1 1 2 1 1 1) ≡ shaped 1 1 0 1 (
    at_least (minus ∷ (o ∷ (one ∷ (o ∷ []))))
    ∷ (at_least (one ∷ (o ∷ (o ∷ (o ∷ []))))
    ∷ (at_least (o ∷ (minus ∷ (one ∷ (o ∷ []))))
    ∷ (at_least (o ∷ (one ∷ (o ∷ (o ∷ []))))
    ∷ (equal (one ∷ (minus ∷ (o ∷ (one ∷ []))))
    ∷ (at_least (one ∷ (minus ∷ (o ∷ (minus ∷ [])))) ∷ []))))))
downward_war = refl

-- the rows of the RAW
downward_raw : system_of downward.context (own_sides downward) (entry_of Raw 1 1 2 1 1 1 1) ≡ shaped 1 1 0 1 (
    at_least (minus ∷ (o ∷ (one ∷ (o ∷ []))))
    ∷ (at_least (one ∷ (o ∷ (o ∷ (o ∷ []))))
    ∷ (at_least (o ∷ (minus ∷ (one ∷ (o ∷ []))))
    ∷ (at_least (o ∷ (one ∷ (o ∷ (o ∷ []))))
    ∷ (equal (one ∷ (minus ∷ (o ∷ (minus ∷ []))))
    ∷ (at_least (one ∷ (minus ∷ (o ∷ (minus ∷ [])))) ∷ []))))))
downward_raw = refl

-- the rows of the WAW
downward_waw : system_of downward.context (own_sides downward) (entry_of Waw 1 1 2 2 1 1 1) ≡ shaped 1 1 0 1 (
    at_least (minus ∷ (o ∷ (one ∷ (o ∷ []))))
    ∷ (at_least (one ∷ (o ∷ (o ∷ (o ∷ []))))
    ∷ (at_least (o ∷ (minus ∷ (one ∷ (o ∷ []))))
    ∷ (at_least (o ∷ (one ∷ (o ∷ (o ∷ []))))
    ∷ (equal (one ∷ (minus ∷ (o ∷ (o ∷ []))))
    ∷ (at_least (one ∷ (minus ∷ (o ∷ (minus ∷ [])))) ∷ []))))))
downward_waw = refl

-- the summands of the two constants of the RAW are 0 and 1, and the 1 of the last row
downward_weight : summand_weight downward.context (own_sides downward) (entry_of Raw 1 1 2 1 1 1 1) ≡ 1
downward_weight = refl

-- one loop with if (i % 2 != 0) A[i] = 0; else A[i] = 1;
abbrev odd_and_even : ScopData
odd_and_even = scop_with (shaped 0 0 0 1 []) (
    statement_of (shaped 1 0 1 1 (at_least (one ∷ (o ∷ (o ∷ (o ∷ [])))) ∷ (at_least (minus ∷ (o ∷ (one ∷ (minus ∷ [])))) ∷ (at_least (one ∷ (negsuc 1 ∷ (o ∷ (minus ∷ [])))) ∷ (at_least (minus ∷ (pos 2 ∷ (o ∷ (one ∷ [])))) ∷ [])))) ∷ [])
    (record { floors = []; levels = value (one ∷ []) [] (o ∷ []) o ∷ []; betas = o ∷ (o ∷ []) }) (to Write one (value (one ∷ []) [] (o ∷ []) o ∷ []) ∷ []) (codes "i" ∷ [])
    ∷ (statement_of (shaped 1 0 1 1 (at_least (one ∷ (o ∷ (o ∷ (o ∷ [])))) ∷ (at_least (minus ∷ (o ∷ (one ∷ (minus ∷ [])))) ∷ (equal (one ∷ (negsuc 1 ∷ (o ∷ (o ∷ [])))) ∷ []))) ∷ [])
    (record { floors = []; levels = value (one ∷ []) [] (o ∷ []) o ∷ []; betas = o ∷ (one ∷ []) }) (to Write one (value (one ∷ []) [] (o ∷ []) o ∷ []) ∷ []) (codes "i" ∷ []) ∷ []))

-- level 0 comes last, and only from the first statement to the second
odd_and_even_entries : entries (own_sides odd_and_even) ≡
    entry_of Waw 1 1 1 1 1 1 1
    ∷ (entry_of Waw 1 2 1 1 1 1 1
    ∷ (entry_of Waw 1 2 1 1 1 1 0
    ∷ (entry_of Waw 2 1 1 1 1 1 1
    ∷ (entry_of Waw 2 2 1 1 1 1 1 ∷ []))))
odd_and_even_entries = refl

-- the rows of entry 3, with a local of each domain part
odd_and_even_third : system_of odd_and_even.context (own_sides odd_and_even) (entry_of Waw 1 2 1 1 1 1 0) ≡ shaped 1 1 2 1 (
    at_least (one ∷ (o ∷ (o ∷ (o ∷ (o ∷ (o ∷ []))))))
    ∷ (at_least (minus ∷ (o ∷ (o ∷ (o ∷ (one ∷ (minus ∷ []))))))
    ∷ (at_least (one ∷ (o ∷ (negsuc 1 ∷ (o ∷ (o ∷ (minus ∷ []))))))
    ∷ (at_least (minus ∷ (o ∷ (pos 2 ∷ (o ∷ (o ∷ (one ∷ []))))))
    ∷ (at_least (o ∷ (one ∷ (o ∷ (o ∷ (o ∷ (o ∷ []))))))
    ∷ (at_least (o ∷ (minus ∷ (o ∷ (o ∷ (one ∷ (minus ∷ []))))))
    ∷ (equal (o ∷ (one ∷ (o ∷ (negsuc 1 ∷ (o ∷ (o ∷ []))))))
    ∷ (equal (one ∷ (minus ∷ (o ∷ (o ∷ (o ∷ (o ∷ []))))))
    ∷ (equal (one ∷ (minus ∷ (o ∷ (o ∷ (o ∷ (o ∷ [])))))) ∷ [])))))))))
odd_and_even_third = refl

-- x = 0; x = 1; without a loop
abbrev scalars : ScopData
scalars = scop_with (shaped 0 0 0 0 []) (statement_of (shaped 0 0 0 0 [] ∷ []) (record { floors = []; levels = []; betas = o ∷ [] }) (to Write one [] ∷ []) []
    ∷ (statement_of (shaped 0 0 0 0 [] ∷ []) (record { floors = []; levels = []; betas = one ∷ [] }) (to Write one [] ∷ []) [] ∷ []))

-- one entry, of level 0
scalars_entries : entries (own_sides scalars) ≡ entry_of Waw 1 2 1 1 1 1 0 ∷ []
scalars_entries = refl

-- and it has no rows
scalars_rows : system_of scalars.context (own_sides scalars) (entry_of Waw 1 2 1 1 1 1 0) ≡ shaped 0 0 0 0 []
scalars_rows = refl

-- a loop from -5 to N - 1 in strips of four that writes A[i] and may write A[0], where N is at least 1
abbrev strips : ScopData
strips = scop_with (shaped 0 0 0 1 (at_least (one ∷ (minus ∷ [])) ∷ [])) (statement_of (shaped 1 0 0 1 (at_least (one ∷ (o ∷ (pos 5 ∷ []))) ∷ (at_least (minus ∷ (one ∷ (minus ∷ []))) ∷ [])) ∷ [])
    (record { floors = record { value = value (one ∷ []) (o ∷ []) (o ∷ []) o; size = pos 4 } ∷ []; levels = value (o ∷ []) (one ∷ []) (o ∷ []) o ∷ (value (one ∷ []) (o ∷ []) (o ∷ []) o ∷ []); betas = o ∷ (o ∷ (o ∷ [])) })
    (to MayWrite one (value (o ∷ []) [] (o ∷ []) o ∷ []) ∷ (to Write one (value (one ∷ []) [] (o ∷ []) o ∷ []) ∷ [])) (codes "i" ∷ []) ∷ [])

-- the floors of both sides come after the iterators, and the context first
strips_rows : system_of strips.context (own_sides strips) (entry_of Waw 1 1 1 2 1 1 2) ≡ shaped 1 1 2 1 (
    at_least (o ∷ (o ∷ (o ∷ (o ∷ (one ∷ (minus ∷ []))))))
    ∷ (at_least (one ∷ (o ∷ (o ∷ (o ∷ (o ∷ (pos 5 ∷ []))))))
    ∷ (at_least (minus ∷ (o ∷ (o ∷ (o ∷ (one ∷ (minus ∷ []))))))
    ∷ (at_least (o ∷ (one ∷ (o ∷ (o ∷ (o ∷ (pos 5 ∷ []))))))
    ∷ (at_least (o ∷ (minus ∷ (o ∷ (o ∷ (one ∷ (minus ∷ []))))))
    ∷ (at_least (one ∷ (o ∷ (negsuc 3 ∷ (o ∷ (o ∷ (o ∷ []))))))
    ∷ (at_least (minus ∷ (o ∷ (pos 4 ∷ (o ∷ (o ∷ (pos 3 ∷ []))))))
    ∷ (at_least (o ∷ (one ∷ (o ∷ (negsuc 3 ∷ (o ∷ (o ∷ []))))))
    ∷ (at_least (o ∷ (minus ∷ (o ∷ (pos 4 ∷ (o ∷ (pos 3 ∷ []))))))
    ∷ (equal (o ∷ (minus ∷ (o ∷ (o ∷ (o ∷ (o ∷ []))))))
    ∷ (equal (o ∷ (o ∷ (one ∷ (minus ∷ (o ∷ (o ∷ []))))))
    ∷ (at_least (minus ∷ (one ∷ (o ∷ (o ∷ (o ∷ (minus ∷ [])))))) ∷ []))))))))))))
strips_rows = refl

-- two loops in common, and the first statement comes first
two_loops : levels_between (o ∷ (o ∷ (o ∷ []))) (o ∷ (o ∷ (one ∷ []))) ≡ 1 ∷ (2 ∷ (0 ∷ []))
two_loops = refl

-- from the second to the first
two_loops_back : levels_between (o ∷ (o ∷ (one ∷ []))) (o ∷ (o ∷ (o ∷ []))) ≡ 1 ∷ (2 ∷ [])
two_loops_back = refl

-- a statement and itself
own_loops : levels_between (pos 3 ∷ (o ∷ (one ∷ []))) (pos 3 ∷ (o ∷ (one ∷ []))) ≡ 1 ∷ (2 ∷ [])
own_loops = refl

-- no loop in common
apart : levels_between (o ∷ (pos 5 ∷ [])) (one ∷ []) ≡ 0 ∷ []
apart = refl
