-- The SCoPs of regions, as they are worked out by hand.
use Rattle.std.proofs.Common.{◌≡◌, refl, List, [], ◌∷◌, ◌++◌, ℕ, zero, suc, ℤ, pos, negsuc, map, length, None, Some}
use Rattle.std.specs.Prelude.{codes, true, false}
use Rattle.relation_core.specs.Systems.{System}
use Rattle.relation_core.specs.declared.part_rows.PartRow.{PartRow}
use Rattle.relation_core.specs.declared.part_rows.RowKind.TheVariants.{Equal, AtLeast}
use Rattle.scop_data.specs.declared.affines.Affine.{Affine}
use Rattle.scop_data.specs.declared.accesses.AccessKind.TheVariants.{Read, Write}
use Rattle.scop_data.specs.declared.statements.Statement.{Statement}
use Rattle.clan_extract.specs.Regions.{Expression, Number, Name, Sum, Difference, Product, Maximum, Minimum, Ceiling, Floor, Remainder, Comparison, IsLess, IsLessOrEqual, IsGreaterOrEqual, IsEqual, IsUnequal, Condition, Compare, Both, Either, Node, Nodes, NoNodes, Then, For, If, Block, Assign}
use Rattle.clan_extract.specs.Constraints.{parts_of_condition}
use Rattle.clan_extract.specs.Scops.{scop_of, is_head, are_affine_nodes}
use Rattle.clan_extract.proofs.Checks.{one_loop}

abbrev pub i : List ℕ
i = codes "i"

abbrev pub j : List ℕ
j = codes "j"

abbrev pub N : List ℕ
N = codes "N"

abbrev pub A : List ℕ
A = codes "A"

abbrev pub B : List ℕ
B = codes "B"

-- A[e] = 0; and B[e] = 0;
abbrev pub set : List ℕ → Expression → Nodes
set array e = Then (Assign (record { text = codes "A[e] = 0;"; target = record { name = array; subscripts = e ∷ [] }; updates = false; right = [] })) NoNodes

abbrev pub one : Node → Nodes
one node = Then node NoNodes

abbrev pub loop : List ℕ → Expression → Comparison → Expression → ℤ → Nodes → Nodes
loop name start comparison bound step body = one (For name start comparison bound step body)

-- the shape and the rows of a part, as they are printed
abbrev rows : ℕ → ℕ → ℕ → List PartRow → System
rows iterators locals parameters rs = record { shape = record { outputs = iterators; inputs = 0; locals = locals; parameters = parameters }; rows = rs }

abbrev at_least : List ℤ → PartRow
at_least entries = record { kind = AtLeast; entries = entries }

abbrev equal : List ℤ → PartRow
equal entries = record { kind = Equal; entries = entries }

abbrev affine : ℤ → ℤ → ℤ → Affine
affine iterator parameter constant = record { iterators = iterator ∷ []; floors = []; parameters = parameter ∷ []; constant = constant }

abbrev domains : List (List ℕ) → Nodes → List (List System)
domains parameters region = map (λ (s : Statement). s.domain) (scop_of parameters (A ∷ (B ∷ [])) region).statements

abbrev betas_of : Nodes → List (List ℤ)
betas_of region = map (λ (s : Statement). s.schedule.betas) (scop_of (N ∷ []) (A ∷ (B ∷ [])) region).statements

-- for (i = 1; i < N; i++) A[i] = 0;
abbrev statement_of_one_loop : Statement
statement_of_one_loop = record {
  domain = rows 1 0 1 (at_least (pos 1 ∷ (pos 0 ∷ (negsuc 0 ∷ []))) ∷ (at_least (negsuc 0 ∷ (pos 1 ∷ (negsuc 0 ∷ []))) ∷ [])) ∷ [];
  schedule = record { floors = []; levels = affine (pos 1) (pos 0) (pos 0) ∷ []; betas = pos 0 ∷ (pos 0 ∷ []) };
  accesses = record { kind = Write; array = pos 1; subscripts = affine (pos 1) (pos 0) (pos 0) ∷ [] } ∷ [];
  body = record { text = codes "A[i] = 0;"; iterators = i ∷ [] };
  extensions = [];
}

scop_of_one_loop : scop_of (N ∷ []) (A ∷ []) one_loop ≡ record {
  language = codes "C";
  context = rows 0 0 1 [];
  parameters = Some (N ∷ []);
  statements = statement_of_one_loop ∷ [];
  arrays = Some ((pos 1, A) ∷ []);
  extensions = [];
}
scop_of_one_loop = refl

-- for (i = 0; i <= N; i++) for (j = 0; j <= N; j++) if (i < j || j == N) A[i] = 0; else B[j] = 0;
abbrev with_else : Nodes
with_else =
    loop i (Number 0) IsLessOrEqual (Name N) (pos 1) (loop j (Number 0) IsLessOrEqual (Name N) (pos 1)
    (one (If (Either (Compare IsLess (Name i) (Name j)) (Compare IsEqual (Name j) (Name N))) (set A (Name i)) (set B (Name j)))))

abbrev round_both : List PartRow
round_both =
    at_least (pos 1 ∷ (pos 0 ∷ (pos 0 ∷ (pos 0 ∷ [])))) ∷ (at_least (negsuc 0 ∷ (pos 0 ∷ (pos 1 ∷ (pos 0 ∷ []))))
    ∷ (at_least (pos 0 ∷ (pos 1 ∷ (pos 0 ∷ (pos 0 ∷ [])))) ∷ (at_least (pos 0 ∷ (negsuc 0 ∷ (pos 1 ∷ (pos 0 ∷ [])))) ∷ [])))

domains_with_else : domains (N ∷ []) with_else
    ≡ (rows 2 0 1 (round_both ++ at_least (negsuc 0 ∷ (pos 1 ∷ (pos 0 ∷ (negsuc 0 ∷ [])))) ∷ [])
    ∷ (rows 2 0 1 (round_both ++ equal (pos 0 ∷ (pos 1 ∷ (negsuc 0 ∷ (pos 0 ∷ [])))) ∷ []) ∷ []))
    ∷ ((rows 2 0 1 (round_both ++ at_least (pos 1 ∷ (negsuc 0 ∷ (pos 0 ∷ (pos 0 ∷ [])))) ∷ (at_least (pos 0 ∷ (pos 1 ∷ (negsuc 0 ∷ (negsuc 0 ∷ [])))) ∷ []))
    ∷ (rows 2 0 1 (round_both ++ at_least (pos 1 ∷ (negsuc 0 ∷ (pos 0 ∷ (pos 0 ∷ [])))) ∷ (at_least (pos 0 ∷ (negsuc 0 ∷ (pos 1 ∷ (negsuc 0 ∷ [])))) ∷ [])) ∷ [])) ∷ [])
domains_with_else = refl

betas_with_else : betas_of with_else ≡ (pos 0 ∷ (pos 0 ∷ (pos 0 ∷ []))) ∷ ((pos 0 ∷ (pos 0 ∷ (pos 1 ∷ []))) ∷ [])
betas_with_else = refl

-- for (i = N; i >= 0; i--) A[i] = A[i + 1];
abbrev downward : Nodes
downward = loop i (Name N) IsGreaterOrEqual (Number 0) (negsuc 0) (one (Assign (record {
  text = codes "A[i] = A[i + 1];";
  target = record { name = A; subscripts = Name i ∷ [] };
  updates = false;
  right = record { name = A; subscripts = Sum (Name i) (Number 1) ∷ [] } ∷ [];
})))

abbrev first_statement : Statement
first_statement = record {
  domain = rows 1 0 1 (at_least (negsuc 0 ∷ (pos 1 ∷ (pos 0 ∷ []))) ∷ (at_least (pos 1 ∷ (pos 0 ∷ (pos 0 ∷ []))) ∷ [])) ∷ [];
  schedule = record { floors = []; levels = affine (negsuc 0) (pos 0) (pos 0) ∷ []; betas = pos 0 ∷ (pos 0 ∷ []) };
  accesses = record { kind = Read; array = pos 1; subscripts = affine (pos 1) (pos 0) (pos 1) ∷ [] }
      ∷ (record { kind = Write; array = pos 1; subscripts = affine (pos 1) (pos 0) (pos 0) ∷ [] } ∷ []);
  body = record { text = codes "A[i] = A[i + 1];"; iterators = i ∷ [] };
  extensions = [];
}

statement_of_downward : (scop_of (N ∷ []) (A ∷ []) downward).statements ≡ first_statement ∷ []
statement_of_downward = refl

-- for (i = max(0, ceild(N - 7, 4)); i <= min(N, floord(3*N + 1, 2)); i++) A[i] = 0;
abbrev bounded : Nodes
bounded = loop i (Maximum (Number 0) (Ceiling (Difference (Name N) (Number 7)) 4)) IsLessOrEqual
    (Minimum (Name N) (Floor (Sum (Product (Number 3) (Name N)) (Number 1)) 2)) (pos 1) (set A (Name i))

domains_of_bounded : domains (N ∷ []) bounded
    ≡ (rows 1 0 1 (at_least (pos 1 ∷ (pos 0 ∷ (pos 0 ∷ []))) ∷ (at_least (pos 4 ∷ (negsuc 0 ∷ (pos 7 ∷ [])))
    ∷ (at_least (negsuc 0 ∷ (pos 1 ∷ (pos 0 ∷ []))) ∷ (at_least (negsuc 1 ∷ (pos 3 ∷ (pos 1 ∷ []))) ∷ [])))) ∷ []) ∷ []
domains_of_bounded = refl

-- for (i = floord(N, 3); i < ceild(N, 2); i++)
domains_of_strict : domains (N ∷ []) (loop i (Floor (Name N) 3) IsLess (Ceiling (Name N) 2) (pos 1) (set A (Name i)))
    ≡ (rows 1 0 1 (at_least (pos 3 ∷ (negsuc 0 ∷ (pos 2 ∷ []))) ∷ (at_least (negsuc 1 ∷ (pos 1 ∷ (negsuc 0 ∷ []))) ∷ [])) ∷ []) ∷ []
domains_of_strict = refl

-- for (i = 1; i < N; i += 3) A[i] = 0;
domains_of_stride : domains (N ∷ []) (loop i (Number 1) IsLess (Name N) (pos 3) (set A (Name i)))
    ≡ (rows 1 1 1 (at_least (pos 1 ∷ (pos 0 ∷ (pos 0 ∷ (negsuc 0 ∷ [])))) ∷ (at_least (negsuc 0 ∷ (pos 0 ∷ (pos 1 ∷ (negsuc 0 ∷ []))))
    ∷ (equal (pos 1 ∷ (negsuc 2 ∷ (pos 0 ∷ (negsuc 0 ∷ [])))) ∷ []))) ∷ []) ∷ []
domains_of_stride = refl

-- for (i = 0; i < N; i++) if (i % 2 != 0) A[i] = 0; else A[i] = 1;
abbrev with_remainder : Nodes
with_remainder = loop i (Number 0) IsLess (Name N) (pos 1) (one (If (Compare IsUnequal (Remainder (Name i) 2) (Number 0)) (set A (Name i)) (set A (Name i))))

domains_of_remainder : domains (N ∷ []) with_remainder
    ≡ (rows 1 1 1 (at_least (pos 1 ∷ (pos 0 ∷ (pos 0 ∷ (pos 0 ∷ [])))) ∷ (at_least (negsuc 0 ∷ (pos 0 ∷ (pos 1 ∷ (negsuc 0 ∷ []))))
    ∷ (at_least (pos 1 ∷ (negsuc 1 ∷ (pos 0 ∷ (negsuc 0 ∷ [])))) ∷ (at_least (negsuc 0 ∷ (pos 2 ∷ (pos 0 ∷ (pos 1 ∷ [])))) ∷ [])))) ∷ [])
    ∷ ((rows 1 1 1 (at_least (pos 1 ∷ (pos 0 ∷ (pos 0 ∷ (pos 0 ∷ [])))) ∷ (at_least (negsuc 0 ∷ (pos 0 ∷ (pos 1 ∷ (negsuc 0 ∷ []))))
    ∷ (equal (pos 1 ∷ (negsuc 1 ∷ (pos 0 ∷ (pos 0 ∷ [])))) ∷ []))) ∷ []) ∷ [])
domains_of_remainder = refl

-- with a step of at least 2 the start has to be affine, and a step of 0 is none
no_stride_from_max : is_head (record { name = i; start = Maximum (Number 0) (Name N); comparison = IsLess; bound = Number 9; step = pos 2 }) ≡ false
no_stride_from_max = refl

no_step_of_zero : is_head (record { name = i; start = Number 0; comparison = IsLess; bound = Number 9; step = pos 0 }) ≡ false
no_step_of_zero = refl

-- (N - N) * i is not affine, 2 * i * (3 - 1) is
not_affine : are_affine_nodes (set A (Product (Difference (Name N) (Name N)) (Name i))) ≡ false
not_affine = refl

is_affine_product : are_affine_nodes (set A (Product (Product (Number 2) (Name i)) (Difference (Number 3) (Number 1)))) ≡ true
is_affine_product = refl

-- the second local stands in the second column of locals: a stride, then a remainder
domains_of_two_locals : domains [] (loop i (Number 0) IsLess (Number 9) (pos 2) (one (If (Compare IsEqual (Remainder (Name i) 3) (Number 0)) (set A (Name i)) NoNodes)))
    ≡ (rows 1 2 0 (at_least (pos 1 ∷ (pos 0 ∷ (pos 0 ∷ (pos 0 ∷ [])))) ∷ (at_least (negsuc 0 ∷ (pos 0 ∷ (pos 0 ∷ (pos 8 ∷ []))))
    ∷ (equal (pos 1 ∷ (negsuc 1 ∷ (pos 0 ∷ (pos 0 ∷ [])))) ∷ (equal (pos 1 ∷ (pos 0 ∷ (negsuc 2 ∷ (pos 0 ∷ [])))) ∷ [])))) ∷ []) ∷ []
domains_of_two_locals = refl

-- the betas of { for (..) ; A[0] = 0; if (N < 1) { A[1] = 0; } else for (..) { A[2] = 0; B[2] = 0; } B[0] = 0; }: a loop without an assignment has no number
abbrev counted : Nodes
counted =
    Then (For i (Number 0) IsLess (Name N) (pos 1) (one (Block NoNodes)))
    (Then (Block (set A (Number 0)))
    (Then (If (Compare IsLess (Name N) (Number 1)) (one (Block (set A (Number 1)))) (loop i (Number 0) IsLess (Name N) (pos 1) (Then (Block (set A (Number 2))) (set B (Number 2)))))
    (set B (Number 0))))

betas_of_counted : betas_of counted
    ≡ (pos 0 ∷ []) ∷ ((pos 1 ∷ []) ∷ ((pos 2 ∷ (pos 0 ∷ [])) ∷ ((pos 2 ∷ (pos 1 ∷ [])) ∷ ((pos 3 ∷ []) ∷ []))))
betas_of_counted = refl

-- an inner loop of an outer one's name takes its place
shadowed : domains [] (loop i (Number 0) IsLess (Number 9) (pos 1) (loop i (Name i) IsLess (Number 9) (pos 1) (set A (Name i))))
    ≡ (rows 2 0 0 (at_least (pos 1 ∷ (pos 0 ∷ (pos 0 ∷ []))) ∷ (at_least (negsuc 0 ∷ (pos 0 ∷ (pos 8 ∷ [])))
    ∷ (at_least (negsuc 0 ∷ (pos 1 ∷ (pos 0 ∷ []))) ∷ (at_least (pos 0 ∷ (negsuc 0 ∷ (pos 8 ∷ []))) ∷ [])))) ∷ []) ∷ []
shadowed = refl

-- seven != make 128 parts
abbrev pub many : ℕ → Condition
many zero = Compare IsUnequal (Name i) (Number 0)
many (suc k) = Both (Compare IsUnequal (Name i) (Number 0)) (many k)

parts_of_seven : length (parts_of_condition [] [] true (many 6)) ≡ 128
parts_of_seven = refl

no_parameters : (scop_of [] [] NoNodes).parameters ≡ None
no_parameters = refl
