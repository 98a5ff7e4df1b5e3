-- The SCoP of a region.
use Rattle.std.specs.Prelude.{◌≡◌, ℕ, zero, suc, ◌+◌, List, [], ◌∷◌, ◌++◌, length, ℤ, pos, negsuc, Bool, true, false, cond, ◌&&◌, map, codes, Some, unsigned_abs, nat_eq, nat_le, int_le}
use Rattle.relation_core.specs.Systems.{System}
use Rattle.relation_core.specs.declared.part_rows.PartRow.{PartRow}
use Rattle.scop_core.specs.SolvedRows.{zeros, with_columns}
use Rattle.scop_data.specs.declared.affines.Affine.{Affine}
use Rattle.scop_data.specs.declared.accesses.Access.{Access}
use Rattle.scop_data.specs.declared.accesses.AccessKind.{AccessKind}
use Rattle.scop_data.specs.declared.accesses.AccessKind.TheVariants.{Read, Write}
use Rattle.scop_data.specs.declared.statements.Statement.{Statement}
use Rattle.scop_core.specs.ScopData.{ScopData}
use Rattle.clan_extract.specs.Regions.{Expression, Number, Maximum, Minimum, Ceiling, Floor, Remainder, Comparison, IsLess, IsLessOrEqual, IsGreater, IsGreaterOrEqual, IsEqual, IsUnequal, Condition, Compare, Both, Either, Opposite, Reference, Assignment, Node, For, If, Block, Assign, Nodes, NoNodes, Then, array_references, number_in, numbered, names_if_any}
use Rattle.clan_extract.specs.Execution.{Setting}
use Rattle.clan_extract.specs.Forms.{is_affine, form}
use Rattle.clan_extract.specs.Placements.{Head, Placed, placed_all, loop_names, directions}
use Rattle.clan_extract.specs.Constraints.{FormRow, Constraint, parts_of}
use Rattle.clan_extract.specs.Translation.{RunsAs, HasNames}

-- a list of coefficients cut or filled up with 0 to this length
abbrev pub padded : ℕ → List ℤ → List ℤ
padded zero row = []
padded (suc n) [] = pos 0 ∷ padded n []
padded (suc n) (x ∷ row) = x ∷ padded n row

-- the number of locals
abbrev pub locals_in : List Constraint → ℕ
locals_in [] = 0
locals_in (c ∷ cs) = cond c.has_local 1 0 + locals_in cs

-- the coefficients of all locals, where so many stand before and behind this constraint's own
abbrev pub local_columns : ℕ → ℕ → Bool → ℤ → List ℤ
local_columns before behind true local = zeros before ++ local ∷ zeros behind
local_columns before behind false local = zeros (before + behind)

-- a row over the columns of iterators, locals, parameters and constant
abbrev pub part_row : ℕ → ℕ → (ℤ → List ℤ) → FormRow → PartRow
part_row iterators parameters locals row = record {
  kind = row.kind;
  entries = with_columns (padded iterators row.form.iterators) [] (locals row.local) (padded parameters row.form.parameters) row.form.constant;
}

-- the rows of constraints, where so many locals stand before theirs
abbrev pub part_rows : ℕ → ℕ → ℕ → List Constraint → List PartRow
part_rows iterators parameters before [] = []
part_rows iterators parameters before (c ∷ cs) =
    map (part_row iterators parameters (local_columns before (locals_in cs) c.has_local)) c.rows
    ++ part_rows iterators parameters (before + cond c.has_local 1 0) cs

-- a part of a domain over so many iterators and parameters
abbrev pub part : ℕ → ℕ → List Constraint → System
part iterators parameters constraints = record {
  shape = record { outputs = iterators; inputs = 0; locals = locals_in constraints; parameters = parameters };
  rows = part_rows iterators parameters 0 constraints;
}

-- the rows of a diagonal matrix with these entries
abbrev pub diagonal : List ℤ → List (List ℤ)
diagonal [] = []
diagonal (d ∷ ds) = (d ∷ zeros (length ds)) ∷ map (λ row. pos 0 ∷ row) (diagonal ds)

-- the levels: each iterator, or its negative for a downward loop
abbrev pub levels : ℕ → List ℤ → List Affine
levels parameters ds = map (λ row. record { iterators = row; floors = []; parameters = zeros parameters; constant = pos 0 }) (diagonal ds)

-- an access of this kind to the cell of a reference
abbrev pub access : List (List ℕ) → List (List ℕ) → List (List ℕ) → AccessKind → Reference → Access
access parameters arrays loops kind r = record {
  kind = kind;
  array = number_in arrays r.name;
  subscripts = map (λ e. form parameters loops e) r.subscripts;
}

-- the references that an assignment reads: its target where it updates it, then the arrays of its right side
abbrev pub references_read : List (List ℕ) → List (List ℕ) → Assignment → List Reference
references_read parameters loops a = cond a.updates (a.target ∷ []) [] ++ array_references parameters loops a.right

-- its accesses: what it reads, and last what it writes
abbrev pub accesses : List (List ℕ) → List (List ℕ) → List (List ℕ) → Assignment → List Access
accesses parameters arrays loops a =
    map (access parameters arrays loops Read) (references_read parameters loops a)
    ++ access parameters arrays loops Write a.target ∷ []

-- the statement of an assignment
abbrev pub statement : List (List ℕ) → List (List ℕ) → Placed → Statement
statement parameters arrays p = record {
  domain = map (part (length (loop_names p.rounds)) (length parameters)) (parts_of parameters [] p.rounds);
  schedule = record { floors = []; levels = levels (length parameters) (directions p.rounds); betas = map (λ b. pos b) p.betas };
  accesses = accesses parameters arrays (loop_names p.rounds) p.assignment;
  body = record { text = p.assignment.text; iterators = loop_names p.rounds };
  extensions = [];
}

-- the SCoP of a region with these parameters and arrays
abbrev pub scop_of : List (List ℕ) → List (List ℕ) → Nodes → ScopData
scop_of parameters arrays region = record {
  language = codes "C";
  context = record { shape = record { outputs = 0; inputs = 0; locals = 0; parameters = length parameters }; rows = [] };
  parameters = names_if_any parameters;
  statements = map (statement parameters arrays) (placed_all 0 region);
  arrays = Some (numbered (pos 1) arrays);
  extensions = [];
}

-- the expression is a lower bound, and an upper bound
abbrev pub is_lower_bound : Expression → Bool
is_lower_bound (Maximum left right) = is_lower_bound left && is_lower_bound right
is_lower_bound (Ceiling of divisor) = is_affine of && nat_le 1 divisor
is_lower_bound (Floor of divisor) = is_affine of && nat_le 1 divisor
is_lower_bound e = is_affine e

abbrev pub is_upper_bound : Expression → Bool
is_upper_bound (Minimum left right) = is_upper_bound left && is_upper_bound right
is_upper_bound (Ceiling of divisor) = is_affine of && nat_le 1 divisor
is_upper_bound (Floor of divisor) = is_affine of && nat_le 1 divisor
is_upper_bound e = is_affine e

-- an upward loop has a lower bound as its start and an upper one behind the comparison, a downward loop the other way round
abbrev pub has_bounds : Head → Comparison → Bool
has_bounds h IsLess = (is_lower_bound h.start && is_upper_bound h.bound) && int_le (pos 1) h.step
has_bounds h IsLessOrEqual = (is_lower_bound h.start && is_upper_bound h.bound) && int_le (pos 1) h.step
has_bounds h IsGreater = (is_upper_bound h.start && is_lower_bound h.bound) && int_le h.step (negsuc 0)
has_bounds h IsGreaterOrEqual = (is_upper_bound h.start && is_lower_bound h.bound) && int_le h.step (negsuc 0)
has_bounds h IsEqual = false
has_bounds h IsUnequal = false

-- the head of a loop; with a step of at least 2 its start is affine
abbrev pub is_head : Head → Bool
is_head h = has_bounds h h.comparison && cond (nat_eq (unsigned_abs h.step) 1) true (is_affine h.start)

-- the two sides of a comparison: affine, or a remainder that is compared with 0 by == or !=
abbrev pub is_zero : Expression → Bool
is_zero (Number value) = nat_eq value 0
is_zero e = false

abbrev pub is_equality : Comparison → Bool
is_equality IsEqual = true
is_equality IsUnequal = true
is_equality comparison = false

abbrev pub are_sides : Comparison → Expression → Expression → Bool
are_sides comparison (Remainder of divisor) right = (is_equality comparison && is_zero right) && (is_affine of && nat_le 1 divisor)
are_sides comparison left right = is_affine left && is_affine right

-- a condition of such comparisons
abbrev pub is_condition : Condition → Bool
is_condition (Compare comparison left right) = are_sides comparison left right
is_condition (Both left right) = is_condition left && is_condition right
is_condition (Either left right) = is_condition left && is_condition right
is_condition (Opposite of) = is_condition of

-- every subscript is affine
abbrev pub are_affine : List Expression → Bool
are_affine [] = true
are_affine (e ∷ es) = is_affine e && are_affine es

abbrev pub have_affine_subscripts : List Reference → Bool
have_affine_subscripts [] = true
have_affine_subscripts (r ∷ rs) = are_affine r.subscripts && have_affine_subscripts rs

-- what stands at places of control is such as can be translated
abbrev mutual
  pub is_affine_node : Node → Bool
  is_affine_node (For name start comparison bound step body) =
      is_head (record { name = name; start = start; comparison = comparison; bound = bound; step = step }) && are_affine_nodes body
  is_affine_node (If condition then_nodes else_nodes) = is_condition condition && (are_affine_nodes then_nodes && are_affine_nodes else_nodes)
  is_affine_node (Block nodes) = are_affine_nodes nodes
  is_affine_node (Assign a) = are_affine a.target.subscripts && have_affine_subscripts a.right

  pub are_affine_nodes : Nodes → Bool
  are_affine_nodes NoNodes = true
  are_affine_nodes (Then first rest) = is_affine_node first && are_affine_nodes rest

-- the SCoP of an affine region means what the region means: for all names of parameters and arrays, and all values of the parameters
abbrev pub ScopMeansItsRegion : Type 0
ScopMeansItsRegion = (setting : Setting) (region : Nodes) → are_affine_nodes region ≡ true → length setting.values ≡ length setting.parameters
    → RunsAs (scop_of setting.parameters setting.arrays region) setting region

-- the SCoP of a region has the names that it was given
abbrev pub ScopHasItsNames : Type 0
ScopHasItsNames = (parameters arrays : List (List ℕ)) (region : Nodes) → HasNames (scop_of parameters arrays region) parameters arrays
