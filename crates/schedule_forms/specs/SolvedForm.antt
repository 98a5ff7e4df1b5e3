-- When a scattering or an access is in solved form, and the schedule or access that it then is.
use Rattle.std.specs.Prelude.{ℤ, pos, negsuc, neg_ℤ, ◌+ℤ◌, ℕ, zero, suc, ◌+◌, ◌-◌, ◌*◌, ◌/◌, ◌%◌, Bool, true, false, not, ◌&&◌, ◌==◌, nat_le, int_lt, int_le, if◌then◌else◌, List, [], ◌∷◌, ◌++◌, length, map, take, drop, slice_range, unsigned_abs, count_by}
use Rattle.std.specs.Ordering.{int_eq}
use Rattle.row_core.specs.Rows.{entry}
use Rattle.relation_core.specs.Systems.{System, columns, no_row}
use Rattle.relation_core.specs.declared.shapes.Shape.{Shape}
use Rattle.relation_core.specs.declared.part_rows.PartRow.{PartRow}
use Rattle.relation_core.specs.declared.part_rows.RowKind.{RowKind}
use Rattle.relation_core.specs.declared.part_rows.RowKind.TheVariants.{Equal, AtLeast}
use Rattle.scop_data.specs.declared.affines.Affine.{Affine}
use Rattle.scop_data.specs.declared.schedules.Floor.{Floor}
use Rattle.scop_data.specs.declared.schedules.Schedule.{Schedule}
use Rattle.scop_data.specs.declared.accesses.AccessKind.{AccessKind}
use Rattle.scop_data.specs.declared.accesses.Access.{Access}

-- the sum of the absolute values
abbrev pub weight : List ℤ → ℕ
weight [] = 0
weight (z ∷ row) = unsigned_abs z + weight row

-- the row is an equality
abbrev pub is_equality : RowKind → Bool
is_equality Equal = true
is_equality AtLeast = false

-- the coefficients of the outputs of a row
abbrev pub outputs_of : Shape → List ℤ → List ℤ
outputs_of shape row = slice_range row 0 shape.outputs

-- the column of the local at place k
abbrev pub local_column : Shape → ℕ → ℕ
local_column shape k = shape.outputs + shape.inputs + k

-- the coefficients of the locals from place k on
abbrev pub locals_from : Shape → ℕ → List ℤ → List ℤ
locals_from shape k row = slice_range row (local_column shape k) (local_column shape shape.locals)

-- an equality has one output, with coefficient 1 or -1; an inequality has no output and some local
abbrev pub is_formed : Shape → PartRow → Bool
is_formed shape row =
    if is_equality row.kind then weight (outputs_of shape row.entries) == 1
    else (weight (outputs_of shape row.entries) == 0 && not (weight (locals_from shape 0 row.entries) == 0))

-- every row is formed so
abbrev pub are_formed : Shape → List PartRow → Bool
are_formed shape [] = true
are_formed shape (row ∷ rows) = is_formed shape row && are_formed shape rows

-- an equality of the output at place k
abbrev pub is_output_row : ℕ → PartRow → Bool
is_output_row k row = is_equality row.kind && not (unsigned_abs (entry row.entries k) == 0)

-- an inequality whose last local stands at place k
abbrev pub is_local_row : Shape → ℕ → PartRow → Bool
is_local_row shape k row = not (is_equality row.kind) && weight (locals_from shape (k + 1) row.entries) == 0

-- the one with a negative coefficient there: value - size * local >= 0
abbrev pub is_low_row : Shape → ℕ → PartRow → Bool
is_low_row shape k row = is_local_row shape k row && int_lt (entry row.entries (local_column shape k)) (pos 0)

-- the one with a positive coefficient there: -value + size * local + size - 1 >= 0
abbrev pub is_high_row : Shape → ℕ → PartRow → Bool
is_high_row shape k row = is_local_row shape k row && int_lt (pos 0) (entry row.entries (local_column shape k))

-- the first row that passes a test
abbrev pub first_row : (PartRow → Bool) → List PartRow → PartRow
first_row test [] = no_row
first_row test (row ∷ rows) = if test row then row else first_row test rows

-- one row is the negative of another
abbrev pub are_opposite : List ℤ → List ℤ → Bool
are_opposite [] [] = true
are_opposite [] (y ∷ b) = false
are_opposite (x ∷ a) [] = false
are_opposite (x ∷ a) (y ∷ b) = int_eq x (neg_ℤ y) && are_opposite a b

-- the two rows of a floor of this size belong together: but for the constants they are opposite, and
-- the constants c and d have d = -c + size - 1
abbrev pub is_pair : Shape → ℤ → List ℤ → List ℤ → Bool
is_pair shape size low high =
    int_le (pos 1) size && are_opposite (slice_range high 0 (columns shape)) (slice_range low 0 (columns shape))
    && int_eq (entry high (columns shape)) ((neg_ℤ (entry low (columns shape)) +ℤ size) +ℤ negsuc 0)

-- a test passes at every number below n
abbrev pub each_below : (ℕ → Bool) → ℕ → Bool
each_below test zero = true
each_below test (suc k) = each_below test k && test k

-- the affine value of a row's coefficients behind its outputs
abbrev pub affine_of : Shape → List ℤ → Affine
affine_of shape row = record {
  iterators = slice_range row shape.outputs (local_column shape 0);
  floors = slice_range row (local_column shape 0) (local_column shape shape.locals);
  parameters = slice_range row (local_column shape shape.locals) (columns shape);
  constant = entry row (columns shape);
}

-- the row of the output at place k
abbrev pub output_row : System → ℕ → PartRow
output_row part k = first_row (is_output_row k) part.rows

-- the value of the output at place k: the rest of its row, negated where the output's coefficient is positive
abbrev pub value_at : System → ℕ → Affine
value_at part k =
    let row = (output_row part k).entries
    in affine_of part.shape (if int_lt (pos 0) (entry row k) then map neg_ℤ row else row)

-- the row of which a floor is read
abbrev pub low_row_of : System → ℕ → PartRow
low_row_of part k = first_row (is_low_row part.shape k) part.rows

-- its counterpart
abbrev pub high_row_of : System → ℕ → PartRow
high_row_of part k = first_row (is_high_row part.shape k) part.rows

-- the row with 0 at place k
abbrev pub cleared : List ℤ → ℕ → List ℤ
cleared row k = take k row ++ pos 0 ∷ drop (k + 1) row

-- the size of the floor of the local at place k
abbrev pub size_at : System → ℕ → ℤ
size_at part k = neg_ℤ (entry (low_row_of part k).entries (local_column part.shape k))

-- the floor of the local at place k
abbrev pub floor_at : System → ℕ → Floor
floor_at part k = record {
  value = affine_of part.shape (cleared (low_row_of part k).entries (local_column part.shape k));
  size = size_at part k;
}

-- exactly one row gives the output at place k
abbrev pub has_output : System → ℕ → Bool
has_output part k = count_by (is_output_row k) part.rows == 1

-- exactly two rows, which belong together, give the floor of the local at place k
abbrev pub has_floor : System → ℕ → Bool
has_floor part k =
    count_by (is_low_row part.shape k) part.rows == 1 && count_by (is_high_row part.shape k) part.rows == 1
    && is_pair part.shape (size_at part k) (low_row_of part k).entries (high_row_of part k).entries

-- an affine value is a constant
abbrev pub is_constant : Affine → Bool
is_constant value = weight value.iterators == 0 && weight value.floors == 0 && weight value.parameters == 0

-- the output at place 2 k is a beta
abbrev pub has_beta : System → ℕ → Bool
has_beta part k = is_constant (value_at part (2 * k))

-- the part is a scattering in solved form
abbrev pub is_scattering : System → Bool
is_scattering part =
    part.shape.outputs % 2 == 1 && are_formed part.shape part.rows && each_below (has_output part) part.shape.outputs
    && each_below (has_floor part) part.shape.locals && each_below (has_beta part) (part.shape.outputs / 2 + 1)

-- the values of the outputs at places 2 k + 1, for n numbers from k on
abbrev pub levels_from : System → ℕ → ℕ → List Affine
levels_from part k zero = []
levels_from part k (suc n) = value_at part (2 * k + 1) ∷ levels_from part (k + 1) n

-- the constants of the outputs at places 2 k, for n numbers from k on
abbrev pub betas_from : System → ℕ → ℕ → List ℤ
betas_from part k zero = []
betas_from part k (suc n) = (value_at part (2 * k)).constant ∷ betas_from part (k + 1) n

-- the floors of n locals from place k on
abbrev pub floors_from : System → ℕ → ℕ → List Floor
floors_from part k zero = []
floors_from part k (suc n) = floor_at part k ∷ floors_from part (k + 1) n

-- the schedule that a scattering in solved form is
abbrev pub schedule_of : System → Schedule
schedule_of part = record {
  floors = floors_from part 0 part.shape.locals;
  levels = levels_from part 0 (part.shape.outputs / 2);
  betas = betas_from part 0 (part.shape.outputs / 2 + 1);
}

-- no row is an inequality
abbrev pub are_equalities : List PartRow → Bool
are_equalities [] = true
are_equalities (row ∷ rows) = is_equality row.kind && are_equalities rows

-- the part is an access in solved form
abbrev pub is_access : System → Bool
is_access part =
    part.shape.locals == 0 && nat_le 1 part.shape.outputs && are_equalities part.rows && are_formed part.shape part.rows
    && each_below (has_output part) part.shape.outputs
    && (is_constant (value_at part 0) && int_le (pos 1) (value_at part 0).constant)

-- the values of n outputs from place k on
abbrev pub values_from : System → ℕ → ℕ → List Affine
values_from part k zero = []
values_from part k (suc n) = value_at part k ∷ values_from part (k + 1) n

-- the access of this kind that an access relation in solved form is
abbrev pub access_of : AccessKind → System → Access
access_of kind part = record {
  kind = kind;
  array = (value_at part 0).constant;
  subscripts = values_from part 1 (part.shape.outputs - 1);
}
