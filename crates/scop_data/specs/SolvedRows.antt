-- The rows of schedules and accesses in solved form, as they are printed.
use Rattle.std.specs.Prelude.{ℤ, pos, negsuc, neg_ℤ, ◌+ℤ◌, ℕ, ◌+◌, ◌-◌, ◌*◌, ◌^◌, ◌<◌, ◌≡◌, List, [], ◌∷◌, ◌++◌, length, map, take, drop, replicate, get_or, unsigned_abs, All}
use Rattle.row_core.specs.Rows.{entry}
use Rattle.relation_core.specs.Systems.{System, HasLimits}
use Rattle.relation_core.specs.declared.shapes.Shape.{Shape}
use Rattle.relation_core.specs.declared.part_rows.PartRow.{PartRow}
use Rattle.relation_core.specs.declared.part_rows.RowKind.TheVariants.{Equal, AtLeast}
use Rattle.scop_data.specs.declared.affines.Affine.{Affine}
use Rattle.scop_data.specs.declared.schedules.Floor.{Floor}
use Rattle.scop_data.specs.declared.schedules.Schedule.{Schedule}
use Rattle.scop_data.specs.declared.accesses.Access.{Access}

-- n entries that are 0
abbrev pub zeros : ℕ → List ℤ
zeros n = replicate n (pos 0)

-- n entries that are 0 but for z at place k
abbrev pub unit : ℕ → ℕ → ℤ → List ℤ
unit n k z = zeros k ++ z ∷ zeros (n - (k + 1))

-- the row with z added to the entry at place k
abbrev pub raised : List ℤ → ℕ → ℤ → List ℤ
raised row k z = take k row ++ (entry row k +ℤ z) ∷ drop (k + 1) row

-- the outputs of a row, and behind them the coefficients of iterators, floors and parameters and the constant
abbrev pub with_columns : List ℤ → List ℤ → List ℤ → List ℤ → ℤ → List ℤ
with_columns outputs iterators floors parameters constant =
    outputs ++ iterators ++ floors ++ parameters ++ constant ∷ []

-- the row -output + value = 0 of the output at place k
abbrev pub value_row : Shape → ℕ → Affine → PartRow
value_row shape k value = record {
  kind = Equal;
  entries = with_columns (unit shape.outputs k (negsuc 0)) value.iterators value.floors value.parameters value.constant;
}

-- the row -output + constant = 0 of the output at place k
abbrev pub constant_row : Shape → ℕ → ℤ → PartRow
constant_row shape k constant = record {
  kind = Equal;
  entries = with_columns (unit shape.outputs k (negsuc 0)) (zeros shape.inputs) (zeros shape.locals) (zeros shape.parameters) constant;
}

-- the rows of betas and levels in turn, the first one of the output at place k
abbrev pub dimension_rows : Shape → ℕ → List ℤ → List Affine → List PartRow
dimension_rows shape k [] levels = []
dimension_rows shape k (beta ∷ betas) [] = constant_row shape k beta ∷ []
dimension_rows shape k (beta ∷ betas) (level ∷ levels) =
    constant_row shape k beta ∷ (value_row shape (k + 1) level ∷ dimension_rows shape (k + 2) betas levels)

-- the row value - size * local >= 0 of the local at place k
abbrev pub low_row : Shape → ℕ → Floor → PartRow
low_row shape k floor = record {
  kind = AtLeast;
  entries = with_columns (zeros shape.outputs) floor.value.iterators (raised floor.value.floors k (neg_ℤ floor.size)) floor.value.parameters floor.value.constant;
}

-- the row -value + size * local + size - 1 >= 0 of the local at place k
abbrev pub high_row : Shape → ℕ → Floor → PartRow
high_row shape k floor = record {
  kind = AtLeast;
  entries = with_columns (zeros shape.outputs) (map neg_ℤ floor.value.iterators) (map neg_ℤ (raised floor.value.floors k (neg_ℤ floor.size)))
      (map neg_ℤ floor.value.parameters) ((neg_ℤ floor.value.constant +ℤ floor.size) +ℤ negsuc 0);
}

-- the two rows of each floor, the first floor's for the local at place k
abbrev pub floor_rows : Shape → ℕ → List Floor → List PartRow
floor_rows shape k [] = []
floor_rows shape k (floor ∷ floors) = low_row shape k floor ∷ (high_row shape k floor ∷ floor_rows shape (k + 1) floors)

-- the columns of floors alone: iterators and parameters, one local for each floor, and no outputs
abbrev pub floor_shape : ℕ → ℕ → List Floor → Shape
floor_shape iterators parameters floors = record {
  outputs = 0;
  inputs = iterators;
  locals = length floors;
  parameters = parameters;
}

-- the rows of floors as a part of their own
abbrev pub floor_part : ℕ → ℕ → List Floor → System
floor_part iterators parameters floors = record {
  shape = floor_shape iterators parameters floors;
  rows = floor_rows (floor_shape iterators parameters floors) 0 floors;
}

-- the columns of a scattering: one output for each beta and each level, one local for each floor
abbrev pub schedule_shape : ℕ → ℕ → Schedule → Shape
schedule_shape iterators parameters schedule = record {
  outputs = 2 * length schedule.levels + 1;
  inputs = iterators;
  locals = length schedule.floors;
  parameters = parameters;
}

-- the rows that a schedule is printed as: its dimensions in order, then its floors
abbrev pub schedule_rows : ℕ → ℕ → Schedule → List PartRow
schedule_rows iterators parameters schedule =
    let shape = schedule_shape iterators parameters schedule
    in dimension_rows shape 0 schedule.betas schedule.levels ++ floor_rows shape 0 schedule.floors

-- the one part of a scattering in solved form
abbrev pub schedule_part : ℕ → ℕ → Schedule → System
schedule_part iterators parameters schedule = record {
  shape = schedule_shape iterators parameters schedule;
  rows = schedule_rows iterators parameters schedule;
}

-- the columns of an access: one output for the array and one for each subscript
abbrev pub access_shape : ℕ → ℕ → Access → Shape
access_shape iterators parameters access = record {
  outputs = length access.subscripts + 1;
  inputs = iterators;
  locals = 0;
  parameters = parameters;
}

-- the rows of these values, the first one of the output at place k
abbrev pub value_rows : Shape → ℕ → List Affine → List PartRow
value_rows shape k [] = []
value_rows shape k (value ∷ values) = value_row shape k value ∷ value_rows shape (k + 1) values

-- the rows that an access is printed as: the array's identifier, then the subscripts
abbrev pub access_rows : ℕ → ℕ → Access → List PartRow
access_rows iterators parameters access =
    let shape = access_shape iterators parameters access
    in constant_row shape 0 access.array ∷ value_rows shape 1 access.subscripts

-- the one part of an access in solved form
abbrev pub access_part : ℕ → ℕ → Access → System
access_part iterators parameters access = record {
  shape = access_shape iterators parameters access;
  rows = access_rows iterators parameters access;
}

-- an affine value has so many coefficients of iterators, floors and parameters
pub record HasSizes (iterators floors parameters : ℕ) (value : Affine) : Type 0 where
  pub iterators_are : length value.iterators ≡ iterators
  pub floors_are : length value.floors ≡ floors
  pub parameters_are : length value.parameters ≡ parameters

-- the coefficients in which the two rows of the floor at place k differ from its value are in range
pub record PairFits (k : ℕ) (floor : Floor) : Type 0 where
  pub local : unsigned_abs (entry floor.value.floors k +ℤ neg_ℤ floor.size) < 2 ^ 127
  pub constant : unsigned_abs ((neg_ℤ floor.value.constant +ℤ floor.size) +ℤ negsuc 0) < 2 ^ 127

-- the rows of each floor are in range
abbrev pub PairsFit : List Floor → Type 0
PairsFit floors = (k : ℕ) (floor : Floor) → k < length floors → PairFits k (get_or floors k floor)

-- a schedule can be printed: every value has its sizes, betas and levels alternate, no number of the
-- shape is too large, and the rows of each floor are in range
pub record HasRelation (iterators parameters : ℕ) (schedule : Schedule) : Type 0 where
  pub levels : All (HasSizes iterators (length schedule.floors) parameters) schedule.levels
  pub floors : All (λ floor. HasSizes iterators (length schedule.floors) parameters floor.value) schedule.floors
  pub betas : length schedule.betas ≡ length schedule.levels + 1
  pub limits : HasLimits (schedule_shape iterators parameters schedule)
  pub pairs : PairsFit schedule.floors

-- an access can be printed: every subscript has its sizes, and no number of the shape is too large
pub record HasAccessRelation (iterators parameters : ℕ) (access : Access) : Type 0 where
  pub subscripts : All (HasSizes iterators 0 parameters) access.subscripts
  pub limits : HasLimits (access_shape iterators parameters access)
