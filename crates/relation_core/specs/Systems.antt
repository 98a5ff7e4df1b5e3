-- Systems of rows as data: a shape and a list of rows of that width.
use Rattle.std.specs.Prelude.{ℤ, ℕ, ◌+◌, ◌<◌, ◌≤◌, ◌≡◌, List, [], ◌∷◌, ◌++◌, length, map, take, pos, insert}
use Rattle.std.proofs.Common.{get_or}
use Rattle.suite_base.specs.Limits.{max_dimensions}
use Rattle.row_core.specs.Rows.{AreCoefficients}
use Rattle.relation_core.specs.declared.shapes.Shape.{Shape}
use Rattle.relation_core.specs.declared.part_rows.PartRow.{PartRow}
use Rattle.relation_core.specs.declared.part_rows.RowKind.{RowKind}
use Rattle.relation_core.specs.declared.part_rows.RowKind.TheVariants.{Equal}

-- what a part is: its shape and its rows in order
pub record System : Type 0 where
  pub shape : Shape
  pub rows : List PartRow

-- the number of columns before the constant
abbrev pub columns : Shape → ℕ
columns shape = shape.outputs + shape.inputs + shape.locals + shape.parameters

-- the number of entries of a row: all columns and the constant
abbrev pub width : Shape → ℕ
width shape = columns shape + 1

-- no number of a shape passes the limit
pub record HasLimits (shape : Shape) : Type 0 where
  pub outputs : shape.outputs ≤ max_dimensions
  pub inputs : shape.inputs ≤ max_dimensions
  pub locals : shape.locals ≤ max_dimensions
  pub parameters : shape.parameters ≤ max_dimensions

-- a row that is not there
abbrev pub no_row : PartRow
no_row = record { kind = Equal; entries = [] }

-- the row at place k
abbrev pub row_at : List PartRow → ℕ → PartRow
row_at rows k = get_or rows k no_row

-- every part keeps its limits; each row is as wide as its shape, and its entries are coefficients
pub record IsWellFormed (shape : Shape) (rows : List PartRow) : Type 0 where
  pub limits : HasLimits shape
  pub widths : (k : ℕ) → k < length rows → length (row_at rows k).entries ≡ width shape
  pub ranges : (k : ℕ) → AreCoefficients (row_at rows k).entries

-- the system without rows
abbrev pub no_rows : Shape → System
no_rows shape = record { shape = shape; rows = [] }

-- the system with one more row
abbrev pub with_row : System → RowKind → List ℤ → System
with_row part kind entries = record part { rows = part.rows ++ record { kind = kind; entries = entries } ∷ [] }

-- the system with its first k rows alone
abbrev pub truncated : ℕ → System → System
truncated k part = record part { rows = take k part.rows }

-- the rows of one system, then those of another
abbrev pub conjoined : System → System → System
conjoined part other = record part { rows = part.rows ++ other.rows }

-- a row with a zero before place k
abbrev pub with_zero : ℕ → PartRow → PartRow
with_zero k row = record row { entries = insert row.entries k (pos 0) }

-- the system with one more local, at this place among the locals; no row asks anything of it
abbrev pub with_local : System → ℕ → System
with_local part at = record {
  shape = record part.shape { locals = part.shape.locals + 1 };
  rows = map (with_zero (part.shape.outputs + part.shape.inputs + at)) part.rows;
}

-- every row has at least k entries
abbrev pub ReachTo : ℕ → List PartRow → Type 0
ReachTo k rows = (i : ℕ) → i < length rows → k ≤ length (row_at rows i).entries
