-- The printed layout of a part, as bytes.
use Rattle.std.specs.Prelude.{ℤ, pos, ℕ, ◌+◌, List, [], ◌∷◌, ◌++◌, length}
use Rattle.std.specs.List.{flat_map}
use Rattle.std.specs.Fmt.{decimal, signed_decimal}
use Rattle.relation_core.specs.declared.shapes.Shape.{Shape}
use Rattle.relation_core.specs.declared.part_rows.PartRow.{PartRow}
use Rattle.relation_core.specs.declared.part_rows.RowKind.{RowKind}
use Rattle.relation_core.specs.declared.part_rows.RowKind.TheVariants.{Equal, AtLeast}
use Rattle.relation_core.specs.Systems.{System, columns}

-- a number after one space
abbrev pub spaced : ℤ → List ℕ
spaced z = 32 ∷ signed_decimal z

-- a count after one space
abbrev pub spaced_count : ℕ → List ℕ
spaced_count n = spaced (pos n)

-- the header: rows, columns with the kind and the constant, outputs, inputs, locals, parameters
abbrev pub header_text : ℕ → Shape → List ℕ
header_text rows shape =
    decimal rows ++ flat_map spaced_count
    ((columns shape + 2) ∷ (shape.outputs ∷ (shape.inputs ∷ (shape.locals ∷ (shape.parameters ∷ [])))))

-- the header on a line
abbrev pub header_line : ℕ → Shape → List ℕ
header_line rows shape = header_text rows shape ++ 10 ∷ []

-- the first number of a row: 0 for an equality, 1 for an inequality
abbrev pub kind_digit : RowKind → ℕ
kind_digit Equal = 48
kind_digit AtLeast = 49

-- a row: its kind, then its entries
abbrev pub row_text : PartRow → List ℕ
row_text row = kind_digit row.kind ∷ flat_map spaced row.entries

-- a row on a line
abbrev pub row_line : PartRow → List ℕ
row_line row = row_text row ++ 10 ∷ []

-- a part: its numbers, then its rows
abbrev pub part_layout : System → List ℕ
part_layout part = header_line (length part.rows) part.shape ++ flat_map row_line part.rows
