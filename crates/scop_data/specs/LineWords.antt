-- What the words of a line say: certain words, or numbers; and the numbers that a part is printed as.
use Rattle.std.specs.Prelude.{ℤ, pos, ℕ, ◌+◌, Bool, true, false, ◌&&◌, List, [], ◌∷◌, length, map}
use Rattle.std.specs.Ordering.{int_eq}
use Rattle.std.specs.Str.{bytes_eq}
use Rattle.suite_base.specs.declared.numbers.NumberRead.{NumberRead}
use Rattle.suite_base.specs.declared.numbers.NumberRead.TheVariants.{Value, TooLarge, NotNumber}
use Rattle.suite_base.specs.Numbers.{number_read}
use Rattle.relation_core.specs.declared.part_rows.RowKind.{RowKind}
use Rattle.relation_core.specs.declared.part_rows.RowKind.TheVariants.{Equal, AtLeast}
use Rattle.relation_core.specs.declared.part_rows.PartRow.{PartRow}
use Rattle.relation_core.specs.Systems.{System, columns}

-- the same words, byte by byte
abbrev pub are_same : List (List ℕ) → List (List ℕ) → Bool
are_same [] [] = true
are_same [] (w ∷ ws) = false
are_same (v ∷ vs) [] = false
are_same (v ∷ vs) (w ∷ ws) = bytes_eq v w && are_same vs ws

-- the number that was read is this one
abbrev pub is_value : ℤ → NumberRead → Bool
is_value n (Value m) = int_eq m n
is_value n TooLarge = false
is_value n NotNumber = false

-- the words are words for these numbers
abbrev pub are_numbers : List (List ℕ) → List ℤ → Bool
are_numbers [] [] = true
are_numbers [] (n ∷ ns) = false
are_numbers (w ∷ ws) [] = false
are_numbers (w ∷ ws) (n ∷ ns) = is_value n (number_read w) && are_numbers ws ns

-- the number of a row's kind: 0 for an equality, 1 for an inequality
abbrev pub kind_number : RowKind → ℤ
kind_number Equal = pos 0
kind_number AtLeast = pos 1

-- the numbers of a row: its kind, then its entries
abbrev pub row_numbers : PartRow → List ℤ
row_numbers row = kind_number row.kind ∷ row.entries

-- the six numbers of a part: rows, columns with the kind and the constant, outputs, inputs, locals, parameters
abbrev pub header_numbers : System → List ℤ
header_numbers part =
    map pos (length part.rows ∷ ((columns part.shape + 2) ∷ (part.shape.outputs ∷ (part.shape.inputs ∷ (part.shape.locals ∷ (part.shape.parameters ∷ []))))))
