-- What holds of every row of a list.
use Rattle.std.specs.Prelude.{◌≡◌, ℕ, ◌+◌, List, [], ◌∷◌, length, cond, int_lt, pos}
use Rattle.row_core.specs.Rows.{entry}
use Rattle.relation_core.specs.declared.part_rows.PartRow.{PartRow}

-- P holds of every row
abbrev pub AllRows : (PartRow → Type 0) → List PartRow → Type 0
AllRows P [] = Unit {0}
AllRows P (w ∷ ws) = P w × AllRows P ws

-- a row has this many entries
abbrev pub Wide : ℕ → PartRow → Type 0
Wide width w = length w.entries ≡ width

-- the number of rows with a positive entry in column j
abbrev pub positives : ℕ → List PartRow → ℕ
positives j [] = 0
positives j (w ∷ ws) = cond (int_lt (pos 0) (entry w.entries j)) (positives j ws + 1) (positives j ws)

-- the number of rows with a negative entry in column j
abbrev pub negatives : ℕ → List PartRow → ℕ
negatives j [] = 0
negatives j (w ∷ ws) = cond (int_lt (entry w.entries j) (pos 0)) (negatives j ws + 1) (negatives j ws)
