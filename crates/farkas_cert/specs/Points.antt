-- What the check of a rational point finds, and when it is too heavy for 128 bits.
use Rattle.std.specs.Prelude.{ℤ, pos, ◌*ℤ◌, ◌≤ℤ◌, ℕ, ◌+◌, ◌≡◌, List, [], ◌∷◌, length, max, unsigned_abs}
use Rattle.row_core.specs.Rows.{entry}
use Rattle.relation_core.specs.declared.part_rows.PartRow.{PartRow}
use Rattle.relation_core.specs.Points.{MeetsAll}

-- n numerators and last their common denominator, which is positive; every row holds there
pub record IsPoint (n : ℕ) (rows : List PartRow) (point : List ℤ) : Type 0 where
  pub length_is : length point ≡ n + 1
  pub positive : pos 1 ≤ℤ entry point n
  pub meets : MeetsAll rows point

-- the sum of the absolute values of the products of which a row's value is the sum
abbrev pub dot_weight : List ℤ → List ℤ → ℕ
dot_weight [] point = 0
dot_weight (c ∷ row) [] = 0
dot_weight (c ∷ row) (x ∷ point) = unsigned_abs (c *ℤ x) + dot_weight row point

-- the greatest weight of a row
abbrev pub rows_weight : List PartRow → List ℤ → ℕ
rows_weight [] point = 0
rows_weight (row ∷ rows) point = max (dot_weight row.entries point) (rows_weight rows point)
