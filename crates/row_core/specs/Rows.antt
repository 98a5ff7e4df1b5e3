-- Rows of coefficients as lists of integers: an affine form is its coefficients and its constant,
-- and a point in homogeneous coordinates ends with the factor of the constant.
use Rattle.std.specs.Prelude.{ℤ, pos, ◌+ℤ◌, ◌*ℤ◌, ℕ, ◌+◌, ◌^◌, ◌≤◌, ◌<◌, List, [], ◌∷◌, length, max, unsigned_abs}
use Rattle.std.proofs.Common.{get_or}

-- the entry at place k; every place past the end has 0
abbrev pub entry : List ℤ → ℕ → ℤ
entry row k = get_or row k (pos 0)

-- the value of a row at a point: the sum of its entries times the point's coordinates
abbrev pub dot : List ℤ → List ℤ → ℤ
dot [] point = pos 0
dot (c ∷ row) [] = pos 0
dot (c ∷ row) (x ∷ point) = (c *ℤ x) +ℤ dot row point

-- the sum of two rows; the longer one keeps its rest
abbrev pub add_rows : List ℤ → List ℤ → List ℤ
add_rows [] b = b
add_rows (x ∷ a) [] = x ∷ a
add_rows (x ∷ a) (y ∷ b) = (x +ℤ y) ∷ add_rows a b

-- the multiple of a row
abbrev pub scale : ℤ → List ℤ → List ℤ
scale p [] = []
scale p (x ∷ row) = (p *ℤ x) ∷ scale p row

-- the combination p a + q b, as far as both rows reach
abbrev pub combined : ℤ → List ℤ → ℤ → List ℤ → List ℤ
combined p [] q b = []
combined p (x ∷ a) q [] = []
combined p (x ∷ a) q (y ∷ b) = ((p *ℤ x) +ℤ (q *ℤ y)) ∷ combined p a q b

-- the weight of two entries under p and q: the sum of the absolute values of the two products
abbrev pub pair_weight : ℤ → ℤ → ℤ → ℤ → ℕ
pair_weight p x q y = unsigned_abs (p *ℤ x) + unsigned_abs (q *ℤ y)

-- the greatest weight of a column of p a + q b; 0 where there is no column
abbrev pub combined_weight : ℤ → List ℤ → ℤ → List ℤ → ℕ
combined_weight p [] q b = 0
combined_weight p (x ∷ a) q [] = 0
combined_weight p (x ∷ a) q (y ∷ b) = max (pair_weight p x q y) (combined_weight p a q b)

-- every entry is a coefficient: its absolute value is below 2^127
pub record AreCoefficients (row : List ℤ) : Type 0 where
  pub bound : (k : ℕ) → unsigned_abs (entry row k) < 2 ^ 127

-- in some column of both rows the two products have absolute values that sum above 2^127 - 1
abbrev pub IsHeavy : ℤ → List ℤ → ℤ → List ℤ → Type 0
IsHeavy p a q b = (k : ℕ) × (k < length a) × (k < length b) × (2 ^ 127 ≤ pair_weight p (entry a k) q (entry b k))
