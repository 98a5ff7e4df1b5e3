-- Farkas certificates: when a list of multipliers is valid for a system of n columns, what that
-- means, and when its check is too heavy for 128 bits.
use Rattle.std.specs.Prelude.{ℤ, pos, ◌≤ℤ◌, ◌<ℤ◌, ℕ, ◌+◌, ◌^◌, ◌≤◌, ◌<◌, ◌≡◌, List, [], ◌∷◌, length, drop}
use Rattle.relation_core.specs.declared.part_rows.PartRow.{PartRow}
use Rattle.relation_core.specs.declared.part_rows.RowKind.{RowKind}
use Rattle.relation_core.specs.declared.part_rows.RowKind.TheVariants.{Equal, AtLeast}
use Rattle.relation_core.specs.Points.{RationalPoint, column, column_weight}

-- an inequality may only be multiplied by what is not negative, an equality by anything
abbrev pub AllowedOne : RowKind → ℤ → Type 0
AllowedOne Equal l = Unit {0}
AllowedOne AtLeast l = pos 0 ≤ℤ l

-- there is one multiplier for each row, and each is allowed
abbrev pub Allowed : List PartRow → List ℤ → Type 0
Allowed [] [] = Unit {0}
Allowed [] (l ∷ ls) = ⊥
Allowed (row ∷ rows) [] = ⊥
Allowed (row ∷ rows) (l ∷ ls) = AllowedOne row.kind l × Allowed rows ls

-- no variable is left in the combination
abbrev pub Cleared : ℕ → List PartRow → List ℤ → Type 0
Cleared n rows ls = (k : ℕ) → k < n → column ls rows k ≡ pos 0

-- allowed multipliers whose combination has no variable and a negative constant
pub record Valid (n : ℕ) (rows : List PartRow) (multipliers : List ℤ) : Type 0 where
  pub allowed : Allowed rows multipliers
  pub cleared : Cleared n rows multipliers
  pub contradicts : column multipliers rows n <ℤ pos 0

-- no integers for the n columns and no factor q of at least 1 meet every row
abbrev pub HasNoPoint : ℕ → List PartRow → Type 0
HasNoPoint n rows = (x : List ℤ) (q : ℤ) → length x ≡ n → RationalPoint rows x q → ⊥

-- a system with a valid certificate has no rational point
abbrev pub ValidMeansEmpty : Type 0
ValidMeansEmpty = (n : ℕ) (rows : List PartRow) (multipliers : List ℤ) → Valid n rows multipliers → HasNoPoint n rows

-- some column among the first w has absolute products that sum above 2^127 - 1
pub record HasHeavyColumn (w : ℕ) (rows : List PartRow) (multipliers : List ℤ) : Type 0 where
  pub at : ℕ
  pub within : at < w
  pub heavy : 2 ^ 127 ≤ column_weight multipliers rows at

-- there is one multiplier for each row, and some column or the constant is too heavy
pub record IsTooHeavy (n : ℕ) (rows : List PartRow) (multipliers : List ℤ) : Type 0 where
  pub lengths : length multipliers ≡ length rows
  pub column : HasHeavyColumn (n + 1) rows multipliers

-- each of the first w columns has absolute products that sum to at most 2^127 - 1
abbrev pub IsLight : ℕ → List PartRow → List ℤ → Type 0
IsLight w rows multipliers = (k : ℕ) → k < w → column_weight multipliers rows k < 2 ^ 127

-- the multipliers before place i matter to no column: they are 0
pub record BeginsAt (multipliers : List ℤ) (i : ℕ) : Type 0 where
  pub within : i ≤ length multipliers
  pub value : (rows : List PartRow) (k : ℕ) → column (drop i multipliers) (drop i rows) k ≡ column multipliers rows k
  pub weight : (rows : List PartRow) (k : ℕ) → column_weight (drop i multipliers) (drop i rows) k ≡ column_weight multipliers rows k
