-- What the multipliers of a working row are: the row is the combination of a system's rows by them,
-- and they are allowed.
use Rattle.std.specs.Prelude.{◌≡◌, ℕ, ◌+◌, ◌≤◌, List, [], ◌∷◌, length, drop, ℤ, pos}
use Rattle.row_core.specs.Rows.{entry}
use Rattle.relation_core.specs.declared.part_rows.PartRow.{PartRow}
use Rattle.relation_core.specs.declared.part_rows.RowKind.{RowKind}
use Rattle.relation_core.specs.declared.part_rows.RowKind.TheVariants.{Equal, AtLeast}
use Rattle.relation_core.specs.Points.{column}
use Rattle.farkas_cert.specs.Certificates.{Allowed}

-- a multiplier that stays allowed under every factor
abbrev pub FreeOne : RowKind → ℤ → Type 0
FreeOne Equal l = Unit {0}
FreeOne AtLeast l = l ≡ pos 0

abbrev pub Free : List PartRow → List ℤ → Type 0
Free [] [] = Unit {0}
Free [] (l ∷ ls) = ⊥
Free (r ∷ rows) [] = ⊥
Free (r ∷ rows) (l ∷ ls) = FreeOne r.kind l × Free rows ls

-- an inequality's multipliers are allowed, an equality's under every factor
abbrev pub AllowedFor : RowKind → List PartRow → List ℤ → Type 0
AllowedFor Equal rows ls = Free rows ls
AllowedFor AtLeast rows ls = Allowed rows ls

-- a working row is the combination of the system's rows by its multipliers
pub record IsDerived (n : ℕ) (rows : List PartRow) (kind : RowKind) (cells : List ℤ) : Type 0 where
  pub width : length cells ≡ n + 1 + length rows
  pub combines : (k : ℕ) → k ≤ n → entry cells k ≡ column (drop (n + 1) cells) rows k
  pub allowed : AllowedFor kind rows (drop (n + 1) cells)

abbrev pub Derived : ℕ → List PartRow → PartRow → Type 0
Derived n rows w = IsDerived n rows w.kind w.entries
