-- Rows to work with in place of the rows of a base.
use Rattle.std.specs.Prelude.{◌≡◌, ◌⊎◌, ℕ, List, [], ◌∷◌, ◌++◌, length, take, replicate, false, Option, Some, None, ℤ, pos, ◌≤ℤ◌}
use Rattle.relation_core.specs.declared.part_rows.PartRow.{PartRow}
use Rattle.relation_core.specs.Systems.{System, columns}
use Rattle.relation_core.specs.Points.{MeetsAll, HasPoint}
use Rattle.farkas_cert.specs.Certificates.{Valid}
use Rattle.elim_core.specs.Elimination.{is_constant, last_variable, substituted}
use Rattle.elim_core.specs.Multipliers.{Derived}
use Rattle.elim_core.specs.RowLists.{AllRows, Wide}

-- where the rows after some steps hold, over n variables, so do the rows before them
abbrev pub KeepsPoints : ℕ → List PartRow → List PartRow → Type 0
KeepsPoints n before after = (x : List ℤ) (q : ℤ) → length x ≡ n → pos 1 ≤ℤ q → MeetsAll after (x ++ (q ∷ [])) → MeetsAll before (x ++ (q ∷ []))

-- steps that keep what the multipliers are, whatever the system, and the number of entries, and lose
-- no row's meaning
pub record Reduces (n : ℕ) (before after : List PartRow) : Type 0 where
  pub widths : (width : ℕ) → AllRows (Wide width) before → AllRows (Wide width) after
  pub derives : (base : List PartRow) → AllRows (Derived n base) before → AllRows (Derived n base) after
  pub keeps : KeepsPoints n before after

-- combinations of a base's rows that hold only where the base does
pub record IsReduction (n : ℕ) (base rows : List PartRow) : Type 0 where
  pub derived : AllRows (Derived n base) rows
  pub keeps : KeepsPoints n base rows

-- the equality e is substituted in the rows, or they are left as they are
abbrev pub Relieved : ℕ → PartRow → List PartRow → List PartRow → Type 0
Relieved n e before after = (after ≡ before) ⊎ ((is_constant n e ≡ false) × (after ≡ substituted (last_variable n e.entries) e before))

-- a working row with zeros for the multipliers of further rows
abbrev pub widened : ℕ → PartRow → PartRow
widened count w = record w { entries = w.entries ++ replicate count (pos 0) }

-- a system of the base's shape whose rows begin with the base's
pub record BeginsWith (system base : System) : Type 0 where
  pub shape : system.shape ≡ base.shape
  pub rows : take (length base.rows) system.rows ≡ base.rows

-- what an elimination has found is so: a rational point, or a valid certificate
abbrev pub Settles : System → Option (List ℤ) → Type 0
Settles system None = HasPoint (columns system.shape) system.rows
Settles system (Some certificate) = Valid (columns system.shape) system.rows certificate
