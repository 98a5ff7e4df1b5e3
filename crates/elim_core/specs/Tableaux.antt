-- The working rows of an elimination, as contracts see them.
use Rattle.std.specs.Prelude.{◌≡◌, ℕ, ◌+◌, ◌<◌, List, length}
use Rattle.relation_core.specs.declared.part_rows.PartRow.{PartRow}
use Rattle.relation_core.specs.Systems.{System, columns}
use Rattle.elim_core.specs.Elimination.{started}
use Rattle.elim_core.specs.RowLists.{AllRows, Wide}
use Rattle.elim_core.specs.Reductions.{Reduces}

-- working rows over some variables, each of this width
pub record Stage : Type 0 where
  pub variables : ℕ
  pub width : ℕ
  pub rows : List PartRow

-- the constant stands behind the variables, and all rows are equally wide
pub record IsStage (n width : ℕ) (rows : List PartRow) : Type 0 where
  pub fits : n < width
  pub wide : AllRows (Wide width) rows

-- a stage with other rows
abbrev pub with_rows : Stage → List PartRow → Stage
with_rows stage rows = record { variables = stage.variables; width = stage.width; rows = rows }

-- the stage with which the elimination of a system begins
abbrev pub starting : System → Stage
starting system = record { variables = columns system.shape; width = columns system.shape + 1 + length system.rows; rows = started system.rows }

-- a stage after steps that lose no row's meaning
pub record ReducesTo (before after : Stage) : Type 0 where
  pub variables : after.variables ≡ before.variables
  pub width : after.width ≡ before.width
  pub rows : Reduces before.variables before.rows after.rows
