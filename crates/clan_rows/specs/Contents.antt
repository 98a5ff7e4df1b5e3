-- What values of the code say: forms, rows, constraints, bounds and layers.
use Rattle.std.specs.Prelude.{◌≡◌, List, [], map, length, Option, Some, None}
use Rattle.scop_data.specs.declared.affines.Affine.{Affine}
use Rattle.clan_extract.specs.Constraints.{FormRow, Constraint}
use Rattle.clan_extract.specs.Counts.{Count}
use Rattle.clan_rows.specs.declared.forms.Form.{Form}
use Rattle.clan_rows.specs.declared.constraints.FormRow.{FormRow as Row}
use Rattle.clan_rows.specs.declared.constraints.Constraint.{Constraint as Rows}
use Rattle.clan_rows.specs.declared.counts.Count.{Count as Numbers}
use Rattle.clan_rows.specs.declared.layers.Layer.{Layer}
use Rattle.clan_rows.specs.declared.bounds.Bounds.{Bounds}
use Rattle.clan_rows.specs.Layers.{LayerData}
use Rattle.clan_rows.specs.Bounds.{BoundsData}

abbrev pub affine_of : Form → Affine
affine_of f = record { iterators = f.iterators; floors = []; parameters = f.parameters; constant = f.constant }

-- a form that fits, or none
abbrev pub made : Option Form → Option Affine
made None = None
made (Some f) = Some (affine_of f)

-- two forms have as many coefficients of loops, and of parameters; of two that may be none, those that are
pub record HaveOneShape (f g : Form) : Type 0 where
  pub iterators : length f.iterators ≡ length g.iterators
  pub parameters : length f.parameters ≡ length g.parameters

abbrev pub AgreeInShape : Option Form → Option Form → Type 0
AgreeInShape None g = Unit {0}
AgreeInShape (Some f) None = Unit {0}
AgreeInShape (Some f) (Some g) = HaveOneShape f g

abbrev pub row_of : Row → FormRow
row_of row = record { kind = row.kind; form = affine_of row.form; local = row.local }

abbrev pub constraint_of : Rows → Constraint
constraint_of c = record { rows = map row_of c.rows; has_local = c.has_local }

-- a part, a part that may not fit, and parts
abbrev pub part_of : List Rows → List Constraint
part_of part = map constraint_of part

abbrev pub made_part : Option (List Rows) → Option (List Constraint)
made_part None = None
made_part (Some part) = Some (part_of part)

abbrev pub made_row : Option Row → Option FormRow
made_row None = None
made_row (Some row) = Some (row_of row)

abbrev pub count_of : Numbers → Count
count_of n = record { parts = n.parts; rows = n.rows; locals = n.locals }

-- what bounds and layers say
abbrev pub bounds_of : Bounds → BoundsData
bounds_of b = record { rows = map row_of b.rows; count = b.count; fits = b.fits }

abbrev pub said : Layer → LayerData
said l = record { count = count_of l.count; fits = l.fits; parts = map part_of l.parts }
