-- Layers and bounds as they are made: of parts and rows that may not fit.
use Rattle.std.specs.Prelude.{ℕ, ◌+◌, min, List, [], ◌∷◌, ◌++◌, ℤ, nat_le, Bool, true, false, cond, ◌&&◌, Option, Some, None}
use Rattle.relation_core.specs.declared.part_rows.RowKind.TheVariants.{AtLeast}
use Rattle.scop_data.specs.declared.affines.Affine.{Affine}
use Rattle.clan_extract.specs.Constraints.{FormRow, Constraint, plain_row}
use Rattle.clan_extract.specs.Counts.{Count}
use Rattle.clan_extract.specs.Refusals.{form_fits}
use Rattle.clan_extract.specs.RowRanges.{constraints_fit, parts_fit}
use Rattle.clan_rows.specs.declared.bounds.Side.{Side}
use Rattle.clan_rows.specs.declared.constraints.Constraint.{Constraint as Rows}
use Rattle.clan_rows.specs.declared.loops.Stride.{Stride}
use Rattle.clan_rows.specs.Layers.{LayerData, within, layer}
use Rattle.clan_rows.specs.Bounds.{BoundsData, with_rows, unit_layer, stride_layer}
use Rattle.clan_rows.specs.Contents.{made}

-- a part, the row of a bound and the row of a stride, where they are in range
abbrev pub checked_part : List Constraint → Option (List Constraint)
checked_part part = cond (constraints_fit part) (Some part) None

abbrev pub checked_form_row : Affine → Option FormRow
checked_form_row f = cond (form_fits f) (Some (plain_row AtLeast f)) None

abbrev pub checked_stride : FormRow → Option FormRow
checked_stride row = cond (form_fits row.form) (Some row) None

-- the layer of one part, and of two parts of one row each
abbrev pub single : Count → Option (List Constraint) → LayerData
single count None = record { count = count; fits = false; parts = [] }
single count (Some part) = record { count = count; fits = true; parts = cond (within count) (part ∷ []) [] }

abbrev pub two_rows : Count
two_rows = record { parts = 2; rows = 1; locals = 0 }

abbrev pub double : Option (List Constraint) → Option (List Constraint) → LayerData
double None q = record { count = two_rows; fits = false; parts = [] }
double (Some p) None = record { count = two_rows; fits = false; parts = [] }
double (Some p) (Some q) = record { count = two_rows; fits = true; parts = p ∷ (q ∷ []) }

-- the layer of one part, as it is meant
abbrev pub part_layer : Count → List Constraint → LayerData
part_layer count part = layer count (parts_fit (part ∷ [])) (part ∷ [])

-- one part with each of the others behind it, and every part of the one with every part of the other
abbrev pub each_behind : List Rows → List (List Rows) → List (List Rows)
each_behind left [] = []
each_behind left (q ∷ qs) = (left ++ q) ∷ each_behind left qs

abbrev pub all_joined : List (List Rows) → List (List Rows) → List (List Rows)
all_joined [] right = []
all_joined (p ∷ ps) right = each_behind p right ++ all_joined ps right

-- the bounds with one row more
abbrev pub with_one : Option FormRow → BoundsData → BoundsData
with_one None old = with_rows old 1 false []
with_one (Some row) old = with_rows old 1 true (row ∷ [])

-- the part of bounds, and with the row of a stride
abbrev pub bounds_part : BoundsData → Option (List Constraint)
bounds_part b = cond b.fits (Some (record { rows = b.rows; has_local = false } ∷ [])) None

abbrev pub with_stride_part : BoundsData → Option FormRow → Option (List Constraint)
with_stride_part b None = None
with_stride_part b (Some row) =
    cond b.fits (Some (record { rows = b.rows; has_local = false } ∷ (record { rows = row ∷ []; has_local = true } ∷ []))) None

-- the layer of a loop with these bounds
abbrev pub loop_of : BoundsData → Option Stride → LayerData
loop_of b None = unit_layer b
loop_of b (Some s) = stride_layer b s.side (made s.start) s.step
