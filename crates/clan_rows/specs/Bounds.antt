-- The rows of a loop's start and bound, one expression at a time, and the layer of the loop.
use Rattle.std.specs.Prelude.{ℕ, ◌+◌, min, List, [], ◌∷◌, ◌++◌, ℤ, pos, negsuc, neg_ℤ, ◌+ℤ◌, ◌-ℤ◌, ◌*ℤ◌, unsigned_abs, nat_le, nat_eq, Bool, true, false, cond, ◌&&◌, Option, Some, None}
use Rattle.suite_base.specs.Limits.{max_rows}
use Rattle.relation_core.specs.declared.part_rows.RowKind.TheVariants.{Equal, AtLeast}
use Rattle.scop_data.specs.declared.affines.Affine.{Affine}
use Rattle.clan_extract.specs.Regions.{Expression, Comparison, IsLess, IsLessOrEqual, IsGreater, IsGreaterOrEqual, IsEqual, IsUnequal}
use Rattle.clan_extract.specs.Forms.{opposite_of}
use Rattle.clan_extract.specs.Placements.{Head}
use Rattle.clan_extract.specs.Constraints.{FormRow, Constraint, plain_row, with_iterator, lower_rows, upper_rows}
use Rattle.clan_extract.specs.Counts.{one_part, lower_count, upper_count}
use Rattle.clan_extract.specs.Refusals.{forms_fit}
use Rattle.clan_extract.specs.RowRanges.{form_rows_fit}
use Rattle.clan_rows.specs.declared.bounds.Side.{Side}
use Rattle.clan_rows.specs.declared.bounds.Side.TheVariants.{Lower, Upper}
use Rattle.clan_rows.specs.Fitting.{in_range, checked_form}
use Rattle.clan_rows.specs.Layers.{LayerData, layer}

-- the rows of bounds, how many there are, and whether their forms and they are in range
pub record BoundsData : Type 0 where
  pub rows : List FormRow
  pub count : ℕ
  pub fits : Bool

-- there are no rows where they are too many or something does not fit; the count is at most one past the limit
abbrev pub bounds : ℕ → Bool → List FormRow → BoundsData
bounds count fits rows = record { rows = cond (nat_le count max_rows && fits) rows []; count = min count (max_rows + 1); fits = fits }

abbrev pub no_bounds : BoundsData
no_bounds = bounds 0 true []

-- the bounds and so many more rows
abbrev pub with_rows : BoundsData → ℕ → Bool → List FormRow → BoundsData
with_rows old count fits rows = bounds (old.count + count) (old.fits && fits) (old.rows ++ rows)

-- what is added to the iterator: behind `>` and `<` it is 1 less and 1 more
abbrev pub shift : Side → Bool → ℤ
shift Lower strict = cond strict (negsuc 0) (pos 0)
shift Upper strict = cond strict (pos 1) (pos 0)

-- the rows of an expression that bounds on this side, and their number
abbrev pub side_rows : List (List ℕ) → List (List ℕ) → Side → Bool → Expression → List FormRow
side_rows parameters loops Lower strict e = lower_rows parameters loops (shift Lower strict) e
side_rows parameters loops Upper strict e = upper_rows parameters loops (shift Upper strict) e

abbrev pub side_count : Side → Expression → ℕ
side_count Lower e = lower_count e
side_count Upper e = upper_count e

-- the bounds with those of an expression
abbrev pub with_bound : List (List ℕ) → List (List ℕ) → Side → Bool → Expression → BoundsData → BoundsData
with_bound parameters loops side strict e old =
    let rows = side_rows parameters loops side strict e
    in with_rows old (side_count side e) (forms_fit parameters loops e && form_rows_fit false rows) rows

-- c times the iterator against the bound f on this side, and z
abbrev pub side_form : Side → ℤ → Affine → ℤ → Affine
side_form Lower c f z = with_iterator c (opposite_of f) z
side_form Upper c f z = with_iterator (neg_ℤ c) f z

-- the constants of the rows of values, and of quotients by d that are rounded up or down
abbrev pub value_shift : Side → Bool → ℤ
value_shift Lower strict = shift Lower strict
value_shift Upper strict = neg_ℤ (shift Upper strict)

abbrev pub ceiling_shift : Side → Bool → ℤ → ℤ
ceiling_shift Lower strict d = d *ℤ shift Lower strict
ceiling_shift Upper strict d = neg_ℤ (d *ℤ shift Upper strict) +ℤ (d -ℤ pos 1)

abbrev pub floor_shift : Side → Bool → ℤ → ℤ
floor_shift Lower strict d = (d *ℤ shift Lower strict) +ℤ (d -ℤ pos 1)
floor_shift Upper strict d = neg_ℤ (d *ℤ shift Upper strict)

-- the row of a value that bounds on this side, of a quotient rounded up, and of one rounded down
abbrev pub value_row : Side → Bool → Affine → List FormRow
value_row side strict f = plain_row AtLeast (side_form side (pos 1) f (value_shift side strict)) ∷ []

abbrev pub ceiling_row : Side → Bool → Affine → ℤ → List FormRow
ceiling_row side strict f d = plain_row AtLeast (side_form side d f (ceiling_shift side strict d)) ∷ []

abbrev pub floor_row : Side → Bool → Affine → ℤ → List FormRow
floor_row side strict f d = plain_row AtLeast (side_form side d f (floor_shift side strict d)) ∷ []

-- the bounds with one more row, of a value and of quotients
abbrev pub with_value : Side → Bool → Option Affine → BoundsData → BoundsData
with_value side strict None old = with_rows old 1 false []
with_value side strict (Some f) old = with_rows old 1 (form_rows_fit false (value_row side strict f)) (value_row side strict f)

abbrev pub with_ceiling : Side → Bool → Option Affine → Option ℤ → BoundsData → BoundsData
with_ceiling side strict None d old = with_rows old 1 false []
with_ceiling side strict (Some f) None old = with_rows old 1 false []
with_ceiling side strict (Some f) (Some d) old = with_rows old 1 (form_rows_fit false (ceiling_row side strict f d)) (ceiling_row side strict f d)

abbrev pub with_floor : Side → Bool → Option Affine → Option ℤ → BoundsData → BoundsData
with_floor side strict None d old = with_rows old 1 false []
with_floor side strict (Some f) None old = with_rows old 1 false []
with_floor side strict (Some f) (Some d) old = with_rows old 1 (form_rows_fit false (floor_row side strict f d)) (floor_row side strict f d)

-- the sides of a loop's start and of its bound, and whether the bound is out of reach itself
abbrev pub start_side : Comparison → Side
start_side IsGreater = Upper
start_side IsGreaterOrEqual = Upper
start_side comparison = Lower

abbrev pub bound_side : Comparison → Side
bound_side IsGreater = Lower
bound_side IsGreaterOrEqual = Lower
bound_side comparison = Upper

abbrev pub is_strict : Comparison → Bool
is_strict IsLess = true
is_strict IsGreater = true
is_strict comparison = false

-- the bounds of a loop: those of its start, and then those of its bound
abbrev pub loop_bounds : List (List ℕ) → List (List ℕ) → Head → BoundsData
loop_bounds parameters loops head =
    with_bound parameters loops (bound_side head.comparison) (is_strict head.comparison) head.bound
    (with_bound parameters loops (start_side head.comparison) false head.start no_bounds)

-- the row that asks for multiples of a step, from a start that bounds on this side
abbrev pub stride_row : Side → Affine → ℤ → FormRow
stride_row side f step = record { kind = Equal; form = side_form side (pos 1) f (pos 0); local = neg_ℤ (pos (unsigned_abs step)) }

-- the layer of a loop with these bounds, with a step of 1, and with a greater one
abbrev pub unit_layer : BoundsData → LayerData
unit_layer b = layer (one_part b.count 0) b.fits ((record { rows = b.rows; has_local = false } ∷ []) ∷ [])

abbrev pub stride_layer : BoundsData → Side → Option Affine → Option ℤ → LayerData
stride_layer b side None step = layer (one_part (b.count + 1) 1) false []
stride_layer b side (Some f) None = layer (one_part (b.count + 1) 1) false []
stride_layer b side (Some f) (Some step) =
    let row = stride_row side f step
    in layer (one_part (b.count + 1) 1) (b.fits && form_rows_fit true (row ∷ []))
    ((record { rows = b.rows; has_local = false } ∷ (record { rows = row ∷ []; has_local = true } ∷ [])) ∷ [])

-- the layer of a loop by its bounds
abbrev pub layer_of_bounds : List (List ℕ) → List (List ℕ) → Head → LayerData
layer_of_bounds parameters loops head =
    let b = loop_bounds parameters loops head
    in cond (nat_eq (unsigned_abs head.step) 1) (unit_layer b)
    (stride_layer b (start_side head.comparison) (checked_form parameters loops head.start) (in_range head.step))
