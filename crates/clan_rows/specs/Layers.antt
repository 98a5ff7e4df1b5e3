-- Layers: what one loop or one condition adds to the domains of the statements inside it.
use Rattle.std.specs.Prelude.{ℕ, ◌+◌, min, List, [], ◌∷◌, ◌++◌, ℤ, unsigned_abs, nat_le, Bool, true, false, cond, ◌&&◌, Option, Some, None}
use Rattle.suite_base.specs.Limits.{max_parts, max_rows, max_locals}
use Rattle.scop_data.specs.declared.affines.Affine.{Affine}
use Rattle.clan_extract.specs.Regions.{Comparison, Condition}
use Rattle.clan_extract.specs.Placements.{Head}
use Rattle.clan_extract.specs.Constraints.{Constraint, joined, comparison_parts, remainder_parts, loop_constraints, parts_of_condition}
use Rattle.clan_extract.specs.Counts.{Count, crossed, in_turn, affine_count, remainder_count, loop_count, condition_count}
use Rattle.clan_extract.specs.Refusals.{forms_fit, condition_fits}
use Rattle.clan_extract.specs.RowRanges.{constraints_fit, parts_fit, comparisons_fit}

-- the parts of a layer, how many there are and how large, and whether its forms and rows are in range
pub record LayerData : Type 0 where
  pub count : Count
  pub fits : Bool
  pub parts : List (List Constraint)

-- each count, but at most one past its limit
abbrev pub clipped : Count → Count
clipped count = record { parts = min count.parts (max_parts + 1); rows = min count.rows (max_rows + 1); locals = min count.locals (max_locals + 1) }

-- no count passes its limit
abbrev pub within : Count → Bool
within count = nat_le count.parts max_parts && (nat_le count.rows max_rows && nat_le count.locals max_locals)

-- a layer has no parts where a count passes its limit or something does not fit: no statement inside can use them
abbrev pub layer : Count → Bool → List (List Constraint) → LayerData
layer count fits parts = record { count = clipped count; fits = fits; parts = cond (within count && fits) parts [] }

-- the layer of a loop, and of a condition that is to have this truth
abbrev pub loop_layer : List (List ℕ) → List (List ℕ) → Head → LayerData
loop_layer parameters loops head =
    layer (loop_count head)
    ((forms_fit parameters loops head.start && forms_fit parameters loops head.bound) && constraints_fit (loop_constraints parameters loops head))
    (loop_constraints parameters loops head ∷ [])

abbrev pub condition_layer : List (List ℕ) → List (List ℕ) → Bool → Condition → LayerData
condition_layer parameters loops truth condition =
    layer (condition_count truth condition)
    (condition_fits parameters loops condition && comparisons_fit parameters loops truth condition)
    (parts_of_condition parameters loops truth condition)

-- every part of the one with every part of the other, and the parts of the one and of the other
abbrev pub crossed_layers : LayerData → LayerData → LayerData
crossed_layers a b = layer (crossed a.count b.count) (a.fits && b.fits) (joined a.parts b.parts)

abbrev pub in_turn_layers : LayerData → LayerData → LayerData
in_turn_layers a b = layer (in_turn a.count b.count) (a.fits && b.fits) (a.parts ++ b.parts)

-- the layer of a comparison of two values
abbrev pub comparison_layer : Comparison → Option Affine → Option Affine → LayerData
comparison_layer comparison None g = layer (affine_count comparison) false []
comparison_layer comparison (Some f) None = layer (affine_count comparison) false []
comparison_layer comparison (Some f) (Some g) =
    layer (affine_count comparison) (parts_fit (comparison_parts comparison f g)) (comparison_parts comparison f g)

-- the layer of a comparison of 0 and the remainder of a value by a divisor
abbrev pub remainder_layer : Comparison → Option Affine → Option ℤ → LayerData
remainder_layer comparison None d = layer (remainder_count comparison) false []
remainder_layer comparison (Some f) None = layer (remainder_count comparison) false []
remainder_layer comparison (Some f) (Some d) =
    let parts = remainder_parts comparison f (unsigned_abs d) in layer (remainder_count comparison) (parts_fit parts) parts
