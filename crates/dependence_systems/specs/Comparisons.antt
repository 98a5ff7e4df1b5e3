-- Rows that compare a value of the source with one of the target, by what they compare.
use Rattle.std.specs.Prelude.{ℤ, pos, negsuc, ◌+ℤ◌, ◌*ℤ◌, unsigned_abs, ℕ, ◌+◌, ◌<◌, ◌≡◌, length, All, Bool, true, false, not, List, [], ◌∷◌}
use Rattle.std.specs.Ordering.{int_eq}
use Rattle.row_core.specs.Rows.{scale, pair_weight}
use Rattle.relation_core.specs.declared.part_rows.PartRow.{PartRow}
use Rattle.relation_core.specs.declared.part_rows.RowKind.{RowKind}
use Rattle.relation_core.specs.declared.part_rows.RowKind.TheVariants.{Equal, AtLeast}
use Rattle.relation_core.specs.declared.shapes.Shape.{Shape}
use Rattle.relation_core.specs.Systems.{System, row_at}
use Rattle.scop_data.specs.declared.affines.Affine.{Affine}
use Rattle.scop_core.specs.SolvedRows.{zeros, HasSizes}
use Rattle.dependence_systems.specs.declared.widths.Widths.{Widths}
use Rattle.dependence_systems.specs.declared.widths.Topic.{Topic}
use Rattle.dependence_systems.specs.declared.widths.Topic.TheVariants.{Context, SourcePart, TargetPart, SourceFloors, TargetFloors}
use Rattle.dependence_systems.specs.declared.widths.Comparison.{Comparison}
use Rattle.dependence_systems.specs.declared.widths.Comparison.TheVariants.{Subscripts, EqualLevels, LessLevels, GreaterLevels}
use Rattle.dependence_systems.specs.Systems.{summed, summed_weight, weight_between}

-- the factor of the source in a difference of source and target, or of target and source
abbrev pub factor_of : Bool → ℤ
factor_of false = pos 1
factor_of true = negsuc 0

-- what is added to a difference that is to be at least 1
abbrev pub one_of : Bool → ℤ
one_of false = pos 0
one_of true = negsuc 0

-- the source is taken from the target, and not the target from the source
abbrev pub is_turned : Comparison → Bool
is_turned Subscripts = false
is_turned EqualLevels = false
is_turned LessLevels = true
is_turned GreaterLevels = false

-- what is added to the difference
abbrev pub added : Comparison → ℤ
added Subscripts = pos 0
added EqualLevels = pos 0
added LessLevels = negsuc 0
added GreaterLevels = negsuc 0

abbrev pub kind_of : Comparison → RowKind
kind_of Subscripts = Equal
kind_of EqualLevels = Equal
kind_of LessLevels = AtLeast
kind_of GreaterLevels = AtLeast

-- how many coefficients of floors a value has, where there are so many floors
abbrev pub floor_count : Comparison → ℕ → ℕ
floor_count Subscripts floors = 0
floor_count EqualLevels floors = floors
floor_count LessLevels floors = floors
floor_count GreaterLevels floors = floors

-- the columns of floors, of which there are so many, for a value under a factor
abbrev pub floor_columns : Comparison → ℕ → ℤ → Affine → List ℤ
floor_columns Subscripts floors factor value = zeros floors
floor_columns EqualLevels floors factor value = scale factor value.floors
floor_columns LessLevels floors factor value = scale factor value.floors
floor_columns GreaterLevels floors factor value = scale factor value.floors

-- its constant, and the sum of the absolute values of the summands of that
abbrev pub constant_for : Comparison → ℤ → ℤ → ℤ
constant_for c a b = ((factor_of (is_turned c) *ℤ a) +ℤ (factor_of (not (is_turned c)) *ℤ b)) +ℤ added c

abbrev pub constant_weight : Comparison → ℤ → ℤ → ℕ
constant_weight c a b = pair_weight (factor_of (is_turned c)) a (factor_of (not (is_turned c))) b + unsigned_abs (added c)

-- the entries of the row that compares two values
abbrev pub entries_for : Comparison → Widths → Affine → Affine → List ℤ
entries_for c w a b =
    summed w (factor_of (is_turned c)) (factor_of (not (is_turned c))) (added c)
    (floor_columns c w.source_floors (factor_of (is_turned c)) a) (floor_columns c w.target_floors (factor_of (not (is_turned c))) b) a b

-- the row that compares two values
abbrev pub row_for : Comparison → Widths → Affine → Affine → PartRow
row_for c w a b = record { kind = kind_of c; entries = entries_for c w a b }

-- the greatest sum of the absolute values of an entry's summands in it
abbrev pub weight_for : Comparison → Affine → Affine → ℕ
weight_for c a b = summed_weight (factor_of (is_turned c)) (factor_of (not (is_turned c))) (added c) a b

-- the greatest one over two lists of values
abbrev pub weights_for : Comparison → List Affine → List Affine → ℕ
weights_for c xs ys = weight_between (factor_of (is_turned c)) (factor_of (not (is_turned c))) (added c) xs ys

-- a value of the source and one of the target have coefficients for the columns of a system with so many parameters
pub record Compares (c : Comparison) (w : Widths) (parameters : ℕ) (a b : Affine) : Type 0 where
  pub source : HasSizes w.source (floor_count c w.source_floors) parameters a
  pub target : HasSizes w.target (floor_count c w.target_floors) parameters b

-- so have all values of two lists
pub record AllCompare (c : Comparison) (w : Widths) (parameters : ℕ) (xs ys : List Affine) : Type 0 where
  pub source : All (HasSizes w.source (floor_count c w.source_floors) parameters) xs
  pub target : All (HasSizes w.target (floor_count c w.target_floors) parameters) ys

-- how many entries of a row are of iterators and locals
abbrev pub reach_of : Topic → Widths → ℕ
reach_of Context w = 0
reach_of SourcePart w = w.source + w.source_part
reach_of TargetPart w = w.target + w.target_part
reach_of SourceFloors w = w.source + w.source_floors
reach_of TargetFloors w = w.target + w.target_floors

-- each row has so many entries
abbrev pub AreLong : ℕ → List PartRow → Type 0
AreLong n rows = (k : ℕ) → k < length rows → length (row_at rows k).entries ≡ n

-- two beta vectors begin with one beta, and both go on behind it
abbrev pub starts_common : List ℤ → List ℤ → Bool
starts_common [] q = false
starts_common (b ∷ []) q = false
starts_common (b ∷ (b' ∷ p)) [] = false
starts_common (b ∷ (b' ∷ p)) (c ∷ []) = false
starts_common (b ∷ (b' ∷ p)) (c ∷ (c' ∷ q)) = int_eq b c

-- the columns of a part of one side are those of which its rows speak, and so many parameters
pub record HasColumns (topic : Topic) (w : Widths) (parameters : ℕ) (shape : Shape) : Type 0 where
  pub own : shape.outputs + shape.inputs + shape.locals ≡ reach_of topic w
  pub parameters_are : shape.parameters ≡ parameters

-- so it is with the context, two domain parts and the floors of two sides
pub record SharedFit (w : Widths) (context source_part target_part source_floors target_floors : System) : Type 0 where
  pub of_context : HasColumns Context w context.shape.parameters context.shape
  pub of_source_part : HasColumns SourcePart w context.shape.parameters source_part.shape
  pub of_target_part : HasColumns TargetPart w context.shape.parameters target_part.shape
  pub of_source_floors : HasColumns SourceFloors w context.shape.parameters source_floors.shape
  pub of_target_floors : HasColumns TargetFloors w context.shape.parameters target_floors.shape
