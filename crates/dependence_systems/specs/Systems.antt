-- The rows of a dependence system, over unbounded integers.
use Rattle.std.specs.Prelude.{ℤ, pos, negsuc, ◌+ℤ◌, ◌*ℤ◌, ℕ, zero, suc, ◌+◌, List, [], ◌∷◌, ◌++◌, map, take, drop, length, max, unsigned_abs}
use Rattle.row_core.specs.Rows.{scale, combined, combined_weight, pair_weight}
use Rattle.relation_core.specs.Systems.{System, no_rows}
use Rattle.relation_core.specs.declared.shapes.Shape.{Shape}
use Rattle.relation_core.specs.declared.part_rows.PartRow.{PartRow}
use Rattle.relation_core.specs.declared.part_rows.RowKind.TheVariants.{Equal, AtLeast}
use Rattle.scop_data.specs.declared.affines.Affine.{Affine}
use Rattle.scop_data.specs.declared.accesses.Access.{Access}
use Rattle.scop_data.specs.declared.accesses.AccessKind.TheVariants.{Read}
use Rattle.scop_data.specs.declared.schedules.Schedule.{Schedule}
use Rattle.scop_core.specs.SolvedRows.{zeros, floor_part}
use Rattle.dependence_systems.specs.declared.dependences.Dep.{Dep}
use Rattle.dependence_systems.specs.declared.widths.Widths.{Widths}
use Rattle.dependence_systems.specs.declared.widths.Topic.{Topic}
use Rattle.dependence_systems.specs.declared.widths.Topic.TheVariants.{Context, SourcePart, TargetPart, SourceFloors, TargetFloors}
use Rattle.scop_core.specs.LevelOrder.{common_loops}
use Rattle.dependence_systems.specs.Sides.{Side, member, member_or, no_side}

-- what a system is made of: the context, and of source and target a domain part, an access and a schedule
pub record Pairing : Type 0 where
  pub context : System
  pub source_part : System
  pub target_part : System
  pub source_access : Access
  pub target_access : Access
  pub source_schedule : Schedule
  pub target_schedule : Schedule

-- these in order
abbrev pub pairing : System → System → System → Access → Access → Schedule → Schedule → Pairing
pairing context source_part target_part source_access target_access source target = record {
  context = context;
  source_part = source_part;
  target_part = target_part;
  source_access = source_access;
  target_access = target_access;
  source_schedule = source;
  target_schedule = target;
}

-- the numbers of columns for two domain parts and two schedules, but for the parameters
abbrev pub widths_for : System → System → Schedule → Schedule → Widths
widths_for source_part target_part source target = record {
  source = source_part.shape.outputs;
  target = target_part.shape.outputs;
  source_part = source_part.shape.locals;
  target_part = target_part.shape.locals;
  source_floors = length source.floors;
  target_floors = length target.floors;
}

abbrev pub widths_of : Pairing → Widths
widths_of m = widths_for m.source_part m.target_part m.source_schedule m.target_schedule

-- source iterators, target iterators, locals of the source part, of the target part, source floors,
-- target floors, and then the parameters and the constant
abbrev pub in_columns : List ℤ → List ℤ → List ℤ → List ℤ → List ℤ → List ℤ → List ℤ → List ℤ
in_columns s t p q f g rest = s ++ t ++ p ++ q ++ f ++ g ++ rest

-- a row of iterators, locals and the rest in the columns of a system; a row of the context has the rest alone
abbrev pub placed : Topic → Widths → List ℤ → List ℤ
placed Context w row =
    in_columns (zeros w.source) (zeros w.target) (zeros w.source_part) (zeros w.target_part) (zeros w.source_floors) (zeros w.target_floors) row
placed SourcePart w row =
    in_columns (take w.source row) (zeros w.target) (take w.source_part (drop w.source row)) (zeros w.target_part)
    (zeros w.source_floors) (zeros w.target_floors) (drop w.source_part (drop w.source row))
placed TargetPart w row =
    in_columns (zeros w.source) (take w.target row) (zeros w.source_part) (take w.target_part (drop w.target row))
    (zeros w.source_floors) (zeros w.target_floors) (drop w.target_part (drop w.target row))
placed SourceFloors w row =
    in_columns (take w.source row) (zeros w.target) (zeros w.source_part) (zeros w.target_part)
    (take w.source_floors (drop w.source row)) (zeros w.target_floors) (drop w.source_floors (drop w.source row))
placed TargetFloors w row =
    in_columns (zeros w.source) (take w.target row) (zeros w.source_part) (zeros w.target_part) (zeros w.source_floors)
    (take w.target_floors (drop w.target row)) (drop w.target_floors (drop w.target row))

-- rows in the columns of a system
abbrev pub placed_rows : Topic → Widths → List PartRow → List PartRow
placed_rows topic w rows = map (λ row. record { kind = row.kind; entries = placed topic w row.entries }) rows

-- the row i a + j b + k of a value a of the source and b of the target, which have these coefficients of floors
abbrev pub summed : Widths → ℤ → ℤ → ℤ → List ℤ → List ℤ → Affine → Affine → List ℤ
summed w i j k f g a b =
    in_columns (scale i a.iterators) (scale j b.iterators) (zeros w.source_part) (zeros w.target_part) f g
    (combined i a.parameters j b.parameters ++ (((i *ℤ a.constant) +ℤ (j *ℤ b.constant)) +ℤ k) ∷ [])

-- source minus target = 0, of two subscripts, which use no floors
abbrev pub subscript_row : Widths → Affine → Affine → PartRow
subscript_row w a b = record { kind = Equal; entries = summed w (pos 1) (negsuc 0) (pos 0) (zeros w.source_floors) (zeros w.target_floors) a b }

-- source minus target = 0, of two levels
abbrev pub equal_row : Widths → Affine → Affine → PartRow
equal_row w a b = record { kind = Equal; entries = summed w (pos 1) (negsuc 0) (pos 0) (scale (pos 1) a.floors) (scale (negsuc 0) b.floors) a b }

-- target minus source minus 1 >= 0, of two levels
abbrev pub less_row : Widths → Affine → Affine → PartRow
less_row w a b = record { kind = AtLeast; entries = summed w (negsuc 0) (pos 1) (negsuc 0) (scale (negsuc 0) a.floors) (scale (pos 1) b.floors) a b }

-- source minus target minus 1 >= 0, of two levels
abbrev pub greater_row : Widths → Affine → Affine → PartRow
greater_row w a b = record { kind = AtLeast; entries = summed w (pos 1) (negsuc 0) (negsuc 0) (scale (pos 1) a.floors) (scale (negsuc 0) b.floors) a b }

-- one row for each two values at one place
abbrev pub rows_between : (Affine → Affine → PartRow) → List Affine → List Affine → List PartRow
rows_between row [] ys = []
rows_between row (a ∷ xs) [] = []
rows_between row (a ∷ xs) (b ∷ ys) = row a b ∷ rows_between row xs ys

-- the columns of a system
abbrev pub shape_with : Widths → ℕ → Shape
shape_with w parameters = record {
  outputs = w.source;
  inputs = w.target;
  locals = w.source_part + w.target_part + w.source_floors + w.target_floors;
  parameters = parameters;
}

abbrev pub system_shape : Pairing → Shape
system_shape m = shape_with (widths_of m) m.context.shape.parameters

-- the rows that do not speak of accesses: the context, both domain parts, the floors of both
abbrev pub shared_rows : Widths → List PartRow → List PartRow → List PartRow → List PartRow → List PartRow → List PartRow
shared_rows w context source_part target_part source_floors target_floors =
    placed_rows Context w context ++ placed_rows SourcePart w source_part ++ placed_rows TargetPart w target_part
    ++ placed_rows SourceFloors w source_floors ++ placed_rows TargetFloors w target_floors

-- the rows of a schedule's floors over so many iterators
abbrev pub rows_of_floors : System → ℕ → Schedule → List PartRow
rows_of_floors context iterators schedule = (floor_part iterators context.shape.parameters schedule.floors).rows

-- the rows that the systems of all accesses share
abbrev pub ground_rows : Pairing → List PartRow
ground_rows m =
    let w = widths_of m in
    shared_rows w m.context.rows m.source_part.rows m.target_part.rows (rows_of_floors m.context w.source m.source_schedule) (rows_of_floors m.context w.target m.target_schedule)

-- the rows that the systems of all levels share: those, and source minus target = 0 for each subscript
abbrev pub base_rows : Pairing → List PartRow
base_rows m =
    let w = widths_of m in
    shared_rows w m.context.rows m.source_part.rows m.target_part.rows (rows_of_floors m.context w.source m.source_schedule) (rows_of_floors m.context w.target m.target_schedule)
    ++ rows_between (subscript_row w) m.source_access.subscripts m.target_access.subscripts

-- the rows that say that the first k levels are equal
abbrev pub equal_rows : Widths → List Affine → List Affine → ℕ → List PartRow
equal_rows w source target k = rows_between (equal_row w) (take k source) (take k target)

-- the row that says that level k, from 0, is less in the source
abbrev pub less_rows : Widths → List Affine → List Affine → ℕ → List PartRow
less_rows w source target k = rows_between (less_row w) (take 1 (drop k source)) (take 1 (drop k target))

-- the row that says that level k, from 0, is greater in the source
abbrev pub greater_rows : Widths → List Affine → List Affine → ℕ → List PartRow
greater_rows w source target k = rows_between (greater_row w) (take 1 (drop k source)) (take 1 (drop k target))

-- the rows of a level: the levels before it are equal, and it is less in the source; for level 0 all
-- levels in common are equal
abbrev pub level_rows : Widths → Schedule → Schedule → ℕ → List PartRow
level_rows w source target zero = equal_rows w source.levels target.levels (common_loops source.betas target.betas)
level_rows w source target (suc k) = equal_rows w source.levels target.levels k ++ less_rows w source.levels target.levels k

-- the system of two accesses to the floors, that to the subscripts, and that of one level
abbrev pub ground_of : Pairing → System
ground_of m = record { shape = system_shape m; rows = ground_rows m }

abbrev pub base_of : Pairing → System
base_of m = record { shape = system_shape m; rows = base_rows m }

abbrev pub level_system : Pairing → ℕ → System
level_system m level = record { shape = system_shape m; rows = base_rows m ++ level_rows (widths_of m) m.source_schedule m.target_schedule level }

-- what stands where a number is out of range
abbrev pub no_part : System
no_part = no_rows (record { outputs = 0; inputs = 0; locals = 0; parameters = 0 })

abbrev pub no_access : Access
no_access = record { kind = Read; array = pos 0; subscripts = [] }

-- what an entry's system is made of
abbrev pub pairing_of : System → List Side → Dep → Pairing
pairing_of context sides e =
    let s = member_or no_side (member sides e.source) in
    let t = member_or no_side (member sides e.target) in record {
      context = context;
      source_part = member_or no_part (member s.domain e.source_part);
      target_part = member_or no_part (member t.domain e.target_part);
      source_access = member_or no_access (member s.accesses e.source_access);
      target_access = member_or no_access (member t.accesses e.target_access);
      source_schedule = s.schedule;
      target_schedule = t.schedule;
    }

-- the system of an entry
abbrev pub system_of : System → List Side → Dep → System
system_of context sides e = level_system (pairing_of context sides e) e.level

-- the greatest sum of the absolute values of an entry's summands in the row i a + j b + k
abbrev pub summed_weight : ℤ → ℤ → ℤ → Affine → Affine → ℕ
summed_weight i j k a b =
    max (combined_weight i a.parameters j b.parameters) (pair_weight i a.constant j b.constant + unsigned_abs k)

-- the greatest one over the rows of two lists of values
abbrev pub weight_between : ℤ → ℤ → ℤ → List Affine → List Affine → ℕ
weight_between i j k [] ys = 0
weight_between i j k (a ∷ xs) [] = 0
weight_between i j k (a ∷ xs) (b ∷ ys) = max (summed_weight i j k a b) (weight_between i j k xs ys)

-- that of the subscripts
abbrev pub base_weight : Pairing → ℕ
base_weight m = weight_between (pos 1) (negsuc 0) (pos 0) m.source_access.subscripts m.target_access.subscripts

-- that of the first k levels, where they are equal
abbrev pub equal_weight : List Affine → List Affine → ℕ → ℕ
equal_weight source target k = weight_between (pos 1) (negsuc 0) (pos 0) (take k source) (take k target)

-- that of level k, from 0, where it is less
abbrev pub less_weight : List Affine → List Affine → ℕ → ℕ
less_weight source target k = weight_between (negsuc 0) (pos 1) (negsuc 0) (take 1 (drop k source)) (take 1 (drop k target))

-- that of level k, from 0, where it is greater
abbrev pub greater_weight : List Affine → List Affine → ℕ → ℕ
greater_weight source target k = weight_between (pos 1) (negsuc 0) (negsuc 0) (take 1 (drop k source)) (take 1 (drop k target))

-- that of the rows of a level
abbrev pub level_weight : Schedule → Schedule → ℕ → ℕ
level_weight source target zero = equal_weight source.levels target.levels (common_loops source.betas target.betas)
level_weight source target (suc k) = max (equal_weight source.levels target.levels k) (less_weight source.levels target.levels k)

-- that of a whole system
abbrev pub system_weight : Pairing → ℕ → ℕ
system_weight m level = max (base_weight m) (level_weight m.source_schedule m.target_schedule level)

-- the greatest sum of the absolute values of the summands of an entry in an entry's system
abbrev pub summand_weight : System → List Side → Dep → ℕ
summand_weight context sides e = system_weight (pairing_of context sides e) e.level
