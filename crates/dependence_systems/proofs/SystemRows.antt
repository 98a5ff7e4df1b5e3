-- A point in pieces meets the rows of a system exactly where each piece meets the rows of its side.
use Rattle.std.proofs.Common.{◌≡◌, ℕ, zero, suc, ◌+◌, ◌≤◌, List, [], ◌∷◌, ◌++◌, length, All, ℤ, pos, ap, sym, ◌∙◌, subst, arith}
use Rattle.std.specs.Prelude.{◌↔◌}
use Rattle.std.proofs.lemmas.List.{length-map}
use Rattle.relation_core.specs.Systems.{System, ReachTo}
use Rattle.relation_core.specs.Points.{MeetsAll}
use Rattle.relation_core.specs.declared.part_rows.PartRow.{PartRow}
use Rattle.relation_core.proofs.Points.{meets_append, meets_front, meets_back}
use Rattle.scop_data.specs.declared.schedules.Schedule.{Schedule}
use Rattle.scop_core.specs.SolvedRows.{HasSizes, floor_shape, floor_part}
use Rattle.scop_core.specs.Held.{IsFormed}
use Rattle.scop_core.specs.Meaning.{affine_at, levels_at}
use Rattle.scop_core.specs.ReadBack.{IsSolvedSchedule}
use Rattle.scop_data.proofs.LevelOrder.{loops_are_common}
use Rattle.dependence_systems.specs.declared.widths.Widths.{Widths}
use Rattle.dependence_systems.specs.declared.widths.Topic.TheVariants.{Context, SourcePart, TargetPart, SourceFloors, TargetFloors}
use Rattle.scop_core.specs.LevelOrder.{common_loops, OrdersAt, IsLevel}
use Rattle.dependence_systems.specs.Fits.{PairingFits, SchedulesFit}
use Rattle.dependence_systems.specs.Systems.{Pairing, widths_of, in_columns, placed_rows, rows_between, subscript_row, base_rows, equal_rows, less_rows, level_rows}
use Rattle.dependence_systems.proofs.Segments.{HasWidths, context_value, source_part_value, target_part_value, source_floors_value, target_floors_value}
use Rattle.dependence_systems.proofs.RowMeanings.{placed_meet, subscript_rows_meet, equal_rows_meet, less_rows_meet, floors_reach}

-- each piece of a point meets the rows of its side: locals of the domain parts in l and m, floors in u and v
pub record BaseHolds (m : Pairing) (x y l k u v n : List ℤ) : Type 0 where
  pub context : MeetsAll m.context.rows (n ++ pos 1 ∷ [])
  pub source_part : MeetsAll m.source_part.rows (x ++ (l ++ (n ++ pos 1 ∷ [])))
  pub target_part : MeetsAll m.target_part.rows (y ++ (k ++ (n ++ pos 1 ∷ [])))
  pub source_floors : MeetsAll (floor_part m.source_part.shape.outputs m.context.shape.parameters m.source_schedule.floors).rows (x ++ (u ++ (n ++ pos 1 ∷ [])))
  pub target_floors : MeetsAll (floor_part m.target_part.shape.outputs m.context.shape.parameters m.target_schedule.floors).rows (y ++ (v ++ (n ++ pos 1 ∷ [])))
  pub subscripts : levels_at m.source_access.subscripts x [] n ≡ levels_at m.target_access.subscripts y [] n

-- the rows of a domain part are wide enough
part_reach : (part : System) → IsFormed part → ReachTo (part.shape.outputs + part.shape.locals) part.rows
part_reach part formed i h = omega (arith, formed.widths i h)

schedule_reach : (iterators parameters : ℕ) (schedule : Schedule) → IsSolvedSchedule iterators parameters schedule
    → ReachTo (iterators + length schedule.floors) (floor_part iterators parameters schedule.floors).rows
schedule_reach iterators parameters schedule solved =
    floors_reach (floor_shape iterators parameters schedule.floors) 0 schedule.floors (omega arith) solved.relation.floors

-- what the placed rows of each topic say
record Placed (m : Pairing) (x y l k u v n : List ℤ) : Type 0 where
  context : MeetsAll (placed_rows Context (widths_of m) m.context.rows) (in_columns x y l k u v (n ++ pos 1 ∷ [])) ↔ MeetsAll m.context.rows (n ++ pos 1 ∷ [])
  source_part : MeetsAll (placed_rows SourcePart (widths_of m) m.source_part.rows) (in_columns x y l k u v (n ++ pos 1 ∷ []))
      ↔ MeetsAll m.source_part.rows (x ++ (l ++ (n ++ pos 1 ∷ [])))
  target_part : MeetsAll (placed_rows TargetPart (widths_of m) m.target_part.rows) (in_columns x y l k u v (n ++ pos 1 ∷ []))
      ↔ MeetsAll m.target_part.rows (y ++ (k ++ (n ++ pos 1 ∷ [])))
  source_floors : MeetsAll (placed_rows SourceFloors (widths_of m) (floor_part m.source_part.shape.outputs m.context.shape.parameters m.source_schedule.floors).rows) (in_columns x y l k u v (n ++ pos 1 ∷ []))
      ↔ MeetsAll (floor_part m.source_part.shape.outputs m.context.shape.parameters m.source_schedule.floors).rows (x ++ (u ++ (n ++ pos 1 ∷ [])))
  target_floors : MeetsAll (placed_rows TargetFloors (widths_of m) (floor_part m.target_part.shape.outputs m.context.shape.parameters m.target_schedule.floors).rows) (in_columns x y l k u v (n ++ pos 1 ∷ []))
      ↔ MeetsAll (floor_part m.target_part.shape.outputs m.context.shape.parameters m.target_schedule.floors).rows (y ++ (v ++ (n ++ pos 1 ∷ [])))
  subscripts : MeetsAll (rows_between (subscript_row (widths_of m)) m.source_access.subscripts m.target_access.subscripts) (in_columns x y l k u v (n ++ pos 1 ∷ []))
      ↔ (levels_at m.source_access.subscripts x [] n ≡ levels_at m.target_access.subscripts y [] n)

placed_means : (m : Pairing) (x y l k u v n : List ℤ) → PairingFits m → HasWidths (widths_of m) x y l k u v → length n ≡ m.context.shape.parameters → Placed m x y l k u v n
placed_means m x y l k u v n fits at en =
    let w = widths_of m in
    let z = n ++ pos 1 ∷ [] in
    let whole = in_columns x y l k u v z in record {
      context = placed_meet Context w 0 whole z (λ row h. context_value w row x y l k u v z at) m.context.rows (λ i h. omega arith);
      source_part = placed_meet SourcePart w (w.source + w.source_part) whole (x ++ (l ++ z)) (λ row h. source_part_value w row x y l k u v z h at)
          m.source_part.rows (part_reach m.source_part fits.source_formed);
      target_part = placed_meet TargetPart w (w.target + w.target_part) whole (y ++ (k ++ z)) (λ row h. target_part_value w row x y l k u v z h at)
          m.target_part.rows (part_reach m.target_part fits.target_formed);
      source_floors = placed_meet SourceFloors w (w.source + w.source_floors) whole (x ++ (u ++ z)) (λ row h. source_floors_value w row x y l k u v z h at)
          _ (schedule_reach w.source m.context.shape.parameters m.source_schedule fits.source_schedule);
      target_floors = placed_meet TargetFloors w (w.target + w.target_floors) whole (y ++ (v ++ z)) (λ row h. target_floors_value w row x y l k u v z h at)
          _ (schedule_reach w.target m.context.shape.parameters m.target_schedule fits.target_schedule);
      subscripts = subscript_rows_meet w m.source_access.subscripts m.target_access.subscripts x y l k u v n at fits.subscripts
          (subst (λ c. All (HasSizes w.source 0 c) m.source_access.subscripts) (sym en) fits.source_subscripts)
          (subst (λ c. All (HasSizes w.target 0 c) m.target_access.subscripts) (sym en) fits.target_subscripts);
    }

pub base_meets : (m : Pairing) (x y l k u v n : List ℤ) → PairingFits m → HasWidths (widths_of m) x y l k u v → length n ≡ m.context.shape.parameters
    → MeetsAll (base_rows m) (in_columns x y l k u v (n ++ pos 1 ∷ [])) ↔ BaseHolds m x y l k u v n
base_meets m x y l k u v n fits at en = (forwards, backwards)
  where
    w : Widths
    w = widths_of m

    whole : List ℤ
    whole = in_columns x y l k u v (n ++ pos 1 ∷ [])

    said : Placed m x y l k u v n
    said = placed_means m x y l k u v n fits at en

    one : List PartRow
    one = placed_rows Context w m.context.rows

    two : List PartRow
    two = placed_rows SourcePart w m.source_part.rows

    three : List PartRow
    three = placed_rows TargetPart w m.target_part.rows

    four : List PartRow
    four = placed_rows SourceFloors w (floor_part w.source m.context.shape.parameters m.source_schedule.floors).rows

    five : List PartRow
    five = placed_rows TargetFloors w (floor_part w.target m.context.shape.parameters m.target_schedule.floors).rows

    six : List PartRow
    six = rows_between (subscript_row w) m.source_access.subscripts m.target_access.subscripts

    forwards : MeetsAll (one ++ two ++ three ++ four ++ five ++ six) whole → BaseHolds m x y l k u v n
    forwards h =
        let h5 = meets_front (one ++ two ++ three ++ four ++ five) six whole h in
        let h4 = meets_front (one ++ two ++ three ++ four) five whole h5 in
        let h3 = meets_front (one ++ two ++ three) four whole h4 in
        let h2 = meets_front (one ++ two) three whole h3 in record {
          context = said.context.0 (meets_front one two whole h2);
          source_part = said.source_part.0 (meets_back one two whole h2);
          target_part = said.target_part.0 (meets_back (one ++ two) three whole h3);
          source_floors = said.source_floors.0 (meets_back (one ++ two ++ three) four whole h4);
          target_floors = said.target_floors.0 (meets_back (one ++ two ++ three ++ four) five whole h5);
          subscripts = said.subscripts.0 (meets_back (one ++ two ++ three ++ four ++ five) six whole h);
        }

    backwards : BaseHolds m x y l k u v n → MeetsAll (one ++ two ++ three ++ four ++ five ++ six) whole
    backwards h =
        let h2 = meets_append one two whole (said.context.1 h.context) (said.source_part.1 h.source_part) in
        let h3 = meets_append (one ++ two) three whole h2 (said.target_part.1 h.target_part) in
        let h4 = meets_append (one ++ two ++ three) four whole h3 (said.source_floors.1 h.source_floors) in
        let h5 = meets_append (one ++ two ++ three ++ four) five whole h4 (said.target_floors.1 h.target_floors) in
        meets_append (one ++ two ++ three ++ four ++ five) six whole h5 (said.subscripts.1 h.subscripts)

-- loops in common are levels of both
pub common_levels : (w : Widths) (parameters : ℕ) (s t : Schedule) → SchedulesFit w parameters s t
    → (common_loops s.betas t.betas ≤ length s.levels) × (common_loops s.betas t.betas ≤ length t.levels)
common_levels w parameters s t fits =
    let source : length s.betas ≡ length (levels_at s.levels [] [] []) + 1 = fits.source_betas ∙ ap (λ k. k + 1) (sym (length-map s.levels (λ level. affine_at level [] [] []))) in
    let target : length t.betas ≡ length (levels_at t.levels [] [] []) + 1 = fits.target_betas ∙ ap (λ k. k + 1) (sym (length-map t.levels (λ level. affine_at level [] [] []))) in
    let both = loops_are_common s.betas t.betas (levels_at s.levels [] [] []) (levels_at t.levels [] [] []) source target in
    (omega (arith, both.0, length-map s.levels (λ level. affine_at level [] [] [])), omega (arith, both.1, length-map t.levels (λ level. affine_at level [] [] [])))

pub schedules_fit : (m : Pairing) → PairingFits m → SchedulesFit (widths_of m) m.context.shape.parameters m.source_schedule m.target_schedule
schedules_fit m fits = record {
  source_levels = fits.source_schedule.relation.levels;
  target_levels = fits.target_schedule.relation.levels;
  source_betas = fits.source_schedule.relation.betas;
  target_betas = fits.target_schedule.relation.betas;
}

-- the rows of a level hold where the level orders the two
pub level_meets : (m : Pairing) (level : ℕ) (x y l k u v n : List ℤ) → PairingFits m → HasWidths (widths_of m) x y l k u v → length n ≡ m.context.shape.parameters
    → IsLevel m.source_schedule.betas m.target_schedule.betas level
    → MeetsAll (level_rows (widths_of m) m.source_schedule m.target_schedule level) (in_columns x y l k u v (n ++ pos 1 ∷ []))
    ↔ OrdersAt (common_loops m.source_schedule.betas m.target_schedule.betas) (levels_at m.source_schedule.levels x u n) (levels_at m.target_schedule.levels y v n) level
level_meets m zero x y l k u v n fits at en is_level =
    let w = widths_of m in
    let common = common_levels w m.context.shape.parameters m.source_schedule m.target_schedule (schedules_fit m fits) in
    equal_rows_meet w (common_loops m.source_schedule.betas m.target_schedule.betas) m.source_schedule.levels m.target_schedule.levels x y l k u v n at common.0 common.1
    (subst (λ c. All (HasSizes w.source w.source_floors c) m.source_schedule.levels) (sym en) fits.source_schedule.relation.levels)
    (subst (λ c. All (HasSizes w.target w.target_floors c) m.target_schedule.levels) (sym en) fits.target_schedule.relation.levels)
level_meets m (suc j) x y l k u v n fits at en is_level =
    let w = widths_of m in
    let whole = in_columns x y l k u v (n ++ pos 1 ∷ []) in
    let common = common_levels w m.context.shape.parameters m.source_schedule m.target_schedule (schedules_fit m fits) in
    let means = less_rows_meet w j m.source_schedule.levels m.target_schedule.levels x y l k u v n at (omega (arith, is_level, common.0)) (omega (arith, is_level, common.1))
    (subst (λ c. All (HasSizes w.source w.source_floors c) m.source_schedule.levels) (sym en) fits.source_schedule.relation.levels)
    (subst (λ c. All (HasSizes w.target w.target_floors c) m.target_schedule.levels) (sym en) fits.target_schedule.relation.levels) in (
      λ h. means.0 (meets_front (equal_rows w m.source_schedule.levels m.target_schedule.levels j) (less_rows w m.source_schedule.levels m.target_schedule.levels j) whole h, meets_back (equal_rows w m.source_schedule.levels m.target_schedule.levels j) (less_rows w m.source_schedule.levels m.target_schedule.levels j) whole h),
      λ h. let r = means.1 h in meets_append (equal_rows w m.source_schedule.levels m.target_schedule.levels j) (less_rows w m.source_schedule.levels m.target_schedule.levels j) whole r.0 r.1,
    )
