-- A pair that a dependence orders and a new level reverses lies in the system of the two.
use Rattle.std.proofs.Common.{◌≡◌, ℕ, List, [], ◌∷◌, ◌++◌, length, ℤ, pos, refl, sym, ◌∙◌, subst, arith}
use Rattle.std.proofs.lemmas.List.{length-append}
use Rattle.relation_core.specs.Systems.{System}
use Rattle.relation_core.specs.Points.{MeetsAll, LiesIn}
use Rattle.relation_core.proofs.Points.{meets_append}
use Rattle.scop_data.specs.declared.accesses.Access.{Access}
use Rattle.scop_data.specs.declared.schedules.Schedule.{Schedule}
use Rattle.scop_core.specs.Meaning.{floors_after}
use Rattle.scop_core.specs.LevelOrder.{common_loops, IsLevel, OrdersAt, level_values}
use Rattle.dependence_systems.specs.Fits.{PairingFits, SchedulesFit}
use Rattle.dependence_systems.specs.Systems.{Pairing, widths_of, in_columns, system_shape, base_rows, level_rows, level_system}
use Rattle.dependence_systems.proofs.Segments.{HasWidths, coordinates_are}
use Rattle.dependence_systems.proofs.SystemRows.{BaseHolds, base_meets, level_meets}
use Rattle.dependence_systems.proofs.SystemMeanings.{PairHolds, floors_mean, length_floors, context_meets}
use Rattle.legality.specs.Mixed.{mixed}
use Rattle.legality.specs.Reversals.{reversed_rows}
use Rattle.legality.proofs.ReversedRows.{reversed_hold}

-- what a violation's systems are made of but for the schedules
pub record Parts : Type 0 where
  pub context : System
  pub source_part : System
  pub target_part : System
  pub source_access : Access
  pub target_access : Access

abbrev pub with_schedules : Parts → Schedule → Schedule → Pairing
with_schedules p s t = record {
  context = p.context;
  source_part = p.source_part;
  target_part = p.target_part;
  source_access = p.source_access;
  target_access = p.target_access;
  source_schedule = s;
  target_schedule = t;
}

-- the system of a pairing and a level, with the rows of a new level between two schedules
abbrev pub reversed_system : Pairing → ℕ → Schedule → Schedule → ℕ → System
reversed_system m level s t new = record { shape = system_shape m; rows = (level_system m level).rows ++ reversed_rows (widths_of m) s t new }

pub lies_in_violation : (p : Parts) (old_s now_s old_t now_t : Schedule) (level new : ℕ) (x y n : List ℤ)
    → PairingFits (with_schedules p (mixed old_s now_s) (mixed old_t now_t))
    → SchedulesFit (widths_of (with_schedules p (mixed old_s now_s) (mixed old_t now_t))) p.context.shape.parameters now_s now_t
    → IsLevel old_s.betas old_t.betas level → IsLevel now_t.betas now_s.betas new
    → PairHolds (with_schedules p (mixed old_s now_s) (mixed old_t now_t)) level x y n
    → OrdersAt (common_loops now_t.betas now_s.betas) (level_values now_t y n) (level_values now_s x n) new
    → LiesIn (reversed_system (with_schedules p (mixed old_s now_s) (mixed old_t now_t)) level now_s now_t new) x y n
lies_in_violation p old_s now_s old_t now_t level new x y n fits renewed_fits is_level is_new h order =
    let m = with_schedules p (mixed old_s now_s) (mixed old_t now_t) in
    let rows = level_rows (widths_of m) (mixed old_s now_s) (mixed old_t now_t) level in
    let more = reversed_rows (widths_of m) now_s now_t new in
    let u = floors_after [] now_s.floors x n in
    let v = floors_after [] now_t.floors y n in
    let l = h.source.locals in
    let k = h.target.locals in
    let eu : length u ≡ length now_s.floors = length_floors [] now_s.floors x n ∙ omega arith in
    let ev : length v ≡ length now_t.floors = length_floors [] now_t.floors y n ∙ omega arith in
    let widths : HasWidths (widths_of m) x y l k u v = record {
      source_is = h.source.outputs_are;
      target_is = h.target.outputs_are;
      source_part_is = h.source.locals_are;
      target_part_is = h.target.locals_are;
      source_floors_is = eu;
      target_floors_is = ev;
    } in
    let en : length n ≡ p.context.shape.parameters = h.context.parameters_are in
    let base : BaseHolds m x y l k u v n = record {
      context = context_meets p.context n fits.context h.context;
      source_part = h.source.meets;
      target_part = h.target.meets;
      source_floors = (floors_mean p.source_part.shape.outputs p.context.shape.parameters (mixed old_s now_s) fits.source_schedule x u n h.source.outputs_are eu en).1 refl;
      target_floors = (floors_mean p.target_part.shape.outputs p.context.shape.parameters (mixed old_t now_t) fits.target_schedule y v n h.target.outputs_are ev en).1 refl;
      subscripts = h.subscripts;
    } in
    let whole = in_columns x y l k u v (n ++ pos 1 ∷ []) in
    let point : whole ≡ _ = sym (coordinates_are x y l k u v n) in
    let first : MeetsAll (base_rows m) whole = (base_meets m x y l k u v n fits widths en).1 base in
    let second : MeetsAll rows whole = (level_meets m level x y l k u v n fits widths en is_level).1 h.order in
    let third : MeetsAll more whole = reversed_hold (widths_of m) p.context.shape.parameters now_s now_t new x y l k u v n renewed_fits widths en is_new order in
    let front : MeetsAll (base_rows m ++ rows) whole = meets_append (base_rows m) rows whole first second in record {
      outputs_are = h.source.outputs_are;
      inputs_are = h.target.outputs_are;
      parameters_are = en;
      locals = l ++ (k ++ (u ++ v));
      locals_are = omega (arith, length-append l (k ++ (u ++ v)), length-append k (u ++ v), length-append u v, h.source.locals_are, h.target.locals_are, eu, ev);
      meets = subst (λ c. MeetsAll ((base_rows m ++ rows) ++ more) c) point
          (meets_append (base_rows m ++ rows) more whole front third);
    }
