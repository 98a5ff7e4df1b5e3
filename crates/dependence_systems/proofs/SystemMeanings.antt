-- A pair of points lies in a system exactly where both lie in their domain parts, their subscripts are equal, and the level orders them.
use Rattle.std.proofs.Common.{◌≡◌, ℕ, ◌+◌, List, [], ◌∷◌, ◌++◌, length, take, drop, ℤ, pos, refl, ap, sym, ◌∙◌, subst, arith, length-take-le, length-drop}
use Rattle.std.specs.Prelude.{◌↔◌}
use Rattle.std.proofs.lemmas.List.{take-append-drop, length-append}
use Rattle.relation_core.specs.Systems.{System}
use Rattle.relation_core.specs.Points.{MeetsAll, LiesIn, coordinates}
use Rattle.relation_core.proofs.Points.{meets_append, meets_front, meets_back}
use Rattle.scop_data.specs.declared.schedules.Schedule.{Schedule}
use Rattle.scop_data.specs.declared.schedules.Floor.{Floor}
use Rattle.scop_core.specs.Printable.{IsContext}
use Rattle.scop_core.specs.SolvedRows.{floor_part}
use Rattle.scop_core.specs.Meaning.{affine_at, floor_of, floors_after, levels_at}
use Rattle.schedule_forms.proofs.FloorRows.{floor_rows_mean}
use Rattle.scop_core.specs.ReadBack.{AreSolvedFloors, IsSolvedSchedule}
use Rattle.scop_core.specs.LevelOrder.{common_loops, OrdersAt, IsLevel, level_values}
use Rattle.dependence_systems.specs.Fits.{PairingFits}
use Rattle.dependence_systems.specs.Systems.{Pairing, widths_of, in_columns, base_rows, level_rows, level_system}
use Rattle.dependence_systems.proofs.Segments.{HasWidths, coordinates_are}
use Rattle.dependence_systems.proofs.SystemRows.{BaseHolds, base_meets, level_meets}

-- the floors of a solved schedule
solved_floors : (iterators parameters : ℕ) (schedule : Schedule) → IsSolvedSchedule iterators parameters schedule → AreSolvedFloors iterators parameters schedule.floors
solved_floors iterators parameters schedule solved = record { forms = solved.relation.floors; sizes = solved.sizes; earlier = solved.earlier }

-- as many values as floors
pub length_floors : (earlier : List ℤ) (floors : List Floor) (x n : List ℤ) → length (floors_after earlier floors x n) ≡ length earlier + length floors
length_floors earlier [] x n = omega arith
length_floors earlier (f ∷ fs) x n =
    length_floors (earlier ++ floor_of (affine_at f.value x earlier n) f.size ∷ []) fs x n
    ∙ omega (arith, length-append earlier (floor_of (affine_at f.value x earlier n) f.size ∷ []))

-- the rows of a schedule's floors hold exactly where the locals are the values of the floors
pub floors_mean : (iterators parameters : ℕ) (schedule : Schedule) → IsSolvedSchedule iterators parameters schedule → (x l n : List ℤ)
    → length x ≡ iterators → length l ≡ length schedule.floors → length n ≡ parameters
    → MeetsAll (floor_part iterators parameters schedule.floors).rows (x ++ (l ++ (n ++ pos 1 ∷ []))) ↔ (l ≡ floors_after [] schedule.floors x n)
floors_mean iterators parameters schedule solved x l n ex el en =
    floor_rows_mean iterators parameters schedule.floors (solved_floors iterators parameters schedule solved) x l n ex el en

-- what a system says of the iterators of source and target
pub record PairHolds (m : Pairing) (level : ℕ) (x y n : List ℤ) : Type 0 where
  pub context : LiesIn m.context [] [] n
  pub source : LiesIn m.source_part x [] n
  pub target : LiesIn m.target_part y [] n
  pub subscripts : levels_at m.source_access.subscripts x [] n ≡ levels_at m.target_access.subscripts y [] n
  pub order : OrdersAt (common_loops m.source_schedule.betas m.target_schedule.betas) (level_values m.source_schedule x n) (level_values m.target_schedule y n) level

-- a list cut into four
record Cut (s : List ℤ) (a b c d : ℕ) : Type 0 where
  l : List ℤ
  k : List ℤ
  u : List ℤ
  v : List ℤ
  l_is : length l ≡ a
  k_is : length k ≡ b
  u_is : length u ≡ c
  v_is : length v ≡ d
  whole : s ≡ l ++ (k ++ (u ++ v))

cut_four : (s : List ℤ) (a b c d : ℕ) → length s ≡ a + b + c + d → Cut s a b c d
cut_four s a b c d e =
    let t = drop a s in
    let r = drop b t in
    let lt : length t ≡ b + c + d = length-drop a s ∙ omega (arith, e) in
    let lr : length r ≡ c + d = length-drop b t ∙ omega (arith, lt) in
    let lv : length (drop c r) ≡ d = length-drop c r ∙ omega (arith, lr) in record {
      l = take a s;
      k = take b t;
      u = take c r;
      v = drop c r;
      l_is = length-take-le a s (omega (arith, e));
      k_is = length-take-le b t (omega (arith, lt));
      u_is = length-take-le c r (omega (arith, lr));
      v_is = lv;
      whole = sym (ap (λ z. take a s ++ (take b t ++ z)) (take-append-drop c r) ∙ (ap (λ z. take a s ++ z) (take-append-drop b t) ∙ take-append-drop a s));
    }

nothing : (l : List ℤ) → length l ≡ 0 → l ≡ []
nothing [] e = refl
nothing (z ∷ l) e = absurd (omega (arith, e))

-- belonging of the context and of a domain part from their rows
context_lies : (context : System) (n : List ℤ) → IsContext context → length n ≡ context.shape.parameters → MeetsAll context.rows (n ++ pos 1 ∷ []) → LiesIn context [] [] n
context_lies context n fits e h = record {
  outputs_are = sym fits.outputs;
  inputs_are = sym fits.inputs;
  parameters_are = e;
  locals = [];
  locals_are = sym fits.locals;
  meets = h;
}

pub context_meets : (context : System) (n : List ℤ) → IsContext context → LiesIn context [] [] n → MeetsAll context.rows (n ++ pos 1 ∷ [])
context_meets context n fits h =
    subst (λ l. MeetsAll context.rows (coordinates [] [] l n)) (nothing h.locals (h.locals_are ∙ fits.locals)) h.meets

pub forwards : (m : Pairing) (level : ℕ) (x y n : List ℤ) → PairingFits m → IsLevel m.source_schedule.betas m.target_schedule.betas level
    → LiesIn (level_system m level) x y n → PairHolds m level x y n
forwards m level x y n fits is_level h =
    let cut = cut_four h.locals m.source_part.shape.locals m.target_part.shape.locals (length m.source_schedule.floors) (length m.target_schedule.floors) h.locals_are in
    let widths : HasWidths (widths_of m) x y cut.l cut.k cut.u cut.v = record {
      source_is = h.outputs_are;
      target_is = h.inputs_are;
      source_part_is = cut.l_is;
      target_part_is = cut.k_is;
      source_floors_is = cut.u_is;
      target_floors_is = cut.v_is;
    } in
    let point : coordinates x y h.locals n ≡ in_columns x y cut.l cut.k cut.u cut.v (n ++ pos 1 ∷ [])
    = ap (λ s. coordinates x y s n) cut.whole ∙ coordinates_are x y cut.l cut.k cut.u cut.v n in
    let meets : MeetsAll (base_rows m ++ level_rows (widths_of m) m.source_schedule m.target_schedule level) (in_columns x y cut.l cut.k cut.u cut.v (n ++ pos 1 ∷ [])) = subst (λ v. MeetsAll (base_rows m ++ level_rows (widths_of m) m.source_schedule m.target_schedule level) v) point h.meets in
    let base : BaseHolds m x y cut.l cut.k cut.u cut.v n = (base_meets m x y cut.l cut.k cut.u cut.v n fits widths h.parameters_are).0 (meets_front (base_rows m) (level_rows (widths_of m) m.source_schedule m.target_schedule level) _ meets) in
    let ordered = (level_meets m level x y cut.l cut.k cut.u cut.v n fits widths h.parameters_are is_level).0 (meets_back (base_rows m) (level_rows (widths_of m) m.source_schedule m.target_schedule level) _ meets) in
    let us = (floors_mean m.source_part.shape.outputs m.context.shape.parameters m.source_schedule fits.source_schedule x cut.u n h.outputs_are cut.u_is h.parameters_are).0 base.source_floors in
    let vs = (floors_mean m.target_part.shape.outputs m.context.shape.parameters m.target_schedule fits.target_schedule y cut.v n h.inputs_are cut.v_is h.parameters_are).0 base.target_floors in record {
      context = context_lies m.context n fits.context h.parameters_are base.context;
      source = record {
        outputs_are = h.outputs_are;
        inputs_are = sym fits.source_part.inputs;
        parameters_are = h.parameters_are ∙ sym fits.source_part.parameters_are;
        locals = cut.l;
        locals_are = cut.l_is;
        meets = base.source_part;
      };
      target = record {
        outputs_are = h.inputs_are;
        inputs_are = sym fits.target_part.inputs;
        parameters_are = h.parameters_are ∙ sym fits.target_part.parameters_are;
        locals = cut.k;
        locals_are = cut.k_is;
        meets = base.target_part;
      };
      subscripts = base.subscripts;
      order = subst (λ u. OrdersAt (common_loops m.source_schedule.betas m.target_schedule.betas) (levels_at m.source_schedule.levels x u n) (level_values m.target_schedule y n) level) us
          (subst (λ v. OrdersAt (common_loops m.source_schedule.betas m.target_schedule.betas) (levels_at m.source_schedule.levels x cut.u n) (levels_at m.target_schedule.levels y v n) level) vs ordered);
    }

pub backwards : (m : Pairing) (level : ℕ) (x y n : List ℤ) → PairingFits m → IsLevel m.source_schedule.betas m.target_schedule.betas level
    → PairHolds m level x y n → LiesIn (level_system m level) x y n
backwards m level x y n fits is_level h =
    let u = floors_after [] m.source_schedule.floors x n in
    let v = floors_after [] m.target_schedule.floors y n in
    let l = h.source.locals in
    let k = h.target.locals in
    let eu : length u ≡ length m.source_schedule.floors = length_floors [] m.source_schedule.floors x n ∙ omega arith in
    let ev : length v ≡ length m.target_schedule.floors = length_floors [] m.target_schedule.floors y n ∙ omega arith in
    let widths : HasWidths (widths_of m) x y l k u v = record {
      source_is = h.source.outputs_are;
      target_is = h.target.outputs_are;
      source_part_is = h.source.locals_are;
      target_part_is = h.target.locals_are;
      source_floors_is = eu;
      target_floors_is = ev;
    } in
    let en : length n ≡ m.context.shape.parameters = h.context.parameters_are in
    let base : BaseHolds m x y l k u v n = record {
      context = context_meets m.context n fits.context h.context;
      source_part = h.source.meets;
      target_part = h.target.meets;
      source_floors = (floors_mean m.source_part.shape.outputs m.context.shape.parameters m.source_schedule fits.source_schedule x u n h.source.outputs_are eu en).1 refl;
      target_floors = (floors_mean m.target_part.shape.outputs m.context.shape.parameters m.target_schedule fits.target_schedule y v n h.target.outputs_are ev en).1 refl;
      subscripts = h.subscripts;
    } in
    let point : in_columns x y l k u v (n ++ pos 1 ∷ []) ≡ coordinates x y (l ++ (k ++ (u ++ v))) n = sym (coordinates_are x y l k u v n) in
    let first : MeetsAll (base_rows m) (in_columns x y l k u v (n ++ pos 1 ∷ [])) = (base_meets m x y l k u v n fits widths en).1 base in
    let second : MeetsAll (level_rows (widths_of m) m.source_schedule m.target_schedule level) (in_columns x y l k u v (n ++ pos 1 ∷ [])) = (level_meets m level x y l k u v n fits widths en is_level).1 h.order in record {
      outputs_are = h.source.outputs_are;
      inputs_are = h.target.outputs_are;
      parameters_are = en;
      locals = l ++ (k ++ (u ++ v));
      locals_are = omega (arith, length-append l (k ++ (u ++ v)), length-append k (u ++ v), length-append u v, h.source.locals_are, h.target.locals_are, eu, ev);
      meets = subst (λ p. MeetsAll (base_rows m ++ level_rows (widths_of m) m.source_schedule m.target_schedule level) p) point (meets_append (base_rows m) (level_rows (widths_of m) m.source_schedule m.target_schedule level) _ first second);
    }
