-- The rows of a new level hold where it puts the target before the source.
use Rattle.std.proofs.Common.{◌≡◌, ℕ, zero, suc, ◌+◌, ◌≤◌, List, [], ◌∷◌, ◌++◌, length, take, drop, All, ℤ, pos, negsuc, ◌<ℤ◌, ap, sym, ◌∙◌, subst, arith}
use Rattle.std.proofs.lemmas.Int.{ints}
use Rattle.std.proofs.lemmas.List.{length-map}
use Rattle.std.proofs.lemmas.List.Elements.{All-head, All-tail}
use Rattle.row_core.specs.Rows.{dot}
use Rattle.relation_core.specs.Points.{Meets, MeetsAll}
use Rattle.relation_core.specs.declared.part_rows.RowKind.TheVariants.{AtLeast}
use Rattle.relation_core.proofs.Points.{meets_append}
use Rattle.scop_data.specs.declared.affines.Affine.{Affine}
use Rattle.scop_data.specs.declared.schedules.Schedule.{Schedule}
use Rattle.scop_core.specs.SolvedRows.{HasSizes}
use Rattle.scop_core.specs.Meaning.{affine_at, levels_at}
use Rattle.scop_core.specs.LevelOrder.{common_loops, EqualUpTo, LessAfter, IsLevel, OrdersAt}
use Rattle.scop_data.proofs.LevelOrder.{loops_are_common}
use Rattle.dependence_systems.specs.declared.widths.Widths.{Widths}
use Rattle.dependence_systems.specs.Fits.{SchedulesFit}
use Rattle.dependence_systems.specs.Systems.{in_columns, equal_rows, greater_row, greater_rows, rows_between}
use Rattle.dependence_systems.proofs.Segments.{HasWidths}
use Rattle.dependence_systems.proofs.Differences.{summed_value, level_floors}
use Rattle.dependence_systems.proofs.RowMeanings.{equal_rows_meet}
use Rattle.legality.specs.Reversals.{reversed_rows}

-- the row of a level that is greater in the source
greater_holds : (w : Widths) (a b : Affine) (x y l m u v n : List ℤ) → HasWidths w x y l m u v
    → HasSizes w.source w.source_floors (length n) a → HasSizes w.target w.target_floors (length n) b → affine_at b y v n <ℤ affine_at a x u n
    → Meets AtLeast (dot (greater_row w a b).entries (in_columns x y l m u v (n ++ pos 1 ∷ [])))
greater_holds w a b x y l m u v n at sa sb h =
    let value = summed_value w (pos 1) (negsuc 0) (negsuc 0) _ _ a b x y l m u v n u v at sa.iterators_are sb.iterators_are sa.parameters_are sb.parameters_are
    (level_floors w (pos 1) (negsuc 0) a b u v sa.floors_are sb.floors_are) in
    omega (arith, ints)

equal_exchanged : (k : ℕ) (v w : List ℤ) → EqualUpTo k v w → EqualUpTo k w v
equal_exchanged zero v w h = tt
equal_exchanged (suc k) [] w h = absurd h
equal_exchanged (suc k) (x ∷ v) [] h = absurd h
equal_exchanged (suc k) (x ∷ v) (y ∷ w) h = (sym h.0, equal_exchanged k v w h.1)

less_equal : (k : ℕ) (v w : List ℤ) → LessAfter k v w → EqualUpTo k w v
less_equal k [] w h = absurd h
less_equal k (x ∷ v) [] h = absurd h
less_equal zero (x ∷ v) (y ∷ w) h = tt
less_equal (suc k) (x ∷ v) (y ∷ w) h = (sym h.0, less_equal k v w h.1)

greater_rows_hold : (w : Widths) (k : ℕ) (a b : List Affine) (x y l m u v n : List ℤ) → HasWidths w x y l m u v
    → All (HasSizes w.source w.source_floors (length n)) a → All (HasSizes w.target w.target_floors (length n)) b
    → LessAfter k (levels_at b y v n) (levels_at a x u n)
    → MeetsAll (rows_between (greater_row w) (take 1 (drop k a)) (take 1 (drop k b))) (in_columns x y l m u v (n ++ pos 1 ∷ []))
greater_rows_hold w k a [] x y l m u v n at sa sb h = absurd h
greater_rows_hold w k [] (b ∷ ys) x y l m u v n at sa sb h = absurd h
greater_rows_hold w zero (a ∷ xs) (b ∷ ys) x y l m u v n at sa sb h =
    let P = HasSizes w.source w.source_floors (length n) in
    let Q = HasSizes w.target w.target_floors (length n) in
    (greater_holds w a b x y l m u v n at (All-head P a xs sa) (All-head Q b ys sb) h, tt)
greater_rows_hold w (suc k) (a ∷ xs) (b ∷ ys) x y l m u v n at sa sb h =
    let P = HasSizes w.source w.source_floors (length n) in
    let Q = HasSizes w.target w.target_floors (length n) in
    greater_rows_hold w k xs ys x y l m u v n at (All-tail P a xs sa) (All-tail Q b ys sb) h.1

-- loops in common, from the target's side
pub record Common (s t : Schedule) (k : ℕ) : Type 0 where
  pub source : k ≤ length s.levels
  pub target : k ≤ length t.levels

pub common : (w : Widths) (parameters : ℕ) (s t : Schedule) → SchedulesFit w parameters s t → Common s t (common_loops t.betas s.betas)
common w parameters s t fits =
    let source : length s.betas ≡ length (levels_at s.levels [] [] []) + 1 = fits.source_betas ∙ ap (λ k. k + 1) (sym (length-map s.levels (λ level. affine_at level [] [] []))) in
    let target : length t.betas ≡ length (levels_at t.levels [] [] []) + 1 = fits.target_betas ∙ ap (λ k. k + 1) (sym (length-map t.levels (λ level. affine_at level [] [] []))) in
    let both = loops_are_common t.betas s.betas (levels_at t.levels [] [] []) (levels_at s.levels [] [] []) target source in record {
      source = omega (arith, both.1, length-map s.levels (λ level. affine_at level [] [] []));
      target = omega (arith, both.0, length-map t.levels (λ level. affine_at level [] [] []));
    }

pub reversed_hold : (w : Widths) (parameters : ℕ) (s t : Schedule) (level : ℕ) (x y l k u v n : List ℤ) → SchedulesFit w parameters s t → HasWidths w x y l k u v
    → length n ≡ parameters → IsLevel t.betas s.betas level
    → OrdersAt (common_loops t.betas s.betas) (levels_at t.levels y v n) (levels_at s.levels x u n) level
    → MeetsAll (reversed_rows w s t level) (in_columns x y l k u v (n ++ pos 1 ∷ []))
reversed_hold w parameters s t zero x y l k u v n fits at en is_level h =
    let c = common_loops t.betas s.betas in
    let most = common w parameters s t fits in
    (equal_rows_meet w c s.levels t.levels x y l k u v n at most.source most.target
    (subst (λ c. All (HasSizes w.source w.source_floors c) s.levels) (sym en) fits.source_levels)
    (subst (λ c. All (HasSizes w.target w.target_floors c) t.levels) (sym en) fits.target_levels)).1
    (equal_exchanged c (levels_at t.levels y v n) (levels_at s.levels x u n) h)
reversed_hold w parameters s t (suc j) x y l k u v n fits at en is_level h =
    let whole = in_columns x y l k u v (n ++ pos 1 ∷ []) in
    let most = common w parameters s t fits in
    let sa : All (HasSizes w.source w.source_floors (length n)) s.levels
    = subst (λ c. All (HasSizes w.source w.source_floors c) s.levels) (sym en) fits.source_levels in
    let sb : All (HasSizes w.target w.target_floors (length n)) t.levels
    = subst (λ c. All (HasSizes w.target w.target_floors c) t.levels) (sym en) fits.target_levels in
    let equal = (equal_rows_meet w j s.levels t.levels x y l k u v n at
    (omega (arith, is_level, most.source)) (omega (arith, is_level, most.target)) sa sb).1
    (less_equal j (levels_at t.levels y v n) (levels_at s.levels x u n) h) in
    meets_append (equal_rows w s.levels t.levels j) (greater_rows w s.levels t.levels j) whole equal (greater_rows_hold w j s.levels t.levels x y l k u v n at sa sb h)
