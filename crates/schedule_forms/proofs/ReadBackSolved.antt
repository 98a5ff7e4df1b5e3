-- The rows of a schedule and of an access in solved form read back.
use Rattle.std.proofs.Common.{◌≡◌, ℕ, zero, suc, ◌+◌, ◌-◌, ◌*◌, ◌/◌, ◌%◌, ◌<◌, ◌≤◌, true, List, [], ◌∷◌, ◌++◌, length, get_or, ℤ, pos, ◌≤ℤ◌, refl, ap, sym, ◌∙◌, subst, arith, add-zero, zero-add}
use Rattle.std.proofs.Common.{one-add}
use Rattle.std.proofs.lemmas.List.{append-nil}
use Rattle.std.proofs.lemmas.Bool.Decides.{nat_tests}
use Rattle.std.specs.Prelude.{int_le, nat_le, All}
use Rattle.std.proofs.lemmas.Int.{ints}
use Rattle.std.proofs.lemmas.List.{length-replicate}
use Rattle.std.proofs.lemmas.List.Elements.{All-head, All-tail, All-cons}
use Rattle.relation_core.specs.Systems.{System}
use Rattle.relation_core.specs.declared.shapes.Shape.{Shape}
use Rattle.scop_data.specs.declared.affines.Affine.{Affine}
use Rattle.scop_data.specs.declared.schedules.Floor.{Floor}
use Rattle.scop_data.specs.declared.schedules.Schedule.{Schedule}
use Rattle.scop_data.specs.declared.accesses.Access.{Access}
use Rattle.scop_data.specs.SolvedRows.{zeros, constant_row, value_row, dimension_rows, value_rows, floor_rows, schedule_shape, schedule_part, access_shape, access_part, HasSizes}
use Rattle.schedule_forms.specs.SolvedForm.{each_below, value_at, floor_at, is_constant, has_beta, is_scattering, levels_from, betas_from, floors_from, schedule_of, are_equalities, is_access, values_from, access_of}
use Rattle.scop_data.specs.SolvedData.{UsesEarlier, IsSolvedSchedule, IsSolvedAccess}
use Rattle.schedule_forms.specs.SolvedLaws.{ScheduleReadsBack, AccessReadsBack}
use Rattle.schedule_forms.proofs.ReadBackLists.{true_if, and_true, same_number, weight_zeros}
use Rattle.schedule_forms.proofs.ReadBackParts.{FloorsFit, rows_part, Gives, gives, each_if}

-- a constant as an affine value
abbrev constant_value : Shape → ℤ → Affine
constant_value shape c = record { iterators = zeros shape.inputs; floors = zeros shape.locals; parameters = zeros shape.parameters; constant = c }

constant_sizes : (shape : Shape) (c : ℤ) → HasSizes shape.inputs shape.locals shape.parameters (constant_value shape c)
constant_sizes shape c = record {
  iterators_are = length-replicate shape.inputs (pos 0);
  floors_are = length-replicate shape.locals (pos 0);
  parameters_are = length-replicate shape.parameters (pos 0);
}

constant_is : (shape : Shape) (c : ℤ) → is_constant (constant_value shape c) ≡ true
constant_is shape c =
    and_true _ _ (and_true _ _ (same_number _ 0 (weight_zeros shape.inputs)) (same_number _ 0 (weight_zeros shape.locals))) (same_number _ 0 (weight_zeros shape.parameters))

-- the values of a schedule's dimensions
abbrev dimensions : Shape → List ℤ → List Affine → List Affine
dimensions shape [] levels = []
dimensions shape (beta ∷ betas) [] = constant_value shape beta ∷ []
dimensions shape (beta ∷ betas) (level ∷ levels) = constant_value shape beta ∷ (level ∷ dimensions shape betas levels)

dimensions_are : (shape : Shape) (k : ℕ) (betas : List ℤ) (levels : List Affine)
    → dimension_rows shape k betas levels ≡ value_rows shape k (dimensions shape betas levels)
dimensions_are shape k [] levels = refl
dimensions_are shape k (beta ∷ betas) [] = refl
dimensions_are shape k (beta ∷ betas) (level ∷ levels) =
    ap (λ r. constant_row shape k beta ∷ (value_row shape (k + 1) level ∷ r))
    (dimensions_are shape (k + 2) betas levels ∙ ap (λ m. value_rows shape m (dimensions shape betas levels)) (omega arith))

dimensions_count : (shape : Shape) (betas : List ℤ) (levels : List Affine) → length betas ≡ length levels + 1
    → length (dimensions shape betas levels) ≡ 2 * length levels + 1
dimensions_count shape [] levels e = absurd (omega (arith, e))
dimensions_count shape (beta ∷ []) [] e = refl
dimensions_count shape (beta ∷ (b ∷ betas)) [] e = absurd (omega (arith, e))
dimensions_count shape (beta ∷ betas) (level ∷ levels) e = omega (arith, dimensions_count shape betas levels (omega (arith, e)))

dimensions_sizes : (shape : Shape) (betas : List ℤ) (levels : List Affine) → All (HasSizes shape.inputs shape.locals shape.parameters) levels
    → All (HasSizes shape.inputs shape.locals shape.parameters) (dimensions shape betas levels)
dimensions_sizes shape [] levels h = λ k d l. absurd (omega arith)
dimensions_sizes shape (beta ∷ betas) [] h =
    All-cons (HasSizes shape.inputs shape.locals shape.parameters) (constant_value shape beta) [] (constant_sizes shape beta) (λ k d l. absurd (omega arith))
dimensions_sizes shape (beta ∷ betas) (level ∷ levels) h =
    All-cons (HasSizes shape.inputs shape.locals shape.parameters) (constant_value shape beta) (level ∷ dimensions shape betas levels) (constant_sizes shape beta)
    (All-cons (HasSizes shape.inputs shape.locals shape.parameters) level (dimensions shape betas levels)
    (All-head (HasSizes shape.inputs shape.locals shape.parameters) level levels h)
    (dimensions_sizes shape betas levels (All-tail (HasSizes shape.inputs shape.locals shape.parameters) level levels h)))

beta_at : (shape : Shape) (k : ℕ) (betas : List ℤ) (levels : List Affine) (d : Affine) (z : ℤ) → length betas ≡ length levels + 1 → k < length betas
    → get_or (dimensions shape betas levels) (2 * k) d ≡ constant_value shape (get_or betas k z)
beta_at shape k [] levels d z e h = absurd (omega arith)
beta_at shape zero (beta ∷ betas) [] d z e h = refl
beta_at shape zero (beta ∷ betas) (level ∷ levels) d z e h = refl
beta_at shape (suc k) (beta ∷ betas) [] d z e h = absurd (omega (arith, e))
beta_at shape (suc k) (beta ∷ betas) (level ∷ levels) d z e h =
    let m : 2 * suc k ≡ suc (suc (2 * k)) = omega arith in
    ap (λ n. get_or (dimensions shape (beta ∷ betas) (level ∷ levels)) n d) m ∙ beta_at shape k betas levels d z (omega (arith, e)) (omega arith)

level_at : (shape : Shape) (k : ℕ) (betas : List ℤ) (levels : List Affine) (d : Affine) → length betas ≡ length levels + 1 → k < length levels
    → get_or (dimensions shape betas levels) (2 * k + 1) d ≡ get_or levels k d
level_at shape k [] levels d e h = absurd (omega (arith, e))
level_at shape k (beta ∷ betas) [] d e h = absurd (omega arith)
level_at shape zero (beta ∷ betas) (level ∷ levels) d e h = refl
level_at shape (suc k) (beta ∷ betas) (level ∷ levels) d e h =
    let m : 2 * suc k + 1 ≡ suc (suc (2 * k + 1)) = omega arith in
    ap (λ n. get_or (dimensions shape (beta ∷ betas) (level ∷ levels)) n d) m ∙ level_at shape k betas levels d (omega (arith, e)) (omega arith)

next_place : (k j : ℕ) → (k + 1) + j ≡ k + suc j
next_place k j = omega arith

levels_are : (part : System) (k : ℕ) (levels : List Affine)
    → ((j : ℕ) (d : Affine) → j < length levels → value_at part (2 * (k + j) + 1) ≡ get_or levels j d) → levels_from part k (length levels) ≡ levels
levels_are part k [] h = refl
levels_are part k (level ∷ levels) h =
    ap (λ v. v ∷ levels_from part (k + 1) (length levels)) (ap (λ m. value_at part (2 * m + 1)) (sym (add-zero k)) ∙ h 0 level (omega arith))
    ∙ ap (λ t. level ∷ t) (levels_are part (k + 1) levels (λ j d l. ap (λ m. value_at part (2 * m + 1)) (next_place k j) ∙ h (suc j) d (omega arith)))

betas_are : (part : System) (k : ℕ) (betas : List ℤ)
    → ((j : ℕ) (d : ℤ) → j < length betas → (value_at part (2 * (k + j))).constant ≡ get_or betas j d) → betas_from part k (length betas) ≡ betas
betas_are part k [] h = refl
betas_are part k (beta ∷ betas) h =
    ap (λ v. v ∷ betas_from part (k + 1) (length betas)) (ap (λ m. (value_at part (2 * m)).constant) (sym (add-zero k)) ∙ h 0 beta (omega arith))
    ∙ ap (λ t. beta ∷ t) (betas_are part (k + 1) betas (λ j d l. ap (λ m. (value_at part (2 * m)).constant) (next_place k j) ∙ h (suc j) d (omega arith)))

floors_are : (part : System) (k : ℕ) (floors : List Floor)
    → ((j : ℕ) (d : Floor) → j < length floors → floor_at part (k + j) ≡ get_or floors j d) → floors_from part k (length floors) ≡ floors
floors_are part k [] h = refl
floors_are part k (floor ∷ floors) h =
    ap (λ v. v ∷ floors_from part (k + 1) (length floors)) (ap (λ m. floor_at part m) (sym (add-zero k)) ∙ h 0 floor (omega arith))
    ∙ ap (λ t. floor ∷ t) (floors_are part (k + 1) floors (λ j d l. ap (λ m. floor_at part m) (next_place k j) ∙ h (suc j) d (omega arith)))

values_are : (part : System) (k : ℕ) (values : List Affine)
    → ((j : ℕ) (d : Affine) → j < length values → value_at part (k + j) ≡ get_or values j d) → values_from part k (length values) ≡ values
values_are part k [] h = refl
values_are part k (value ∷ values) h =
    ap (λ v. v ∷ values_from part (k + 1) (length values)) (ap (λ m. value_at part m) (sym (add-zero k)) ∙ h 0 value (omega arith))
    ∙ ap (λ t. value ∷ t) (values_are part (k + 1) values (λ j d l. ap (λ m. value_at part m) (next_place k j) ∙ h (suc j) d (omega arith)))

floors_fit : (shape : Shape) (k : ℕ) (floors : List Floor) → k + length floors ≤ shape.locals
    → All (λ floor. HasSizes shape.inputs shape.locals shape.parameters floor.value) floors → All (λ floor. pos 1 ≤ℤ floor.size) floors
    → ((j : ℕ) (d : Floor) → j < length floors → UsesEarlier (k + j) (get_or floors j d)) → FloorsFit shape k floors
floors_fit shape k [] h sizes big earlier = tt
floors_fit shape k (floor ∷ floors) h sizes big earlier = (
  record {
    within = omega arith;
    sizes = sizes 0 floor (omega arith);
    size = big 0 floor (omega arith);
    earlier = subst (λ m. UsesEarlier m floor) (add-zero k) (earlier 0 floor (omega arith));
  },
  floors_fit shape (k + 1) floors (omega arith) (λ j d l. sizes (suc j) d (omega arith)) (λ j d l. big (suc j) d (omega arith))
      (λ j d l. subst (λ m. UsesEarlier m (get_or floors j d)) (sym (next_place k j)) (earlier (suc j) d (omega arith))),
)

abbrev schedule_values : ℕ → ℕ → Schedule → List Affine
schedule_values i p s = dimensions (schedule_shape i p s) s.betas s.levels

abbrev schedule_system : ℕ → ℕ → Schedule → System
schedule_system i p s = rows_part (schedule_shape i p s) (schedule_values i p s) s.floors

schedule_same : (i p : ℕ) (s : Schedule) → schedule_part i p s ≡ schedule_system i p s
schedule_same i p s =
    ap (λ r. record { shape = schedule_shape i p s; rows = r ++ floor_rows (schedule_shape i p s) 0 s.floors })
    (dimensions_are (schedule_shape i p s) 0 s.betas s.levels)

schedule_gives : (i p : ℕ) (s : Schedule) → IsSolvedSchedule i p s → Gives (schedule_system i p s) (schedule_values i p s) s.floors
schedule_gives i p s solved =
    gives (schedule_shape i p s) (schedule_values i p s) s.floors (dimensions_count (schedule_shape i p s) s.betas s.levels solved.relation.betas) refl
    (dimensions_sizes (schedule_shape i p s) s.betas s.levels solved.relation.levels)
    (floors_fit (schedule_shape i p s) 0 s.floors (omega arith) solved.relation.floors solved.sizes
    (λ j d l. subst (λ m. UsesEarlier m (get_or s.floors j d)) (sym (zero-add j)) (solved.earlier j d l)))

half : (m : ℕ) → (2 * m + 1) / 2 ≡ m
half m = omega arith

no_value : Affine
no_value = record { iterators = []; floors = []; parameters = []; constant = pos 0 }

scattering_reads : (i p : ℕ) (s : Schedule) → IsSolvedSchedule i p s → is_scattering (schedule_system i p s) ≡ true
scattering_reads i p s solved =
    let g = schedule_gives i p s solved in
    let count = dimensions_count (schedule_shape i p s) s.betas s.levels solved.relation.betas in
    let odd : (2 * length s.levels + 1) % 2 ≡ 1 = omega arith in
    let beta : (k : ℕ) → k < length s.levels + 1 → has_beta (schedule_system i p s) k ≡ true
    = λ k l. ap is_constant (g.value_is (2 * k) no_value (omega (arith, count)) ∙ beta_at (schedule_shape i p s) k s.betas s.levels no_value (pos 0) solved.relation.betas (omega (arith, solved.relation.betas)))
    ∙ constant_is (schedule_shape i p s) (get_or s.betas k (pos 0)) in
    and_true _ _ (and_true _ _ (and_true _ _ (and_true _ _ (same_number _ 1 odd) g.formed) g.outputs) g.locals)
    (ap (λ n. each_below (has_beta (schedule_system i p s)) (n + 1)) (half (length s.levels)) ∙ each_if _ (length s.levels + 1) beta)

schedule_reads : (i p : ℕ) (s : Schedule) → IsSolvedSchedule i p s → schedule_of (schedule_system i p s) ≡ s
schedule_reads i p s solved =
    let g = schedule_gives i p s solved in
    let count = dimensions_count (schedule_shape i p s) s.betas s.levels solved.relation.betas in
    let part = schedule_system i p s in
    let made : List Floor → List Affine → List ℤ → Schedule = λ floors levels betas. record { floors = floors; levels = levels; betas = betas } in
    let floors : floors_from part 0 (length s.floors) ≡ s.floors
    = floors_are part 0 s.floors (λ j d l. ap (λ m. floor_at part m) (zero-add j) ∙ g.floor_is j d l) in
    let levels : levels_from part 0 ((2 * length s.levels + 1) / 2) ≡ s.levels
    = ap (λ n. levels_from part 0 n) (half (length s.levels))
    ∙ levels_are part 0 s.levels (λ j d l. ap (λ m. value_at part (2 * m + 1)) (zero-add j)
    ∙ (g.value_is (2 * j + 1) d (omega (arith, count)) ∙ level_at (schedule_shape i p s) j s.betas s.levels d solved.relation.betas l)) in
    let betas : betas_from part 0 ((2 * length s.levels + 1) / 2 + 1) ≡ s.betas
    = ap (λ n. betas_from part 0 n) (ap (λ n. n + 1) (half (length s.levels)) ∙ sym solved.relation.betas)
    ∙ betas_are part 0 s.betas (λ j d l. ap (λ m. (value_at part (2 * m)).constant) (zero-add j)
    ∙ ap (λ v. v.constant) (g.value_is (2 * j) no_value (omega (arith, count, solved.relation.betas)) ∙ beta_at (schedule_shape i p s) j s.betas s.levels no_value d solved.relation.betas l)) in
    ap (λ f. made f (levels_from part 0 ((2 * length s.levels + 1) / 2)) (betas_from part 0 ((2 * length s.levels + 1) / 2 + 1))) floors
    ∙ (ap (λ l. made s.floors l (betas_from part 0 ((2 * length s.levels + 1) / 2 + 1))) levels ∙ ap (λ b. made s.floors s.levels b) betas)

pub schedule_reads_back : ScheduleReadsBack
schedule_reads_back i p s solved =
    subst (λ part. (is_scattering part ≡ true) × (schedule_of part ≡ s)) (sym (schedule_same i p s))
    (scattering_reads i p s solved, schedule_reads i p s solved)

abbrev access_values : ℕ → ℕ → Access → List Affine
access_values i p a = constant_value (access_shape i p a) a.array ∷ a.subscripts

abbrev access_system : ℕ → ℕ → Access → System
access_system i p a = rows_part (access_shape i p a) (access_values i p a) []

access_same : (i p : ℕ) (a : Access) → access_part i p a ≡ access_system i p a
access_same i p a =
    ap (λ r. record { shape = access_shape i p a; rows = r }) (sym (append-nil (value_rows (access_shape i p a) 0 (access_values i p a))))

access_gives : (i p : ℕ) (a : Access) → IsSolvedAccess i p a → Gives (access_system i p a) (access_values i p a) []
access_gives i p a solved =
    gives (access_shape i p a) (access_values i p a) [] (omega arith) refl
    (All-cons (HasSizes i 0 p) (constant_value (access_shape i p a) a.array) a.subscripts (constant_sizes (access_shape i p a) a.array) solved.relation.subscripts) tt

equalities : (shape : Shape) (k : ℕ) (values : List Affine) → are_equalities (value_rows shape k values ++ []) ≡ true
equalities shape k [] = refl
equalities shape k (v ∷ values) = equalities shape (k + 1) values

access_is : (i p : ℕ) (a : Access) → IsSolvedAccess i p a → is_access (access_system i p a) ≡ true
access_is i p a solved =
    let g = access_gives i p a solved in
    let some : nat_le 1 (length a.subscripts + 1) ≡ true = true_if _ (λ e. grind (arith, nat_tests)) in
    let first = g.value_is 0 no_value (omega arith) in
    let big = solved.identifier in
    let least : int_le (pos 1) a.array ≡ true = true_if _ (λ e. omega (arith, ints)) in
    and_true _ _ (and_true _ _ (and_true _ _ (and_true _ _ (and_true _ _ refl some) (equalities (access_shape i p a) 0 (access_values i p a))) g.formed) g.outputs)
    (and_true _ _ (ap is_constant first ∙ constant_is (access_shape i p a) a.array) (ap (λ v. int_le (pos 1) v.constant) first ∙ least))

access_reads : (i p : ℕ) (a : Access) → IsSolvedAccess i p a → access_of a.kind (access_system i p a) ≡ a
access_reads i p a solved =
    let g = access_gives i p a solved in
    let part = access_system i p a in
    let made : ℤ → List Affine → Access = λ array subscripts. record { kind = a.kind; array = array; subscripts = subscripts } in
    let one : (length a.subscripts + 1) - 1 ≡ length a.subscripts = omega arith in
    let values : values_from part 1 ((length a.subscripts + 1) - 1) ≡ a.subscripts
    = ap (λ n. values_from part 1 n) one
    ∙ values_are part 1 a.subscripts (λ j d l. ap (λ m. value_at part m) (one-add j) ∙ g.value_is (suc j) d (omega arith)) in
    ap (λ v. made v.constant (values_from part 1 ((length a.subscripts + 1) - 1))) (g.value_is 0 no_value (omega arith)) ∙ ap (λ v. made a.array v) values

pub access_reads_back : AccessReadsBack
access_reads_back i p a solved =
    subst (λ part. (is_access part ≡ true) × (access_of a.kind part ≡ a)) (sym (access_same i p a))
    (access_is i p a solved, access_reads i p a solved)
