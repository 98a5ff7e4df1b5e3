-- The rows that are printed of well-formed parts in solved form are as wide as their shapes, and in range.
use Rattle.std.proofs.Common.{◌≡◌, refl, sym, ap, subst, ◌∙◌, ℕ, ℤ, pos, negsuc, neg_ℤ, ◌+ℤ◌, unsigned_abs, ◌+◌, ◌-◌, ◌*◌, ◌/◌, ◌^◌, ◌<◌, zero, suc, List, [], ◌∷◌, ◌++◌, length, map, take, drop, get_or, Bool, true, false, inl, inr, arith}
use Rattle.std.specs.Prelude.{slice_range, int_lt, if◌then◌else◌}
use Rattle.std.specs.List.{AllByRecursion}
use Rattle.std.proofs.lemmas.Int.{ints}
use Rattle.std.proofs.lemmas.List.{length-append}
use Rattle.std.proofs.lemmas.List.Elements.{recursion_from_All}
use Rattle.suite_base.proofs.LineCuts.{bool_tells}
use Rattle.row_core.specs.Rows.{entry, AreCoefficients}
use Rattle.relation_core.specs.declared.shapes.Shape.{Shape}
use Rattle.relation_core.specs.declared.part_rows.PartRow.{PartRow}
use Rattle.relation_core.specs.Systems.{System, columns, width, row_at, HasLimits, IsWellFormed}
use Rattle.scop_data.specs.declared.affines.Affine.{Affine}
use Rattle.scop_data.specs.declared.schedules.Floor.{Floor}
use Rattle.scop_data.specs.declared.schedules.Schedule.{Schedule}
use Rattle.scop_data.specs.declared.accesses.AccessKind.{AccessKind}
use Rattle.scop_data.specs.declared.accesses.Access.{Access}
use Rattle.scop_core.specs.SolvedRows.{zeros, unit, raised, with_columns, value_row, constant_row, dimension_rows, low_row, high_row, floor_rows, schedule_shape, schedule_rows, schedule_part, access_shape, value_rows, access_rows, access_part, HasSizes, PairFits, HasRelation, HasAccessRelation}
use Rattle.scop_core.specs.SolvedForm.{local_column, affine_of, first_row, output_row, value_at, low_row_of, cleared, floor_at, levels_from, betas_from, floors_from, schedule_of, values_from, access_of, is_scattering, is_access}
use Rattle.schedule_forms.proofs.ReadBackLists.{length_unit, length_raised}
use Rattle.schedule_forms.proofs.ReadBackRows.{Fits, first}
use Rattle.schedule_forms.proofs.SolvedPieces.{solved_is_solved, access_is_solved}
use Rattle.scop_core.specs.Held.{IsFormed}
use Rattle.scop_reader.proofs.GrammarPrinted.{AreSmall}

-- ---- lists of coefficients

small_append : (a b : List ℤ) → AreSmall a → AreSmall b → AreSmall (a ++ b)
small_append [] b h k = k
small_append (x ∷ a) b h k = (h.0, small_append a b h.1 k)

small_take : (n : ℕ) (a : List ℤ) → AreSmall a → AreSmall (take n a)
small_take zero a h = tt
small_take (suc n) [] h = tt
small_take (suc n) (x ∷ a) h = (h.0, small_take n a h.1)

small_drop : (n : ℕ) (a : List ℤ) → AreSmall a → AreSmall (drop n a)
small_drop zero a h = h
small_drop (suc n) [] h = tt
small_drop (suc n) (x ∷ a) h = small_drop n a h.1

small_slice : (a : List ℤ) (i j : ℕ) → AreSmall a → AreSmall (slice_range a i j)
small_slice a i j h = small_take (j - i) (drop i a) (small_drop i a h)

small_entry : (a : List ℤ) (k : ℕ) → AreSmall a → unsigned_abs (entry a k) < 2 ^ 127
small_entry [] k h = omega arith
small_entry (x ∷ a) zero h = h.0
small_entry (x ∷ a) (suc k) h = small_entry a k h.1

small_negative : (a : List ℤ) → AreSmall a → AreSmall (map neg_ℤ a)
small_negative [] h = tt
small_negative (x ∷ a) h = (negated x h.0, small_negative a h.1)
  where
    negated : (z : ℤ) → unsigned_abs z < 2 ^ 127 → unsigned_abs (neg_ℤ z) < 2 ^ 127
    negated z k = omega (arith, ints)

small_zeros : (n : ℕ) → AreSmall (zeros n)
small_zeros zero = tt
small_zeros (suc n) = (omega arith, small_zeros n)

small_unit : (n k : ℕ) → AreSmall (unit n k (negsuc 0))
small_unit n k = small_append (zeros k) (negsuc 0 ∷ zeros (n - (k + 1))) (small_zeros k) (omega arith, small_zeros (n - (k + 1)))

length_zeros : (n : ℕ) → length (zeros n) ≡ n
length_zeros zero = refl
length_zeros (suc n) = ap suc (length_zeros n)

length_negative : (a : List ℤ) → length (map neg_ℤ a) ≡ length a
length_negative [] = refl
length_negative (x ∷ a) = ap suc (length_negative a)

-- ---- rows

-- so many entries, and each is a coefficient
abbrev pub RowHeld : ℕ → PartRow → Type 0
RowHeld w row = (length row.entries ≡ w) × AreSmall row.entries

coefficients : (a : List ℤ) → AreSmall a → AreCoefficients a
coefficients a h = record { bound = λ k. small_entry a k h }

row_width : (w : ℕ) (rows : List PartRow) (k : ℕ) → AllByRecursion (RowHeld w) rows → k < length rows → length (row_at rows k).entries ≡ w
row_width w [] k h below = absurd (omega arith)
row_width w (row ∷ rows) zero h below = h.0.0
row_width w (row ∷ rows) (suc k) h below = row_width w rows k h.1 (omega arith)

row_range : (w : ℕ) (rows : List PartRow) (k : ℕ) → AllByRecursion (RowHeld w) rows → AreCoefficients (row_at rows k).entries
row_range w [] k h = coefficients [] tt
row_range w (row ∷ rows) zero h = coefficients row.entries h.0.1
row_range w (row ∷ rows) (suc k) h = row_range w rows k h.1

pub formed : (shape : Shape) (rows : List PartRow) → HasLimits shape → AllByRecursion (RowHeld (width shape)) rows → IsWellFormed shape rows
formed shape rows limits h = record {
  limits = limits;
  widths = λ k below. row_width (width shape) rows k h below;
  ranges = λ k. row_range (width shape) rows k h;
}

rows_append : (w : ℕ) (a b : List PartRow) → AllByRecursion (RowHeld w) a → AllByRecursion (RowHeld w) b → AllByRecursion (RowHeld w) (a ++ b)
rows_append w [] b h k = k
rows_append w (row ∷ a) b h k = (h.0, rows_append w a b h.1 k)

record SmallPieces (o i f p : List ℤ) (c : ℤ) : Type 0 where
  outputs : AreSmall o
  iterators : AreSmall i
  floors : AreSmall f
  parameters : AreSmall p
  constant : unsigned_abs c < 2 ^ 127

columns_held : (shape : Shape) (o i f p : List ℤ) (c : ℤ) → Fits shape o i f p → SmallPieces o i f p c → (length (with_columns o i f p c) ≡ width shape) × AreSmall (with_columns o i f p c)
columns_held shape o i f p c fits small =
    let wide : length (with_columns o i f p c) ≡ width shape =
    ap length (first o i f p c) ∙ omega (
      arith,
      length-append o (i ++ (f ++ (p ++ c ∷ []))),
      length-append i (f ++ (p ++ c ∷ [])),
      length-append f (p ++ c ∷ []),
      length-append p (c ∷ []),
      fits.outputs_are,
      fits.iterators_are,
      fits.floors_are,
      fits.parameters_are,
    ) in
    let all : AreSmall (o ++ (i ++ (f ++ (p ++ c ∷ [])))) =
    small_append o (i ++ (f ++ (p ++ c ∷ []))) small.outputs (small_append i (f ++ (p ++ c ∷ [])) small.iterators (small_append f (p ++ c ∷ []) small.floors (small_append p (c ∷ []) small.parameters (small.constant, tt)))) in
    (wide, subst AreSmall (sym (first o i f p c)) all)

-- ---- affine values

record SmallAffine (v : Affine) : Type 0 where
  iterators : AreSmall v.iterators
  floors : AreSmall v.floors
  parameters : AreSmall v.parameters
  constant : unsigned_abs v.constant < 2 ^ 127

affine_small : (shape : Shape) (row : List ℤ) → AreSmall row → SmallAffine (affine_of shape row)
affine_small shape row h = record {
  iterators = small_slice row shape.outputs (local_column shape 0) h;
  floors = small_slice row (local_column shape 0) (local_column shape shape.locals) h;
  parameters = small_slice row (local_column shape shape.locals) (columns shape) h;
  constant = small_entry row (columns shape) h;
}

entries_small : (es : List ℤ) → AreCoefficients es → AreSmall es
entries_small [] h = tt
entries_small (e ∷ es) h = (h.bound 0, entries_small es (record { bound = λ k. h.bound (suc k) }))

first_small : (test : PartRow → Bool) (rows : List PartRow) → ((k : ℕ) → AreCoefficients (row_at rows k).entries) → AreSmall (first_row test rows).entries
first_small test [] h = tt
first_small test (row ∷ rows) h =
    elim (bool_tells (test row)) [
      | inl e ↦ rw e (entries_small row.entries (h 0))
      | inr e ↦ rw e (first_small test rows (λ k. h (suc k)))
    ]

signed_small : (b : Bool) (row : List ℤ) → AreSmall row → AreSmall (if b then map neg_ℤ row else row)
signed_small true row h = small_negative row h
signed_small false row h = h

value_small : (part : System) (k : ℕ) → IsFormed part → SmallAffine (value_at part k)
value_small part k f =
    let row : List ℤ = (output_row part k).entries in
    affine_small part.shape (if int_lt (pos 0) (entry row k) then map neg_ℤ row else row) (signed_small (int_lt (pos 0) (entry row k)) row (first_small _ part.rows f.ranges))

floor_small : (part : System) (k : ℕ) → IsFormed part → SmallAffine (floor_at part k).value
floor_small part k f =
    let row : List ℤ = (low_row_of part k).entries in
    let column : ℕ = local_column part.shape k in
    let small : AreSmall row = first_small _ part.rows f.ranges in
    affine_small part.shape (cleared row column) (small_append (take column row) (pos 0 ∷ drop (column + 1) row) (small_take column row small) (omega arith, small_drop (column + 1) row small))

betas_small : (part : System) (k n : ℕ) → IsFormed part → AreSmall (betas_from part k n)
betas_small part k zero f = tt
betas_small part k (suc n) f = (SmallAffine.constant (value_small part (2 * k) f), betas_small part (k + 1) n f)

levels_small : (part : System) (k n : ℕ) → IsFormed part → AllByRecursion SmallAffine (levels_from part k n)
levels_small part k zero f = tt
levels_small part k (suc n) f = (value_small part (2 * k + 1) f, levels_small part (k + 1) n f)

floors_small : (part : System) (k n : ℕ) → IsFormed part → AllByRecursion (λ floor. SmallAffine floor.value) (floors_from part k n)
floors_small part k zero f = tt
floors_small part k (suc n) f = (floor_small part k f, floors_small part (k + 1) n f)

values_small : (part : System) (k n : ℕ) → IsFormed part → AllByRecursion SmallAffine (values_from part k n)
values_small part k zero f = tt
values_small part k (suc n) f = (value_small part k f, values_small part (k + 1) n f)

-- ---- the rows of values

value_held : (shape : Shape) (k : ℕ) (v : Affine) → k < shape.outputs → HasSizes shape.inputs shape.locals shape.parameters v → SmallAffine v → RowHeld (width shape) (value_row shape k v)
value_held shape k v below sizes small =
    columns_held shape (unit shape.outputs k (negsuc 0)) v.iterators v.floors v.parameters v.constant
    (record { outputs_are = length_unit shape.outputs k (negsuc 0) below; iterators_are = sizes.iterators_are; floors_are = sizes.floors_are; parameters_are = sizes.parameters_are })
    (record { outputs = small_unit shape.outputs k; iterators = small.iterators; floors = small.floors; parameters = small.parameters; constant = small.constant })

constant_held : (shape : Shape) (k : ℕ) (c : ℤ) → k < shape.outputs → unsigned_abs c < 2 ^ 127 → RowHeld (width shape) (constant_row shape k c)
constant_held shape k c below small =
    columns_held shape (unit shape.outputs k (negsuc 0)) (zeros shape.inputs) (zeros shape.locals) (zeros shape.parameters) c
    (record { outputs_are = length_unit shape.outputs k (negsuc 0) below; iterators_are = length_zeros shape.inputs; floors_are = length_zeros shape.locals; parameters_are = length_zeros shape.parameters })
    (record { outputs = small_unit shape.outputs k; iterators = small_zeros shape.inputs; floors = small_zeros shape.locals; parameters = small_zeros shape.parameters; constant = small })

dimensions_held : (shape : Shape) (k : ℕ) (betas : List ℤ) (levels : List Affine) → length betas ≡ length levels + 1 → k + 2 * length levels + 1 ≡ shape.outputs
    → AllByRecursion (HasSizes shape.inputs shape.locals shape.parameters) levels → AllByRecursion SmallAffine levels → AreSmall betas → AllByRecursion (RowHeld (width shape)) (dimension_rows shape k betas levels)
dimensions_held shape k [] levels count outputs sizes values small = tt
dimensions_held shape k (beta ∷ betas) [] count outputs sizes values small = (constant_held shape k beta (omega (arith, outputs)) small.0, tt)
dimensions_held shape k (beta ∷ betas) (level ∷ levels) count outputs sizes values small = (
  constant_held shape k beta (omega (arith, outputs)) small.0,
  (
    value_held shape (k + 1) level (omega (arith, outputs)) sizes.0 values.0,
    dimensions_held shape (k + 2) betas levels (omega (arith, count)) (omega (arith, outputs)) sizes.1 values.1 small.1,
  ),
)

values_held : (shape : Shape) (k : ℕ) (values : List Affine) → k + length values ≡ shape.outputs → AllByRecursion (HasSizes shape.inputs shape.locals shape.parameters) values
    → AllByRecursion SmallAffine values → AllByRecursion (RowHeld (width shape)) (value_rows shape k values)
values_held shape k [] outputs sizes small = tt
values_held shape k (v ∷ values) outputs sizes small =
    (value_held shape k v (omega (arith, outputs)) sizes.0 small.0, values_held shape (k + 1) values (omega (arith, outputs)) sizes.1 small.1)

-- ---- the rows of floors

-- the rows of each floor are in range, the first one's for the local at place k
abbrev PairsFrom : ℕ → List Floor → Type 0
PairsFrom k [] = Unit {0}
PairsFrom k (floor ∷ floors) = PairFits k floor × PairsFrom (k + 1) floors

pairs_from : (k : ℕ) (floors : List Floor) → ((j : ℕ) (floor : Floor) → j < length floors → PairFits (k + j) (get_or floors j floor)) → PairsFrom k floors
pairs_from k [] h = tt
pairs_from k (floor ∷ floors) h =
    let here : PairFits k floor = subst (λ (n : ℕ). PairFits n floor) (omega arith) (h 0 floor (omega arith)) in
    (here, pairs_from (k + 1) floors (λ j x below. subst (λ (n : ℕ). PairFits n (get_or floors j x)) (omega arith) (h (suc j) x (omega arith))))

raised_small : (row : List ℤ) (k : ℕ) (z : ℤ) → AreSmall row → unsigned_abs (entry row k +ℤ z) < 2 ^ 127 → AreSmall (raised row k z)
raised_small row k z h one = small_append (take k row) ((entry row k +ℤ z) ∷ drop (k + 1) row) (small_take k row h) (one, small_drop (k + 1) row h)

floors_held : (shape : Shape) (k : ℕ) (floors : List Floor) → k + length floors ≡ shape.locals → AllByRecursion (λ floor. HasSizes shape.inputs shape.locals shape.parameters floor.value) floors
    → AllByRecursion (λ floor. SmallAffine floor.value) floors → PairsFrom k floors → AllByRecursion (RowHeld (width shape)) (floor_rows shape k floors)
floors_held shape k [] locals sizes small pairs = tt
floors_held shape k (floor ∷ floors) locals sizes small pairs =
    let v : Affine = floor.value in
    let f : List ℤ = raised v.floors k (neg_ℤ floor.size) in
    let within : k < length v.floors = omega (arith, sizes.0.floors_are, locals) in
    let long : length f ≡ shape.locals = length_raised v.floors k (neg_ℤ floor.size) within ∙ sizes.0.floors_are in
    let f_small : AreSmall f = raised_small v.floors k (neg_ℤ floor.size) small.0.floors pairs.0.local in
    let low : RowHeld (width shape) (low_row shape k floor) = columns_held shape (zeros shape.outputs) v.iterators f v.parameters v.constant
    (record { outputs_are = length_zeros shape.outputs; iterators_are = sizes.0.iterators_are; floors_are = long; parameters_are = sizes.0.parameters_are })
    (record { outputs = small_zeros shape.outputs; iterators = small.0.iterators; floors = f_small; parameters = small.0.parameters; constant = small.0.constant }) in
    let high : RowHeld (width shape) (high_row shape k floor) = columns_held shape (zeros shape.outputs) (map neg_ℤ v.iterators) (map neg_ℤ f) (map neg_ℤ v.parameters) ((neg_ℤ v.constant +ℤ floor.size) +ℤ negsuc 0)
    (record { outputs_are = length_zeros shape.outputs; iterators_are = length_negative v.iterators ∙ sizes.0.iterators_are; floors_are = length_negative f ∙ long; parameters_are = length_negative v.parameters ∙ sizes.0.parameters_are })
    (record { outputs = small_zeros shape.outputs; iterators = small_negative v.iterators small.0.iterators; floors = small_negative f f_small; parameters = small_negative v.parameters small.0.parameters; constant = pairs.0.constant }) in
    (low, (high, floors_held shape (k + 1) floors (omega (arith, locals)) sizes.1 small.1 pairs.1))

-- ---- what is printed of solved parts

-- the numbers of a schedule are coefficients
record SmallSchedule (schedule : Schedule) : Type 0 where
  floors : AllByRecursion (λ floor. SmallAffine floor.value) schedule.floors
  levels : AllByRecursion SmallAffine schedule.levels
  betas : AreSmall schedule.betas

schedule_formed : (i p : ℕ) (s : Schedule) → HasRelation i p s → SmallSchedule s → IsFormed (schedule_part i p s)
schedule_formed i p s r small =
    let shape : Shape = schedule_shape i p s in
    let pairs : PairsFrom 0 s.floors = pairs_from 0 s.floors (λ j floor below. subst (λ (n : ℕ). PairFits n (get_or s.floors j floor)) (omega arith) (r.pairs j floor below)) in
    formed shape (schedule_rows i p s) r.limits (rows_append (width shape) (dimension_rows shape 0 s.betas s.levels) (floor_rows shape 0 s.floors)
    (dimensions_held shape 0 s.betas s.levels r.betas (omega arith) (recursion_from_All (HasSizes i (length s.floors) p) s.levels r.levels) small.levels small.betas)
    (floors_held shape 0 s.floors (omega arith) (recursion_from_All (λ (floor : Floor). HasSizes i (length s.floors) p floor.value) s.floors r.floors) small.floors pairs))

access_formed : (i p : ℕ) (a : Access) → HasAccessRelation i p a → unsigned_abs a.array < 2 ^ 127 → AllByRecursion SmallAffine a.subscripts → IsFormed (access_part i p a)
access_formed i p a r array small =
    let shape : Shape = access_shape i p a in
    formed shape (access_rows i p a) r.limits
    (constant_held shape 0 a.array (omega arith) array, values_held shape 1 a.subscripts (omega arith) (recursion_from_All (HasSizes i 0 p) a.subscripts r.subscripts) small)

pub scattering_formed : (part : System) → IsFormed part → is_scattering part ≡ true → IsFormed (schedule_part part.shape.inputs part.shape.parameters (schedule_of part))
scattering_formed part f h =
    let solved = solved_is_solved part f h in
    schedule_formed part.shape.inputs part.shape.parameters (schedule_of part) solved.relation (record {
      floors = floors_small part 0 part.shape.locals f;
      levels = levels_small part 0 (part.shape.outputs / 2) f;
      betas = betas_small part 0 (part.shape.outputs / 2 + 1) f;
    })

pub access_part_formed : (kind : AccessKind) (part : System) → IsFormed part → is_access part ≡ true → IsFormed (access_part part.shape.inputs part.shape.parameters (access_of kind part))
access_part_formed kind part f h =
    let solved = access_is_solved kind part f h in
    access_formed part.shape.inputs part.shape.parameters (access_of kind part) solved.relation (SmallAffine.constant (value_small part 0 f)) (values_small part 1 (part.shape.outputs - 1) f)
