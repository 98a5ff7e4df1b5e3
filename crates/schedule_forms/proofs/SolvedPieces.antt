-- What a part in solved form gives: rows that are there, sizes, floors that use earlier floors alone.
use Rattle.std.proofs.Common.{◌≡◌, ◌⊎◌, inl, inr, ℕ, zero, suc, ◌+◌, ◌-◌, ◌*◌, ◌/◌, ◌<◌, ◌≤◌, ◌^◌, Bool, true, false, List, [], ◌∷◌, length, take, drop, set, get_or, map, ℤ, pos, neg_ℤ, ◌≤ℤ◌, unsigned_abs, refl, ap, sym, ◌∙◌, subst, arith, add-zero, zero-add}
use Rattle.std.specs.Prelude.{slice_range, int_lt, int_le, if◌then◌else◌}
use Rattle.std.proofs.lemmas.Int.{ints}
use Rattle.std.proofs.lemmas.List.{length-map, length-take-le, length-drop, length-set, get_or-take, get_or-drop, get_or-set_same, get_or-set_other}
use Rattle.std.proofs.lemmas.Bool.Decides.{Decides-eqb}
use Rattle.row_core.specs.Rows.{entry, AreCoefficients}
use Rattle.relation_core.specs.Systems.{System, columns, width, row_at, IsWellFormed}
use Rattle.relation_core.specs.declared.shapes.Shape.{Shape}
use Rattle.relation_core.specs.declared.part_rows.PartRow.{PartRow}
use Rattle.scop_data.specs.declared.affines.Affine.{Affine}
use Rattle.scop_data.specs.declared.schedules.Floor.{Floor}
use Rattle.scop_data.specs.declared.accesses.AccessKind.{AccessKind}
use Rattle.scop_data.specs.Sequences.{In}
use Rattle.scop_data.specs.SolvedRows.{HasSizes, PairFits, HasRelation, HasAccessRelation}
use Rattle.schedule_forms.specs.SolvedForm.{weight, local_column, locals_from, is_output_row, is_low_row, is_high_row, affine_of, cleared, each_below, value_at, floor_at, size_at, output_row, low_row_of, high_row_of, has_output, has_floor, has_beta, is_pair, is_scattering, is_access, levels_from, betas_from, floors_from, values_from, schedule_of, access_of}
use Rattle.scop_data.specs.SolvedData.{UsesEarlier, IsSolvedSchedule, IsSolvedAccess}
use Rattle.schedule_forms.specs.SolvedLaws.{ScatteringIsSolved, AccessIsSolved}
use Rattle.schedule_forms.proofs.SolvedShapes.{both, each_at, pair_fits, scattering_odd, scattering_floors, access_locals, access_outputs}
use Rattle.schedule_forms.proofs.ReadBackLists.{no_entry, cleared_is, apart, Only, counted_only, only_in, only_passes}

-- a row of a list stands at some place
at_place : (r : PartRow) (rows : List PartRow) → In r rows → (k : ℕ) × (k < length rows) × (row_at rows k ≡ r)
at_place r [] h = absurd h
at_place r (row ∷ rows) (inl e) = (0, omega arith, e)
at_place r (row ∷ rows) (inr h) = let p = at_place r rows h in (suc p.0, omega (arith, p.1), p.2)

pub row_width : (part : System) (r : PartRow) → IsWellFormed part.shape part.rows → In r part.rows → length r.entries ≡ width part.shape
row_width part r formed h =
    let p = at_place r part.rows h in ap (λ row. length row.entries) (sym p.2) ∙ formed.widths p.0 p.1

row_range : (part : System) (r : PartRow) → IsWellFormed part.shape part.rows → In r part.rows → (k : ℕ) → unsigned_abs (entry r.entries k) < 2 ^ 127
row_range part r formed h k =
    let p = at_place r part.rows h in subst (λ row. unsigned_abs (entry row.entries k) < 2 ^ 127) p.2 (AreCoefficients.bound (formed.ranges p.0) k)

-- slices
pub length_slice : (row : List ℤ) (a b : ℕ) → a ≤ b → b ≤ length row → length (slice_range row a b) ≡ b - a
length_slice row a b h g = length-take-le (b - a) (drop a row) (omega (arith, length-drop a row))

pub slice_entry : (row : List ℤ) (a b k : ℕ) → a + k < b → entry (slice_range row a b) k ≡ entry row (a + k)
slice_entry row a b k h = get_or-take (b - a) (drop a row) k (pos 0) (omega arith) ∙ get_or-drop a row k (pos 0)

take_past : (n : ℕ) (row : List ℤ) (k : ℕ) → n ≤ k → entry (take n row) k ≡ pos 0
take_past zero row k h = refl
take_past (suc n) [] k h = refl
take_past (suc n) (x ∷ row) zero h = absurd (omega arith)
take_past (suc n) (x ∷ row) (suc k) h = take_past n row k (omega arith)

-- local places follow the place of the first one
same_place : (shape : Shape) (j : ℕ) → local_column shape 0 + j ≡ local_column shape j
same_place shape j = omega arith

-- an entry that is not 0 is there
is_within : (row : List ℤ) (k : ℕ) → (entry row k ≡ pos 0 → ⊥) → k < length row
is_within [] k h = absurd (h refl)
is_within (x ∷ row) zero h = omega arith
is_within (x ∷ row) (suc k) h = let l : k < length row = is_within row k h in omega arith

pub affine_sizes : (shape : Shape) (row : List ℤ) → length row ≡ width shape → HasSizes shape.inputs shape.locals shape.parameters (affine_of shape row)
affine_sizes shape row w = record {
  iterators_are = length_slice row shape.outputs (local_column shape 0) (omega arith) (omega arith) ∙ omega arith;
  floors_are = length_slice row (local_column shape 0) (local_column shape shape.locals) (omega arith) (omega arith) ∙ omega arith;
  parameters_are = length_slice row (local_column shape shape.locals) (columns shape) (omega arith) (omega arith) ∙ omega arith;
}

-- the row that gives an output, and the rows that give a floor
pub output_only : (part : System) (k : ℕ) → has_output part k ≡ true → Only (is_output_row k) part.rows (output_row part k)
output_only part k h = counted_only (is_output_row k) part.rows h

pub low_only : (part : System) (k : ℕ) → has_floor part k ≡ true → Only (is_low_row part.shape k) part.rows (low_row_of part k)
low_only part k h = counted_only (is_low_row part.shape k) part.rows (both _ _ (both _ _ h).0).0

pub high_only : (part : System) (k : ℕ) → has_floor part k ≡ true → Only (is_high_row part.shape k) part.rows (high_row_of part k)
high_only part k h = counted_only (is_high_row part.shape k) part.rows (both _ _ (both _ _ h).0).1

pub floor_pair : (part : System) (k : ℕ) → has_floor part k ≡ true
    → is_pair part.shape (size_at part k) (low_row_of part k).entries (high_row_of part k).entries ≡ true
floor_pair part k h = (both _ _ h).1

at_least_one : (z : ℤ) → int_le (pos 1) z ≡ true → pos 1 ≤ℤ z
at_least_one z h = omega (arith, ints)

not_zero : (z : ℤ) → int_lt z (pos 0) ≡ true → z ≡ pos 0 → ⊥
not_zero z h e = omega (arith, ints)

pub size_is : (part : System) (k : ℕ) → has_floor part k ≡ true → pos 1 ≤ℤ size_at part k
size_is part k h = at_least_one (size_at part k) (both _ _ (both _ _ (floor_pair part k h)).0).0

-- the value of an output has the sizes of the part
pub value_sizes : (part : System) (k : ℕ) → IsWellFormed part.shape part.rows → has_output part k ≡ true
    → HasSizes part.shape.inputs part.shape.locals part.shape.parameters (value_at part k)
value_sizes part k formed h =
    let w = row_width part (output_row part k) formed (only_in _ _ _ (output_only part k h)) in
    by (output_row part k).entries (int_lt (pos 0) (entry (output_row part k).entries k)) w
  where
    by : (row : List ℤ) (t : Bool) → length row ≡ width part.shape → HasSizes part.shape.inputs part.shape.locals part.shape.parameters (affine_of part.shape (if t then map neg_ℤ row else row))
    by row true w = affine_sizes part.shape (map neg_ℤ row) (length-map row neg_ℤ ∙ w)
    by row false w = affine_sizes part.shape row w

pub floor_sizes : (part : System) (k : ℕ) → IsWellFormed part.shape part.rows → k < part.shape.locals → has_floor part k ≡ true
    → HasSizes part.shape.inputs part.shape.locals part.shape.parameters (floor_at part k).value
floor_sizes part k formed l h =
    let w = row_width part (low_row_of part k) formed (only_in _ _ _ (low_only part k h)) in
    let row = (low_row_of part k).entries in
    let e : cleared row (local_column part.shape k) ≡ set row (local_column part.shape k) (pos 0) = cleared_is row (local_column part.shape k) (omega arith) in
    affine_sizes part.shape (cleared row (local_column part.shape k)) (ap length e ∙ (length-set row (local_column part.shape k) (pos 0) ∙ w))

-- behind the local of a floor its low row has coefficients 0
low_light : (part : System) (k : ℕ) → has_floor part k ≡ true → weight (locals_from part.shape (k + 1) (low_row_of part k).entries) ≡ 0
low_light part k h = (Decides-eqb _ 0).0 (both _ _ (both _ _ (only_passes _ _ _ (low_only part k h))).0).1

pub later_zero : (part : System) (k j : ℕ) → has_floor part k ≡ true → k < j → j < part.shape.locals
    → entry (low_row_of part k).entries (local_column part.shape j) ≡ pos 0
later_zero part k j h l g =
    let row = (low_row_of part k).entries in
    let place : local_column part.shape (k + 1) + (j - (k + 1)) ≡ local_column part.shape j = omega arith in
    ap (λ m. entry row m) (sym place)
    ∙ (sym (slice_entry row (local_column part.shape (k + 1)) (local_column part.shape part.shape.locals) (j - (k + 1)) (omega arith))
    ∙ no_entry (locals_from part.shape (k + 1) row) (low_light part k h) (j - (k + 1)))

-- the low row reaches to its local
low_reaches : (part : System) (k : ℕ) → has_floor part k ≡ true → local_column part.shape k < length (low_row_of part k).entries
low_reaches part k h =
    is_within (low_row_of part k).entries (local_column part.shape k)
    (not_zero (entry (low_row_of part k).entries (local_column part.shape k)) (both _ _ (only_passes _ _ _ (low_only part k h))).1)

-- the row of a floor with 0 at its own local has 0 from there on
cleared_zero : (part : System) (k j : ℕ) → has_floor part k ≡ true → k ≤ j → j < part.shape.locals
    → entry (cleared (low_row_of part k).entries (local_column part.shape k)) (local_column part.shape j) ≡ pos 0
cleared_zero part k j h g m =
    let row = (low_row_of part k).entries in
    let at = local_column part.shape k in
    let within = low_reaches part k h in
    ap (λ r. entry r (local_column part.shape j)) (cleared_is row at within) ∙ elim (apart k j) [
      | inl l ↦ get_or-set_other row at (local_column part.shape j) (pos 0) (pos 0) (λ e. omega arith) ∙ later_zero part k j h l m
      | inr (inl e) ↦ ap (λ i. entry (set row at (pos 0)) (local_column part.shape i)) (sym e) ∙ get_or-set_same row at (pos 0) (pos 0) within
      | inr (inr l) ↦ absurd (omega arith)
    ]

pub floor_earlier : (part : System) (k : ℕ) → has_floor part k ≡ true → UsesEarlier k (floor_at part k)
floor_earlier part k h j g = by (apart j part.shape.locals)
  where
    past : part.shape.locals ≤ j → entry (floor_at part k).value.floors j ≡ pos 0
    past m = take_past _ (drop (local_column part.shape 0) (cleared (low_row_of part k).entries (local_column part.shape k))) j (omega arith)

    by : (j < part.shape.locals) ⊎ ((j ≡ part.shape.locals) ⊎ (part.shape.locals < j)) → entry (floor_at part k).value.floors j ≡ pos 0
    by (inl m) =
        slice_entry (cleared (low_row_of part k).entries (local_column part.shape k)) (local_column part.shape 0) (local_column part.shape part.shape.locals) j (omega arith)
        ∙ (ap (λ i. entry (cleared (low_row_of part k).entries (local_column part.shape k)) i) (same_place part.shape j) ∙ cleared_zero part k j h g m)
    by (inr (inl e)) = past (omega arith)
    by (inr (inr l)) = past (omega arith)

-- the lists that a part gives
floors_entry : (part : System) (k n j : ℕ) (d : Floor) → j < n → get_or (floors_from part k n) j d ≡ floor_at part (k + j)
floors_entry part k zero j d h = absurd (omega arith)
floors_entry part k (suc n) zero d h = ap (λ m. floor_at part m) (sym (add-zero k))
floors_entry part k (suc n) (suc j) d h = floors_entry part (k + 1) n j d (omega arith) ∙ ap (λ m. floor_at part m) (omega arith)

levels_entry : (part : System) (k n j : ℕ) (d : Affine) → j < n → get_or (levels_from part k n) j d ≡ value_at part (2 * (k + j) + 1)
levels_entry part k zero j d h = absurd (omega arith)
levels_entry part k (suc n) zero d h = ap (λ m. value_at part (2 * m + 1)) (sym (add-zero k))
levels_entry part k (suc n) (suc j) d h = levels_entry part (k + 1) n j d (omega arith) ∙ ap (λ m. value_at part m) (omega arith)

values_entry : (part : System) (k n j : ℕ) (d : Affine) → j < n → get_or (values_from part k n) j d ≡ value_at part (k + j)
values_entry part k zero j d h = absurd (omega arith)
values_entry part k (suc n) zero d h = ap (λ m. value_at part m) (sym (add-zero k))
values_entry part k (suc n) (suc j) d h = values_entry part (k + 1) n j d (omega arith) ∙ ap (λ m. value_at part m) (omega arith)

pub length_floors : (part : System) (k n : ℕ) → length (floors_from part k n) ≡ n
length_floors part k zero = refl
length_floors part k (suc n) = ap suc (length_floors part (k + 1) n)

pub length_levels : (part : System) (k n : ℕ) → length (levels_from part k n) ≡ n
length_levels part k zero = refl
length_levels part k (suc n) = ap suc (length_levels part (k + 1) n)

pub length_betas : (part : System) (k n : ℕ) → length (betas_from part k n) ≡ n
length_betas part k zero = refl
length_betas part k (suc n) = ap suc (length_betas part (k + 1) n)

pub length_values : (part : System) (k n : ℕ) → length (values_from part k n) ≡ n
length_values part k zero = refl
length_values part k (suc n) = ap suc (length_values part (k + 1) n)

floor_entry : (part : System) (k : ℕ) (d : Floor) → k < length (floors_from part 0 part.shape.locals)
    → get_or (floors_from part 0 part.shape.locals) k d ≡ floor_at part k
floor_entry part k d h =
    floors_entry part 0 part.shape.locals k d (omega (arith, length_floors part 0 part.shape.locals)) ∙ ap (λ m. floor_at part m) (zero-add k)

pub scattering_outputs : (part : System) → is_scattering part ≡ true → each_below (has_output part) part.shape.outputs ≡ true
scattering_outputs part h = (both _ _ (both _ _ (both _ _ h).0).0).1

pub scattering_betas : (part : System) → is_scattering part ≡ true → each_below (has_beta part) (part.shape.outputs / 2 + 1) ≡ true
scattering_betas part h = (both _ _ h).1

-- a scattering whose schedule can be printed gives a schedule in solved form
pub solved_of_relation : (i p : ℕ) (part : System) → is_scattering part ≡ true → HasRelation i p (schedule_of part) → IsSolvedSchedule i p (schedule_of part)
solved_of_relation i p part h relation =
    let given : (k : ℕ) → k < part.shape.locals → has_floor part k ≡ true = λ k l. each_at (has_floor part) part.shape.locals k l (scattering_floors part h) in
    let count = length_floors part 0 part.shape.locals in
    record {
      relation = relation;
      sizes = λ k d l. subst (λ f. pos 1 ≤ℤ f.size) (sym (floor_entry part k d l)) (size_is part k (given k (omega (arith, count))));
      earlier = λ k d l. subst (λ f. UsesEarlier k f) (sym (floor_entry part k d l)) (floor_earlier part k (given k (omega (arith, count))));
    }

pair_at : (part : System) (k : ℕ) → IsWellFormed part.shape part.rows → k < part.shape.locals → has_floor part k ≡ true → PairFits k (floor_at part k)
pair_at part k formed l h =
    let low_in = only_in _ _ _ (low_only part k h) in
    let high_in = only_in _ _ _ (high_only part k h) in
    let range = row_range part (low_row_of part k) formed low_in (local_column part.shape k) in
    pair_fits part k (low_row_of part k) (high_row_of part k) _ _ (entry (high_row_of part k).entries (columns part.shape)) refl refl refl refl refl l h
    (row_width part (low_row_of part k) formed low_in) (omega (arith, ints)) (row_range part (high_row_of part k) formed high_in (columns part.shape))

-- a well-formed scattering gives a schedule in solved form
pub solved_is_solved : ScatteringIsSolved
solved_is_solved part formed h =
    let i = part.shape.inputs in
    let p = part.shape.parameters in
    let odd = scattering_odd part h in
    let floors = length_floors part 0 part.shape.locals in
    let levels = length_levels part 0 (part.shape.outputs / 2) in
    let betas = length_betas part 0 (part.shape.outputs / 2 + 1) in
    let given : (k : ℕ) → k < part.shape.locals → has_floor part k ≡ true = λ k l. each_at (has_floor part) part.shape.locals k l (scattering_floors part h) in
    let output : (k : ℕ) → k < part.shape.outputs → has_output part k ≡ true = λ k l. each_at (has_output part) part.shape.outputs k l (scattering_outputs part h) in
    solved_of_relation i p part h (record {
      levels = λ k d l. subst (λ v. HasSizes i (length (floors_from part 0 part.shape.locals)) p v)
          (sym (levels_entry part 0 (part.shape.outputs / 2) k d (omega (arith, levels))))
          (subst (λ n. HasSizes i n p (value_at part (2 * (0 + k) + 1))) (sym floors) (value_sizes part (2 * (0 + k) + 1) formed (output (2 * (0 + k) + 1) (omega (arith, levels)))));
      floors = λ k d l. subst (λ f. HasSizes i (length (floors_from part 0 part.shape.locals)) p f.value) (sym (floor_entry part k d l))
          (subst (λ n. HasSizes i n p (floor_at part k).value) (sym floors) (floor_sizes part k formed (omega (arith, floors)) (given k (omega (arith, floors)))));
      betas = omega (arith, levels, betas);
      limits = record {
        outputs = omega (arith, levels, formed.limits.outputs);
        inputs = formed.limits.inputs;
        locals = omega (arith, floors, formed.limits.locals);
        parameters = formed.limits.parameters;
      };
      pairs = λ k d l. subst (λ f. PairFits k f) (sym (floor_entry part k d l)) (pair_at part k formed (omega (arith, floors)) (given k (omega (arith, floors))));
    })

pub access_identifier : (part : System) → is_access part ≡ true → pos 1 ≤ℤ (value_at part 0).constant
access_identifier part h = at_least_one (value_at part 0).constant (both _ _ (both _ _ h).1).1

pub access_given : (part : System) → is_access part ≡ true → each_below (has_output part) part.shape.outputs ≡ true
access_given part h = (both _ _ (both _ _ h).0).1

-- an access relation whose access can be printed gives an access in solved form
pub access_of_relation : (i p : ℕ) (kind : AccessKind) (part : System) → is_access part ≡ true → HasAccessRelation i p (access_of kind part)
    → IsSolvedAccess i p (access_of kind part)
access_of_relation i p kind part h relation = record { relation = relation; identifier = access_identifier part h }

-- a well-formed access relation gives an access in solved form
pub access_is_solved : AccessIsSolved
access_is_solved kind part formed h =
    let i = part.shape.inputs in
    let p = part.shape.parameters in
    let some = access_outputs part h in
    let count = length_values part 1 (part.shape.outputs - 1) in
    let output : (k : ℕ) → k < part.shape.outputs → has_output part k ≡ true = λ k l. each_at (has_output part) part.shape.outputs k l (access_given part h) in
    access_of_relation i p kind part h (record {
      subscripts = λ k d l. subst (λ v. HasSizes i 0 p v) (sym (values_entry part 1 (part.shape.outputs - 1) k d (omega (arith, count))))
          (subst (λ n. HasSizes i n p (value_at part (1 + k))) (access_locals part h) (value_sizes part (1 + k) formed (output (1 + k) (omega (arith, count)))));
      limits = record {
        outputs = omega (arith, count, formed.limits.outputs);
        inputs = formed.limits.inputs;
        locals = omega arith;
        parameters = formed.limits.parameters;
      };
    })
