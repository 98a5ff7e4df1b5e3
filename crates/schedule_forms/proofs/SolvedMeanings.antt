-- The rows of a part in solved form allow the values that it gives, and no others.
use Rattle.std.proofs.Common.{◌≡◌, inl, inr, ℕ, zero, suc, ◌+◌, ◌-◌, ◌*◌, ◌/◌, ◌<◌, ◌≤◌, Bool, true, false, List, [], ◌∷◌, ◌++◌, length, take, drop, map, ℤ, pos, ◌+ℤ◌, unsigned_abs, refl, ap, sym, ◌∙◌, subst, arith, add-one, add-zero, zero-add}
use Rattle.std.specs.Prelude.{int_lt, not, ◌==◌, ◌↔◌}
use Rattle.std.proofs.lemmas.Int.{ints}
use Rattle.std.proofs.lemmas.Bool.Decides.{Decides-eqb}
use Rattle.std.proofs.lemmas.List.{length-append, take_all, take-take, get_or-take, ext_get_or, get_or_push, take-append-le}
use Rattle.std.proofs.Math.Seq.{take-suc}
use Rattle.row_core.specs.Rows.{entry, dot}
use Rattle.relation_core.specs.Systems.{System, IsWellFormed}
use Rattle.relation_core.specs.Points.{Meets, MeetsAll, coordinates, LiesIn}
use Rattle.relation_core.specs.declared.part_rows.PartRow.{PartRow}
use Rattle.scop_data.specs.declared.affines.Affine.{Affine}
use Rattle.scop_data.specs.Sequences.{In}
use Rattle.schedule_forms.specs.SolvedForm.{weight, is_equality, outputs_of, local_column, locals_from, is_output_row, is_local_row, is_low_row, is_high_row, affine_of, value_at, floor_at, size_at, output_row, low_row_of, high_row_of, has_output, has_floor, has_beta, is_constant, is_scattering, is_access, levels_from, betas_from, floors_from, values_from, schedule_of, access_of}
use Rattle.scop_data.specs.Meaning.{affine_at, floor_of, floors_after, levels_at, interleaved, stamp_of, use_at}
use Rattle.schedule_forms.specs.SolvedLaws.{cell_list, SolvedScheduleMeansItsRelation, SolvedAccessMeansItsRelation}
use Rattle.schedule_forms.proofs.SolvedShapes.{both, each_at, scattering_odd, scattering_floors, access_locals, access_outputs}
use Rattle.schedule_forms.proofs.SolvedPieces.{row_width, output_only, low_only, high_only, floor_earlier, scattering_outputs, scattering_betas, access_given}
use Rattle.schedule_forms.proofs.SolvedDots.{Point, dot_zero, dot_take, split_fits, split_row}
use Rattle.schedule_forms.proofs.SolvedRowMeanings.{Solved, formed_in, formed_output, formed_some, output_place, local_place, output_meets, floor_meets}
use Rattle.schedule_forms.proofs.ReadBackLists.{true_if, and_true, same_number, other_number, apart, no_entry, Only, only_in, only_one}
use Rattle.schedule_forms.proofs.ReadBackRows.{locals_piece}

-- rows one by one
one_meets : (rows : List PartRow) (r : PartRow) (v : List ℤ) → MeetsAll rows v → In r rows → Meets r.kind (dot r.entries v)
one_meets [] r v h i = absurd i
one_meets (row ∷ rows) r v h (inl e) = subst (λ t. Meets t.kind (dot t.entries v)) e h.0
one_meets (row ∷ rows) r v h (inr i) = one_meets rows r v h.1 i

all_meet : (rows : List PartRow) (v : List ℤ) → ((r : PartRow) → In r rows → Meets r.kind (dot r.entries v)) → MeetsAll rows v
all_meet [] v h = tt
all_meet (row ∷ rows) v h = (h row (inl refl), all_meet rows v (λ r i. h r (inr i)))

-- an entry that is not 0, and the last one
some_entry : (a : List ℤ) → 1 ≤ weight a → (k : ℕ) × (k < length a) × (1 ≤ unsigned_abs (entry a k))
some_entry [] h = absurd (omega arith)
some_entry (z ∷ a) h = by (unsigned_abs z) refl (some_entry a)
  where
    by : (m : ℕ) → unsigned_abs z ≡ m → (1 ≤ weight a → (k : ℕ) × (k < length a) × (1 ≤ unsigned_abs (entry a k)))
        → (k : ℕ) × (k < length (z ∷ a)) × (1 ≤ unsigned_abs (entry (z ∷ a) k))
    by zero e rest = let r = rest (omega arith) in (suc r.0, omega (arith, r.1), r.2)
    by (suc m) e rest = (zero, omega arith, omega (arith, e))

last_entry : (a : List ℤ) → 1 ≤ weight a → (k : ℕ) × (k < length a) × (1 ≤ unsigned_abs (entry a k)) × (weight (drop (suc k) a) ≡ 0)
last_entry [] h = absurd (omega arith)
last_entry (z ∷ a) h = by (weight a) refl (last_entry a)
  where
    by : (m : ℕ) → weight a ≡ m → (1 ≤ weight a → (k : ℕ) × (k < length a) × (1 ≤ unsigned_abs (entry a k)) × (weight (drop (suc k) a) ≡ 0))
        → (k : ℕ) × (k < length (z ∷ a)) × (1 ≤ unsigned_abs (entry (z ∷ a) k)) × (weight (drop (suc k) (z ∷ a)) ≡ 0)
    by zero e rest = (zero, omega arith, omega (arith, e), e)
    by (suc m) e rest = let r = rest (omega (arith, e)) in (suc r.0, omega (arith, r.1), r.2, r.3)

-- a point at which each output has its value and each local is its floor
record Right (part : System) (y x l n : List ℤ) : Type 0 where
  point : Point part.shape y x l n
  outputs : (k : ℕ) → k < part.shape.outputs → entry y k ≡ affine_at (value_at part k) x l n
  floors : (k : ℕ) → k < part.shape.locals → entry l k ≡ floor_of (affine_at (floor_at part k).value x l n) (size_at part k)

right_of : (part : System) (y x l n : List ℤ) → Solved part → Point part.shape y x l n → MeetsAll part.rows (coordinates y x l n) → Right part y x l n
right_of part y x l n solved at meets = record {
  point = at;
  outputs = λ k h. (output_meets part k y x l n solved at h).0
      (one_meets part.rows (output_row part k) (coordinates y x l n) meets (only_in _ _ _ (output_only part k (solved.outputs k h))));
  floors = λ k h. (floor_meets part k y x l n solved at h).0 (
    one_meets part.rows (low_row_of part k) (coordinates y x l n) meets (only_in _ _ _ (low_only part k (solved.floors k h))),
    one_meets part.rows (high_row_of part k) (coordinates y x l n) meets (only_in _ _ _ (high_only part k (solved.floors k h))),
  );
}

-- an inequality whose last local is known is the low or the high row of that local
by_sign : (part : System) (k : ℕ) (r : PartRow) (v : List ℤ) → Only (is_low_row part.shape k) part.rows (low_row_of part k)
    → Only (is_high_row part.shape k) part.rows (high_row_of part k) → In r part.rows → is_local_row part.shape k r ≡ true → 1 ≤ unsigned_abs (entry r.entries (local_column part.shape k))
    → (Meets (low_row_of part k).kind (dot (low_row_of part k).entries v) × Meets (high_row_of part k).kind (dot (high_row_of part k).entries v))
    → (t : Bool) → int_lt (entry r.entries (local_column part.shape k)) (pos 0) ≡ t → Meets r.kind (dot r.entries v)
by_sign part k r v low high member local some rows true e =
    let same : r ≡ low_row_of part k = only_one _ _ _ r low member (and_true _ _ local e) in
    subst (λ t. Meets t.kind (dot t.entries v)) (sym same) rows.0
by_sign part k r v low high member local some rows false e =
    let positive : int_lt (pos 0) (entry r.entries (local_column part.shape k)) ≡ true = true_if _ (λ g. omega (arith, ints)) in
    let same : r ≡ high_row_of part k = only_one _ _ _ r high member (and_true _ _ local positive) in
    subst (λ t. Meets t.kind (dot t.entries v)) (sym same) rows.1

-- every row of the part is one of these
row_meets : (part : System) (y x l n : List ℤ) → Solved part → Right part y x l n → (r : PartRow) → In r part.rows → Meets r.kind (dot r.entries (coordinates y x l n))
row_meets part y x l n solved right r member = by (is_equality r.kind) refl
  where
    by : (t : Bool) → is_equality r.kind ≡ t → Meets r.kind (dot r.entries (coordinates y x l n))
    by true e =
        let formed = formed_in part.shape part.rows r solved.formed member in
        let fits = split_fits part.shape r.entries (row_width part r solved.well member) in
        let one : weight (outputs_of part.shape r.entries) ≡ 1 = formed_output part.shape r formed e in
        let found = some_entry (outputs_of part.shape r.entries) (omega (arith, one)) in
        let k = found.0 in
        let h : k < part.shape.outputs = omega (arith, found.1, fits.outputs_are) in
        let here : entry (outputs_of part.shape r.entries) k ≡ entry r.entries k = output_place part.shape r.entries k h in
        let some : 1 ≤ unsigned_abs (entry r.entries k) = subst (λ z. 1 ≤ unsigned_abs z) here found.2 in
        let passes : is_output_row k r ≡ true = and_true _ _ e (ap not (other_number (unsigned_abs (entry r.entries k)) 0 (λ z. omega arith))) in
        let same : r ≡ output_row part k = only_one _ _ _ r (output_only part k (solved.outputs k h)) member passes in
        subst (λ t. Meets t.kind (dot t.entries (coordinates y x l n))) (sym same) ((output_meets part k y x l n solved right.point h).1 (right.outputs k h))
    by false e =
        let formed = formed_in part.shape part.rows r solved.formed member in
        let w = row_width part r solved.well member in
        let fits = split_fits part.shape r.entries w in
        let f = (affine_of part.shape r.entries).floors in
        let found = last_entry f (formed_some part.shape r formed e) in
        let k = found.0 in
        let h : k < part.shape.locals = omega (arith, found.1, fits.floors_are) in
        let z = entry r.entries (local_column part.shape k) in
        let here : entry f k ≡ z = local_place part.shape r.entries k h in
        let some : 1 ≤ unsigned_abs z = subst (λ v. 1 ≤ unsigned_abs v) here found.2 in
        let later : locals_from part.shape (k + 1) r.entries ≡ drop (k + 1) f
        = ap (λ row. locals_from part.shape (k + 1) row) (split_row part.shape r.entries w)
        ∙ locals_piece part.shape (outputs_of part.shape r.entries) (affine_of part.shape r.entries).iterators f (affine_of part.shape r.entries).parameters (affine_of part.shape r.entries).constant (k + 1) fits (omega arith) in
        let light : weight (locals_from part.shape (k + 1) r.entries) ≡ 0 = ap weight later ∙ (ap (λ m. weight (drop m f)) (add-one k) ∙ found.3) in
        let local : is_local_row part.shape k r ≡ true = and_true _ _ (ap not e) (same_number _ 0 light) in
        let given = solved.floors k h in
        let rows = (floor_meets part k y x l n solved right.point h).1 (right.floors k h) in
        by_sign part k r (coordinates y x l n) (low_only part k given) (high_only part k given) member local some rows (int_lt z (pos 0)) refl

-- the floors, each from those before it
pub record Follows (part : System) (x n : List ℤ) (k m : ℕ) (earlier l : List ℤ) : Type 0 where
  front : take k l ≡ earlier
  count : length l ≡ k + m
  each : (j : ℕ) → k ≤ j → j < k + m → entry l j ≡ floor_of (affine_at (floor_at part j).value x (take j l) n) (size_at part j)

pub follows : (part : System) (x n : List ℤ) (k m : ℕ) (earlier : List ℤ) → length earlier ≡ k → Follows part x n k m earlier (floors_after earlier (floors_from part k m) x n)
follows part x n k zero earlier e =
    record { front = take_all k earlier (omega arith); count = omega arith; each = λ j g h. absurd (omega arith) }
follows part x n k (suc m) earlier e =
    let v = floor_of (affine_at (floor_at part k).value x earlier n) (size_at part k) in
    let l = floors_after (earlier ++ v ∷ []) (floors_from part (k + 1) m) x n in
    let rest : Follows part x n (k + 1) m (earlier ++ v ∷ []) l = follows part x n (k + 1) m (earlier ++ v ∷ []) (length-append earlier (v ∷ []) ∙ omega arith) in
    let front : take k l ≡ earlier
    = sym (take-take k (k + 1) l (omega arith)) ∙ (ap (λ t. take k t) rest.front ∙ (take-append-le k earlier (v ∷ []) (omega arith) ∙ take_all k earlier (omega arith))) in
    let here : entry l k ≡ v
    = sym (get_or-take (k + 1) l k (pos 0) (omega arith)) ∙ (ap (λ t. entry t k) rest.front ∙ get_or_push earlier v (pos 0) k e) in
    let own : entry l k ≡ floor_of (affine_at (floor_at part k).value x (take k l) n) (size_at part k)
    = here ∙ ap (λ t. floor_of (affine_at (floor_at part k).value x t n) (size_at part k)) (sym front) in
    record {
      front = front;
      count = rest.count ∙ omega arith;
      each = λ j g h. from (λ i. entry l i ≡ floor_of (affine_at (floor_at part i).value x (take i l) n) (size_at part i)) k j own (rest.each j) g h;
    }
  where
    from : (P : ℕ → Type 0) (a j : ℕ) → P a → (a + 1 ≤ j → j < (a + 1) + m → P j) → a ≤ j → j < a + suc m → P j
    from P a j here later g h = elim (apart a j) [ inl l ↦ later (omega arith) (omega arith) | inr (inl e) ↦ subst P e here | inr (inr l) ↦ absurd (omega arith) ]

affine_take : (value : Affine) (x l n : List ℤ) (k : ℕ) → ((j : ℕ) → k ≤ j → entry value.floors j ≡ pos 0) → affine_at value x (take k l) n ≡ affine_at value x l n
affine_take value x l n k h = ap (λ d. ((dot value.iterators x +ℤ d) +ℤ dot value.parameters n) +ℤ value.constant) (dot_take value.floors l k h)

floors_give : (part : System) (x l n : List ℤ) (k m : ℕ) → Solved part → length l ≡ part.shape.locals → k + m ≡ part.shape.locals
    → ((j : ℕ) → j < part.shape.locals → entry l j ≡ floor_of (affine_at (floor_at part j).value x l n) (size_at part j))
    → floors_after (take k l) (floors_from part k m) x n ≡ l
floors_give part x l n k zero solved count e each = take_all k l (omega arith)
floors_give part x l n k (suc m) solved count e each =
    let h : k < part.shape.locals = omega arith in
    let value : floor_of (affine_at (floor_at part k).value x (take k l) n) (size_at part k) ≡ entry l k
    = ap (λ d. floor_of d (size_at part k)) (affine_take (floor_at part k).value x l n k (floor_earlier part k (solved.floors k h))) ∙ sym (each k h) in
    let step : take k l ++ floor_of (affine_at (floor_at part k).value x (take k l) n) (size_at part k) ∷ [] ≡ take (k + 1) l
    = ap (λ z. take k l ++ z ∷ []) value ∙ (sym (take-suc l k (pos 0) (omega arith)) ∙ ap (λ i. take i l) (sym (add-one k))) in
    ap (λ t. floors_after t (floors_from part (k + 1) m) x n) step ∙ floors_give part x l n (k + 1) m solved count (omega arith) each

-- the values of the floors of a part
abbrev floors_at : System → List ℤ → List ℤ → List ℤ
floors_at part x n = floors_after [] (floors_from part 0 part.shape.locals) x n

-- the values of m outputs from place k on
abbrev outputs_at : System → List ℤ → List ℤ → List ℤ → ℕ → ℕ → List ℤ
outputs_at part x l n k zero = []
outputs_at part x l n k (suc m) = affine_at (value_at part k) x l n ∷ outputs_at part x l n (k + 1) m

outputs_length : (part : System) (x l n : List ℤ) (k m : ℕ) → length (outputs_at part x l n k m) ≡ m
outputs_length part x l n k zero = refl
outputs_length part x l n k (suc m) = ap suc (outputs_length part x l n (k + 1) m)

outputs_entry : (part : System) (x l n : List ℤ) (k m j : ℕ) → j < m → entry (outputs_at part x l n k m) j ≡ affine_at (value_at part (k + j)) x l n
outputs_entry part x l n k zero j h = absurd (omega arith)
outputs_entry part x l n k (suc m) zero h = ap (λ i. affine_at (value_at part i) x l n) (sym (add-zero k))
outputs_entry part x l n k (suc m) (suc j) h =
    let place : (k + 1) + j ≡ k + suc j = omega arith in
    outputs_entry part x l n (k + 1) m j (omega arith) ∙ ap (λ i. affine_at (value_at part i) x l n) place

-- the rows allow these outputs and no others
lies_in : (part : System) (y x n : List ℤ) → Solved part → length y ≡ part.shape.outputs → length x ≡ part.shape.inputs → length n ≡ part.shape.parameters
    → LiesIn part y x n ↔ (y ≡ outputs_at part x (floors_at part x n) n 0 part.shape.outputs)
lies_in part y x n solved ey ex en = (forth, back)
  where
    forth : LiesIn part y x n → y ≡ outputs_at part x (floors_at part x n) n 0 part.shape.outputs
    forth lies =
        let l = lies.locals in
        let right = right_of part y x l n solved (record { outputs_are = ey; inputs_are = ex; locals_are = lies.locals_are; parameters_are = en }) lies.meets in
        let floors : floors_at part x n ≡ l = floors_give part x l n 0 part.shape.locals solved lies.locals_are (zero-add part.shape.locals) right.floors in
        let values : y ≡ outputs_at part x l n 0 part.shape.outputs
        = ext_get_or (pos 0) y (outputs_at part x l n 0 part.shape.outputs) (ey ∙ sym (outputs_length part x l n 0 part.shape.outputs))
        (λ k h. right.outputs k (omega arith) ∙ (ap (λ i. affine_at (value_at part i) x l n) (sym (zero-add k)) ∙ sym (outputs_entry part x l n 0 part.shape.outputs k (omega arith)))) in
        values ∙ ap (λ t. outputs_at part x t n 0 part.shape.outputs) (sym floors)

    back : y ≡ outputs_at part x (floors_at part x n) n 0 part.shape.outputs → LiesIn part y x n
    back e =
        let l = floors_at part x n in
        let f : Follows part x n 0 part.shape.locals [] l = follows part x n 0 part.shape.locals [] refl in
        let count : length l ≡ part.shape.locals = f.count ∙ zero-add part.shape.locals in
        let right : Right part y x l n
        = record {
          point = record { outputs_are = ey; inputs_are = ex; locals_are = count; parameters_are = en };
          outputs = λ k h. ap (λ t. entry t k) e ∙ (outputs_entry part x l n 0 part.shape.outputs k h ∙ ap (λ i. affine_at (value_at part i) x l n) (zero-add k));
          floors = λ k h. f.each k (omega arith) (omega arith) ∙ ap (λ d. floor_of d (size_at part k)) (affine_take (floor_at part k).value x l n k (floor_earlier part k (solved.floors k h)));
        } in
        record { outputs_are = ey; inputs_are = ex; parameters_are = en; locals = l; locals_are = count; meets = all_meet part.rows (coordinates y x l n) (row_meets part y x l n solved right) }

-- the value of a constant
constant_at : (value : Affine) (x l n : List ℤ) → is_constant value ≡ true → affine_at value x l n ≡ value.constant
constant_at value x l n h =
    let p = both _ _ h in
    let q = both _ _ p.0 in
    let none : (a v : List ℤ) → (weight a == 0) ≡ true → dot a v ≡ pos 0 = λ a v t. dot_zero a v (λ j. no_entry a ((Decides-eqb (weight a) 0).0 t) j) in
    let i : dot value.iterators x ≡ pos 0 = none value.iterators x q.0 in
    let f : dot value.floors l ≡ pos 0 = none value.floors l q.1 in
    let r : dot value.parameters n ≡ pos 0 = none value.parameters n p.1 in
    omega (arith, ints)

-- betas and levels in turn are the values of the outputs
stamp_outputs : (part : System) (x l n : List ℤ) (k m : ℕ) → ((j : ℕ) → k ≤ j → j < k + (m + 1) → has_beta part j ≡ true)
    → interleaved (betas_from part k (m + 1)) (levels_at (levels_from part k m) x l n) ≡ outputs_at part x l n (2 * k) (2 * m + 1)
stamp_outputs part x l n k zero h =
    ap (λ z. z ∷ []) (sym (constant_at (value_at part (2 * k)) x l n (h k (omega arith) (omega arith))))
stamp_outputs part x l n k (suc m) h =
    let more : suc m + 1 ≡ suc (m + 1) = omega arith in
    let count : 2 * suc m + 1 ≡ suc (suc (2 * m + 1)) = omega arith in
    let place : 2 * (k + 1) ≡ (2 * k + 1) + 1 = omega arith in
    let v = affine_at (value_at part (2 * k + 1)) x l n in
    let beta : (value_at part (2 * k)).constant ≡ affine_at (value_at part (2 * k)) x l n
    = sym (constant_at (value_at part (2 * k)) x l n (h k (omega arith) (omega arith))) in
    let rest : interleaved (betas_from part (k + 1) (m + 1)) (levels_at (levels_from part (k + 1) m) x l n) ≡ outputs_at part x l n (2 * (k + 1)) (2 * m + 1)
    = stamp_outputs part x l n (k + 1) m (λ j g i. h j (omega arith) (omega arith)) in
    ap (λ c. interleaved (betas_from part k c) (levels_at (levels_from part k (suc m)) x l n)) more
    ∙ (ap (λ z. z ∷ (v ∷ interleaved (betas_from part (k + 1) (m + 1)) (levels_at (levels_from part (k + 1) m) x l n))) beta
    ∙ (ap (λ t. affine_at (value_at part (2 * k)) x l n ∷ (v ∷ t)) (rest ∙ ap (λ i. outputs_at part x l n i (2 * m + 1)) place)
    ∙ ap (λ c. outputs_at part x l n (2 * k) c) (sym count)))

scattering_solved : (part : System) → IsWellFormed part.shape part.rows → is_scattering part ≡ true → Solved part
scattering_solved part formed h = record {
  well = formed;
  formed = (both _ _ (both _ _ (both _ _ (both _ _ h).0).0).0).1;
  outputs = λ k l. each_at (has_output part) part.shape.outputs k l (scattering_outputs part h);
  floors = λ k l. each_at (has_floor part) part.shape.locals k l (scattering_floors part h);
}

pub schedule_means : SolvedScheduleMeansItsRelation
schedule_means part formed h y x n ey ex en =
    let l = floors_at part x n in
    let odd = scattering_odd part h in
    let count : 2 * (part.shape.outputs / 2) + 1 ≡ part.shape.outputs = omega (arith, odd) in
    let stamp : stamp_of (schedule_of part) x n ≡ outputs_at part x l n 0 part.shape.outputs
    = stamp_outputs part x l n 0 (part.shape.outputs / 2) (λ j g i. each_at (has_beta part) (part.shape.outputs / 2 + 1) j (omega arith) (scattering_betas part h))
    ∙ ap (λ c. outputs_at part x l n 0 c) count in
    subst (λ t. LiesIn part y x n ↔ (y ≡ t)) (sym stamp) (lies_in part y x n (scattering_solved part formed h) ey ex en)

access_solved : (part : System) → IsWellFormed part.shape part.rows → is_access part ≡ true → Solved part
access_solved part formed h = record {
  well = formed;
  formed = (both _ _ (both _ _ (both _ _ h).0).0).1;
  outputs = λ k l. each_at (has_output part) part.shape.outputs k l (access_given part h);
  floors = λ k l. absurd (omega (arith, access_locals part h));
}

subscripts_at : (part : System) (x n : List ℤ) (k m : ℕ) → map (λ subscript. affine_at subscript x [] n) (values_from part k m) ≡ outputs_at part x [] n k m
subscripts_at part x n k zero = refl
subscripts_at part x n k (suc m) = ap (λ t. affine_at (value_at part k) x [] n ∷ t) (subscripts_at part x n (k + 1) m)

pub access_means : SolvedAccessMeansItsRelation
access_means kind part formed h y x n ey ex en =
    let locals = access_locals part h in
    let count : suc (part.shape.outputs - 1) ≡ part.shape.outputs = omega (arith, access_outputs part h) in
    let none : floors_at part x n ≡ [] = ap (λ m. floors_after [] (floors_from part 0 m) x n) locals in
    let array : (value_at part 0).constant ≡ affine_at (value_at part 0) x [] n = sym (constant_at (value_at part 0) x [] n (both _ _ (both _ _ h).1).0) in
    let cell : cell_list (use_at x n (access_of kind part)).cell ≡ outputs_at part x (floors_at part x n) n 0 part.shape.outputs
    = ap (λ z. z ∷ map (λ subscript. affine_at subscript x [] n) (values_from part 1 (part.shape.outputs - 1))) array
    ∙ (ap (λ t. affine_at (value_at part 0) x [] n ∷ t) (subscripts_at part x n 1 (part.shape.outputs - 1))
    ∙ (ap (λ c. outputs_at part x [] n 0 c) count ∙ ap (λ t. outputs_at part x t n 0 part.shape.outputs) (sym none))) in
    subst (λ t. LiesIn part y x n ↔ (y ≡ t)) (sym cell) (lies_in part y x n (access_solved part formed h) ey ex en)
