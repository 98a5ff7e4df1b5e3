-- What the rows of a part in solved form say of a point: the values of its outputs and of its floors.
use Rattle.std.proofs.Common.{◌≡◌, inl, inr, ℕ, zero, suc, ◌<◌, ◌≤◌, Bool, true, false, ◌&&◌, List, [], ◌∷◌, ◌++◌, length, map, ℤ, pos, negsuc, ◌+ℤ◌, ◌*ℤ◌, neg_ℤ, ◌≤ℤ◌, unsigned_abs, refl, ap, sym, ◌∙◌, subst, arith, zero-add}
use Rattle.std.specs.Prelude.{slice_range, int_lt, not, ◌==◌, ◌↔◌, if◌then◌else◌}
use Rattle.std.proofs.lemmas.Int.{ints}
use Rattle.std.proofs.lemmas.Bool.Decides.{Decides-eqb}
use Rattle.row_core.specs.Rows.{entry, dot}
use Rattle.row_core.proofs.Ring.{neg_mul_z}
use Rattle.relation_core.specs.Systems.{System, columns, width, IsWellFormed}
use Rattle.relation_core.specs.Points.{Meets, coordinates}
use Rattle.relation_core.specs.declared.shapes.Shape.{Shape}
use Rattle.relation_core.specs.declared.part_rows.PartRow.{PartRow}
use Rattle.relation_core.specs.declared.part_rows.RowKind.{RowKind}
use Rattle.relation_core.specs.declared.part_rows.RowKind.TheVariants.{Equal, AtLeast}
use Rattle.scop_data.specs.Sequences.{In}
use Rattle.schedule_forms.specs.SolvedForm.{weight, is_equality, outputs_of, local_column, locals_from, is_formed, are_formed, affine_of, cleared, is_pair, value_at, floor_at, size_at, output_row, low_row_of, high_row_of, has_output, has_floor}
use Rattle.scop_data.specs.Meaning.{affine_at, floor_of}
use Rattle.scop_data.proofs.Floors.{floor_meets_rows, rows_give_floor}
use Rattle.schedule_forms.proofs.SolvedShapes.{both, pair_constant}
use Rattle.schedule_forms.proofs.SolvedPieces.{slice_entry, row_width, output_only, low_only, high_only, floor_pair, size_is}
use Rattle.schedule_forms.proofs.SolvedDots.{Point, dot_one, dot_zero, dot_cleared, dot_negative, opposite_is, split_fits, split_row, value_of_row, front_value, negative_value}
use Rattle.schedule_forms.proofs.ReadBackLists.{same_number, entry_weight, no_entry, only_in, only_passes, length_cleared}
use Rattle.schedule_forms.proofs.ReadBackRows.{affine_piece, cleared_piece, Fits}
use Rattle.schedule_forms.proofs.ReadBackParts.{value_in}

-- a part whose rows are all formed and give each output and each local once
pub record Solved (part : System) : Type 0 where
  pub well : IsWellFormed part.shape part.rows
  pub formed : are_formed part.shape part.rows ≡ true
  pub outputs : (k : ℕ) → k < part.shape.outputs → has_output part k ≡ true
  pub floors : (k : ℕ) → k < part.shape.locals → has_floor part k ≡ true

pub formed_in : (shape : Shape) (rows : List PartRow) (r : PartRow) → are_formed shape rows ≡ true → In r rows → is_formed shape r ≡ true
formed_in shape [] r h i = absurd i
formed_in shape (row ∷ rows) r h (inl e) = subst (λ t. is_formed shape t ≡ true) e (both _ _ h).0
formed_in shape (row ∷ rows) r h (inr i) = formed_in shape rows r (both _ _ h).1 i

pub kind_equal : (kind : RowKind) → is_equality kind ≡ true → kind ≡ Equal
kind_equal Equal h = refl
kind_equal AtLeast h = absurd (cc)

pub kind_at_least : (kind : RowKind) → is_equality kind ≡ false → kind ≡ AtLeast
kind_at_least Equal h = absurd (cc)
kind_at_least AtLeast h = refl

not_true : (t : Bool) → not t ≡ true → t ≡ false
not_true true h = absurd (cc)
not_true false h = refl

pub formed_output : (shape : Shape) (r : PartRow) → is_formed shape r ≡ true → is_equality r.kind ≡ true → weight (outputs_of shape r.entries) ≡ 1
formed_output shape r h e =
    (Decides-eqb (weight (outputs_of shape r.entries)) 1).0
    (ap (λ t. if t then weight (outputs_of shape r.entries) == 1
    else (weight (outputs_of shape r.entries) == 0 && not (weight (locals_from shape 0 r.entries) == 0))) (sym e) ∙ h)

formed_bound : (shape : Shape) (r : PartRow) → is_formed shape r ≡ true → is_equality r.kind ≡ false
    → (weight (outputs_of shape r.entries) == 0 && not (weight (locals_from shape 0 r.entries) == 0)) ≡ true
formed_bound shape r h e =
    ap (λ t. if t then weight (outputs_of shape r.entries) == 1
    else (weight (outputs_of shape r.entries) == 0 && not (weight (locals_from shape 0 r.entries) == 0))) (sym e) ∙ h

pub formed_none : (shape : Shape) (r : PartRow) → is_formed shape r ≡ true → is_equality r.kind ≡ false → weight (outputs_of shape r.entries) ≡ 0
formed_none shape r h e = (Decides-eqb _ 0).0 (both _ _ (formed_bound shape r h e)).0

pub formed_some : (shape : Shape) (r : PartRow) → is_formed shape r ≡ true → is_equality r.kind ≡ false → 1 ≤ weight (locals_from shape 0 r.entries)
formed_some shape r h e = by (weight (locals_from shape 0 r.entries)) (both _ _ (formed_bound shape r h e)).1
  where
    by : (m : ℕ) → not (m == 0) ≡ true → 1 ≤ m
    by zero g = absurd (cc)
    by (suc m) g = omega arith

pub output_place : (shape : Shape) (row : List ℤ) (k : ℕ) → k < shape.outputs → entry (outputs_of shape row) k ≡ entry row k
output_place shape row k h = slice_entry row 0 shape.outputs k (omega arith) ∙ ap (λ m. entry row m) (zero-add k)

pub local_place : (shape : Shape) (row : List ℤ) (k : ℕ) → k < shape.locals → entry (affine_of shape row).floors k ≡ entry row (local_column shape k)
local_place shape row k h = slice_entry row (local_column shape 0) (local_column shape shape.locals) k (omega arith) ∙ ap (λ m. entry row m) (omega arith)

-- the row of an output holds where the output has its value
output_value : (shape : Shape) (row : List ℤ) (k : ℕ) (kind : RowKind) (y x l n : List ℤ) → length row ≡ width shape → Point shape y x l n → weight (outputs_of shape row) ≡ 1
    → (unsigned_abs (entry row k) ≡ 0 → ⊥) → k < shape.outputs
    → (dot row (coordinates y x l n) ≡ pos 0) ↔ (entry y k ≡ affine_at (value_in shape k (record { kind = kind; entries = row })) x l n)
output_value shape row k kind y x l n w at light some h = by (int_lt (pos 0) (entry row k)) refl
  where
    by : (t : Bool) → int_lt (pos 0) (entry row k) ≡ t → (dot row (coordinates y x l n) ≡ pos 0) ↔ (entry y k ≡ affine_at (affine_of shape (if t then map neg_ℤ row else row)) x l n)
    by true e =
        let value = value_of_row shape row y x l n w at in
        let here = output_place shape row k h in
        let d : dot (outputs_of shape row) y ≡ entry (outputs_of shape row) k *ℤ entry y k = dot_one (outputs_of shape row) y k light (λ z. some (ap unsigned_abs (sym here) ∙ z)) in
        let bound : unsigned_abs (entry (outputs_of shape row) k) ≤ weight (outputs_of shape row) = entry_weight (outputs_of shape row) k in
        let one : entry (outputs_of shape row) k ≡ pos 1 = omega (arith, ints, e, here, light, bound) in
        let p : entry (outputs_of shape row) k *ℤ entry y k ≡ pos 1 *ℤ entry y k = ap (λ z. z *ℤ entry y k) one in
        let negative = negative_value shape row x l n in
        (λ g. omega (arith, ints), λ g. omega (arith, ints))
    by false e =
        let value = value_of_row shape row y x l n w at in
        let here = output_place shape row k h in
        let d : dot (outputs_of shape row) y ≡ entry (outputs_of shape row) k *ℤ entry y k = dot_one (outputs_of shape row) y k light (λ z. some (ap unsigned_abs (sym here) ∙ z)) in
        let bound : unsigned_abs (entry (outputs_of shape row) k) ≤ weight (outputs_of shape row) = entry_weight (outputs_of shape row) k in
        let more : 1 ≤ unsigned_abs (entry row k) = omega (arith, some) in
        let one : entry (outputs_of shape row) k ≡ negsuc 0 = omega (arith, ints, e, here, light, bound, more) in
        let p : entry (outputs_of shape row) k *ℤ entry y k ≡ negsuc 0 *ℤ entry y k = ap (λ z. z *ℤ entry y k) one in
        (λ g. omega (arith, ints), λ g. omega (arith, ints))

pub output_meets : (part : System) (k : ℕ) (y x l n : List ℤ) → Solved part → Point part.shape y x l n → k < part.shape.outputs
    → Meets (output_row part k).kind (dot (output_row part k).entries (coordinates y x l n)) ↔ (entry y k ≡ affine_at (value_at part k) x l n)
output_meets part k y x l n solved at h =
    let r = output_row part k in
    let only = output_only part k (solved.outputs k h) in
    let passes = both _ _ (only_passes _ _ _ only) in
    let member = only_in _ _ _ only in
    let equal = kind_equal r.kind passes.0 in
    let some : unsigned_abs (entry r.entries k) ≡ 0 → ⊥ = λ e. let t : (unsigned_abs (entry r.entries k) == 0) ≡ true = same_number _ 0 e in let f = not_true _ passes.1 in absurd (cc) in
    let means = output_value part.shape r.entries k r.kind y x l n (row_width part r solved.well member) at
    (formed_output part.shape r (formed_in part.shape part.rows r solved.formed member) passes.0) some h in
    subst (λ kind. Meets kind (dot r.entries (coordinates y x l n)) ↔ (entry y k ≡ affine_at (value_at part k) x l n)) (sym equal) means

-- the value of the low row of a floor
low_value : (shape : Shape) (row : List ℤ) (k : ℕ) (y x l n : List ℤ) → length row ≡ width shape → Point shape y x l n → weight (outputs_of shape row) ≡ 0 → k < shape.locals
    → dot row (coordinates y x l n) ≡ affine_at (affine_of shape (cleared row (local_column shape k))) x l n +ℤ (entry row (local_column shape k) *ℤ entry l k)
low_value shape row k y x l n w at light h =
    let o = outputs_of shape row in
    let i = (affine_of shape row).iterators in
    let f = (affine_of shape row).floors in
    let p = (affine_of shape row).parameters in
    let c = (affine_of shape row).constant in
    let fits = split_fits shape row w in
    let value = value_of_row shape row y x l n w at in
    let none : dot o y ≡ pos 0 = dot_zero o y (λ j. no_entry o light j) in
    let within : k < length f = omega (arith, fits.floors_are) in
    let parts : dot f l ≡ dot (cleared f k) l +ℤ (entry f k *ℤ entry l k) = dot_cleared f l k within in
    let here : entry f k *ℤ entry l k ≡ entry row (local_column shape k) *ℤ entry l k = ap (λ z. z *ℤ entry l k) (local_place shape row k h) in
    let long : length (cleared f k) ≡ length f = length_cleared f k within in
    let fits' : Fits shape o i (cleared f k) p
    = record { outputs_are = fits.outputs_are; iterators_are = fits.iterators_are; floors_are = long ∙ fits.floors_are; parameters_are = fits.parameters_are } in
    let same : affine_of shape (cleared row (local_column shape k)) ≡ record { iterators = i; floors = cleared f k; parameters = p; constant = c }
    = ap (λ r. affine_of shape (cleared r (local_column shape k))) (split_row shape row w)
    ∙ (ap (λ r. affine_of shape r) (cleared_piece shape o i f p c k fits h) ∙ affine_piece shape o i (cleared f k) p c fits') in
    let is : affine_at (affine_of shape (cleared row (local_column shape k))) x l n ≡ ((dot i x +ℤ dot (cleared f k) l) +ℤ dot p n) +ℤ c
    = ap (λ v. affine_at v x l n) same in
    omega (arith, ints)

pair_opposite : (shape : Shape) (size : ℤ) (low high : List ℤ) → is_pair shape size low high ≡ true
    → slice_range high 0 (columns shape) ≡ map neg_ℤ (slice_range low 0 (columns shape))
pair_opposite shape size low high pair = opposite_is _ _ (both _ _ (both _ _ pair).0).1

-- the value of the high row
high_value : (shape : Shape) (size : ℤ) (low high : List ℤ) (y x l n : List ℤ) → length low ≡ width shape → length high ≡ width shape → Point shape y x l n
    → is_pair shape size low high ≡ true → dot high (coordinates y x l n) ≡ (neg_ℤ (dot low (coordinates y x l n)) +ℤ size) +ℤ negsuc 0
high_value shape size low high y x l n wl wh at pair =
    let q = y ++ (x ++ (l ++ n)) in
    let constant = pair_constant shape size low high pair in
    let fl = front_value shape low y x l n wl at in
    let fh = front_value shape high y x l n wh at in
    let front : dot (slice_range high 0 (columns shape)) q ≡ neg_ℤ (dot (slice_range low 0 (columns shape)) q)
    = ap (λ r. dot r q) (pair_opposite shape size low high pair) ∙ dot_negative (slice_range low 0 (columns shape)) q in
    omega (arith, ints)

-- the two rows of a floor hold where the local is the floor
pub floor_meets : (part : System) (k : ℕ) (y x l n : List ℤ) → Solved part → Point part.shape y x l n → k < part.shape.locals
    → (Meets (low_row_of part k).kind (dot (low_row_of part k).entries (coordinates y x l n)) × Meets (high_row_of part k).kind (dot (high_row_of part k).entries (coordinates y x l n)))
    ↔ (entry l k ≡ floor_of (affine_at (floor_at part k).value x l n) (size_at part k))
floor_meets part k y x l n solved at h =
    let low = low_row_of part k in
    let high = high_row_of part k in
    let given = solved.floors k h in
    let low_in = only_in _ _ _ (low_only part k given) in
    let high_in = only_in _ _ _ (high_only part k given) in
    let low_kind : is_equality low.kind ≡ false = not_true _ (both _ _ (both _ _ (only_passes _ _ _ (low_only part k given))).0).0 in
    let high_kind : is_equality high.kind ≡ false = not_true _ (both _ _ (both _ _ (only_passes _ _ _ (high_only part k given))).0).0 in
    let pt = coordinates y x l n in
    let v = affine_at (floor_at part k).value x l n in
    let s = size_at part k in
    let z = entry low.entries (local_column part.shape k) in
    let wl = row_width part low solved.well low_in in
    let wh = row_width part high solved.well high_in in
    let vl : dot low.entries pt ≡ v +ℤ (z *ℤ entry l k)
    = low_value part.shape low.entries k y x l n wl at (formed_none part.shape low (formed_in part.shape part.rows low solved.formed low_in) low_kind) h in
    let vh : dot high.entries pt ≡ (neg_ℤ (dot low.entries pt) +ℤ s) +ℤ negsuc 0 = high_value part.shape s low.entries high.entries y x l n wl wh at (floor_pair part k given) in
    let product : s *ℤ entry l k ≡ neg_ℤ (z *ℤ entry l k) = neg_mul_z z (entry l k) in
    let is_low : dot low.entries pt ≡ v +ℤ neg_ℤ (s *ℤ entry l k) = omega (arith, ints) in
    let is_high : dot high.entries pt ≡ ((neg_ℤ v +ℤ (s *ℤ entry l k)) +ℤ s) +ℤ negsuc 0 = omega (arith, ints) in
    let big = size_is part k given in
    let kl = kind_at_least low.kind low_kind in
    let kh = kind_at_least high.kind high_kind in (
      λ m. rows_give_floor v s (entry l k) big
          (subst (λ d. pos 0 ≤ℤ d) is_low (subst (λ kind. Meets kind (dot low.entries pt)) kl m.0))
          (subst (λ d. pos 0 ≤ℤ d) is_high (subst (λ kind. Meets kind (dot high.entries pt)) kh m.1)),
      λ e. let rows = floor_meets_rows v s big in (
        subst (λ kind. Meets kind (dot low.entries pt)) (sym kl) (subst (λ d. pos 0 ≤ℤ d) (sym is_low) (subst (λ j. pos 0 ≤ℤ (v +ℤ neg_ℤ (s *ℤ j))) (sym e) rows.0)),
        subst (λ kind. Meets kind (dot high.entries pt)) (sym kh)
            (subst (λ d. pos 0 ≤ℤ d) (sym is_high) (subst (λ j. pos 0 ≤ℤ (((neg_ℤ v +ℤ (s *ℤ j)) +ℤ s) +ℤ negsuc 0)) (sym e) rows.1)),
      ),
    )
