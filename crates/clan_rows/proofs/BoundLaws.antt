-- The bounds of a loop, one expression at a time, and its layer.
use Rattle.std.proofs.Common.{◌≡◌, ℕ, zero, suc, ◌+◌, ◌≤◌, ◌<◌, List, [], ◌∷◌, ◌++◌, length, Bool, true, false, ◌&&◌, cond, refl, sym, ◌∙◌, ap, arith, ℤ, pos, negsuc, neg_ℤ, ◌*ℤ◌, ◌+ℤ◌, ◌-ℤ◌, Option, None, Some}
use Rattle.std.specs.Prelude.{◌^◌, min, nat_lt, nat_le, nat_eq, unsigned_abs}
use Rattle.std.proofs.lemmas.Int.{ints}
use Rattle.std.proofs.lemmas.Bool.{le-leb, leb-true}
use Rattle.std.proofs.lemmas.List.{append_assoc}
use Rattle.suite_base.specs.Limits.{max_rows}
use Rattle.relation_core.specs.declared.part_rows.RowKind.TheVariants.{Equal}
use Rattle.scop_data.specs.declared.affines.Affine.{Affine}
use Rattle.clan_extract.specs.Regions.{Expression, Number, Name, Sum, Difference, Product, Negation, Maximum, Minimum, Ceiling, Floor, Remainder, Comparison, IsLess, IsLessOrEqual, IsGreater, IsGreaterOrEqual, IsEqual, IsUnequal}
use Rattle.clan_extract.specs.Forms.{is_affine, opposite_of, form}
use Rattle.clan_extract.specs.Placements.{Head}
use Rattle.clan_extract.specs.Constraints.{FormRow, Constraint, plain_row, with_iterator, bound_row, lower_rows, upper_rows, loop_rows, stride_form, loop_constraints}
use Rattle.clan_extract.specs.Counts.{Count, one_part, lower_count, upper_count, bounds_count, loop_count}
use Rattle.clan_extract.specs.Scops.{is_equality}
use Rattle.clan_extract.specs.Refusals.{are_in_range, form_fits, forms_fit}
use Rattle.clan_extract.specs.RowRanges.{form_rows_fit, constraints_fit}
use Rattle.clan_rows.specs.declared.bounds.Side.{Side}
use Rattle.clan_rows.specs.declared.bounds.Side.TheVariants.{Lower, Upper}
use Rattle.clan_rows.specs.Fitting.{in_range, checked_form}
use Rattle.clan_rows.specs.Layers.{LayerData, clipped, within, layer, loop_layer}
use Rattle.clan_rows.specs.Bounds.{BoundsData, bounds, no_bounds, with_rows, shift, side_rows, side_count, with_bound, side_form, value_row, ceiling_row, floor_row, with_value, with_ceiling, with_floor, start_side, bound_side, is_strict, loop_bounds, stride_row, unit_layer, stride_layer, layer_of_bounds}
use Rattle.clan_rows.proofs.LayerLaws.{Small, small_of, of_small, false_is_not_true, true_is_not_false, same_test, count_with, same_count, layer_with, same_layer, unfit_by, nothing, and_exchange}

and_assoc : (a b c : Bool) → ((a && b) && c) ≡ (a && (b && c))
and_assoc true b c = refl
and_assoc false b c = refl

pub and_true_right : (a : Bool) → (a && true) ≡ a
and_true_right true = refl
and_true_right false = refl

pub and_false_right : (a : Bool) → (a && false) ≡ false
and_false_right true = refl
and_false_right false = refl

-- ---- rows one after the other

abbrev pub bounds_with : List FormRow → ℕ → Bool → BoundsData
bounds_with rows count fits = record { rows = rows; count = count; fits = fits }

pub same_bounds : {r s : List FormRow} {c d : ℕ} {x y : Bool} → r ≡ s → c ≡ d → x ≡ y → bounds_with r c x ≡ bounds_with s d y
same_bounds {r} {s} {c} {d} {x} {y} e f g = ap (λ z. bounds_with z c x) e ∙ ap (λ z. bounds_with s z x) f ∙ ap (λ z. bounds_with s d z) g

cut_rows : (w v f y : Bool) (rs qs : List FormRow) → (w ≡ true → v ≡ true) → cond (w && (f && y)) (cond (v && f) rs [] ++ qs) [] ≡ cond (w && (f && y)) (rs ++ qs) []
cut_rows true v true y rs qs h = rw (h refl) refl
cut_rows true v false y rs qs h = refl
cut_rows false v f y rs qs h = refl

le_cut : (k m n : ℕ) → nat_le (min m (k + 1) + n) k ≡ nat_le (m + n) k
le_cut k m n = same_test _ _
    (λ e. let h = leb-true (min m (k + 1) + n) k e in le-leb (m + n) k (omega arith))
    (λ e. let h = leb-true (m + n) k e in le-leb (min m (k + 1) + n) k (omega arith))

le_first : (k m n : ℕ) → nat_le (m + n) k ≡ true → nat_le m k ≡ true
le_first k m n e = let h = leb-true (m + n) k e in le-leb m k (omega arith)

with_rows_bounds : (m n : ℕ) (x y : Bool) (ps qs : List FormRow) → with_rows (bounds m x ps) n y qs ≡ bounds (m + n) (x && y) (ps ++ qs)
with_rows_bounds m n x y ps qs =
    same_bounds
    (ap (λ t. cond (t && (x && y)) (cond (nat_le m max_rows && x) ps [] ++ qs) []) (le_cut max_rows m n)
    ∙ cut_rows (nat_le (m + n) max_rows) (nat_le m max_rows) x y ps qs (le_first max_rows m n))
    (omega arith) refl

bounds_of_equal : {m n : ℕ} {x y : Bool} {ps qs : List FormRow} → m ≡ n → x ≡ y → ps ≡ qs → bounds m x ps ≡ bounds n y qs
bounds_of_equal {m} {n} {x} {y} {ps} {qs} e f g = ap (λ z. bounds z x ps) e ∙ ap (λ z. bounds n z ps) f ∙ ap (λ z. bounds n y z) g

with_rows_twice : (old : BoundsData) (m n : ℕ) (x y : Bool) (ps qs : List FormRow)
    → with_rows (with_rows old m x ps) n y qs ≡ with_rows old (m + n) (x && y) (ps ++ qs)
with_rows_twice old m n x y ps qs =
    with_rows_bounds (old.count + m) n (old.fits && x) y (old.rows ++ ps) qs
    ∙ bounds_of_equal (omega arith) (and_assoc old.fits x y) (append_assoc old.rows ps qs)

form_rows_append : (has_local : Bool) (a b : List FormRow) → form_rows_fit has_local (a ++ b) ≡ (form_rows_fit has_local a && form_rows_fit has_local b)
form_rows_append has_local [] b = refl
form_rows_append has_local (r ∷ a) b =
    ap (λ t. (form_fits r.form && cond has_local (nat_lt (unsigned_abs r.local) (2 ^ 127)) true) && t) (form_rows_append has_local a b)
    ∙ sym (and_assoc (form_fits r.form && cond has_local (nat_lt (unsigned_abs r.local) (2 ^ 127)) true) (form_rows_fit has_local a) (form_rows_fit has_local b))

both_with : (old : BoundsData) (m n : ℕ) (x y : Bool) (ps qs : List FormRow)
    → with_rows old (m + n) ((x && y) && form_rows_fit false (ps ++ qs)) (ps ++ qs)
    ≡ with_rows (with_rows old m (x && form_rows_fit false ps) ps) n (y && form_rows_fit false qs) qs
both_with old m n x y ps qs =
    ap (λ t. with_rows old (m + n) t (ps ++ qs))
    (ap (λ t. (x && y) && t) (form_rows_append false ps qs) ∙ and_exchange x y (form_rows_fit false ps) (form_rows_fit false qs))
    ∙ sym (with_rows_twice old m n (x && form_rows_fit false ps) (y && form_rows_fit false qs) ps qs)

pub unfit_rows : (old : BoundsData) (n : ℕ) (ps qs : List FormRow) → with_rows old n false ps ≡ with_rows old n false qs
unfit_rows old n ps qs = same_bounds (step (nat_le (old.count + n) max_rows) old.fits) refl refl
  where
    step : (a b : Bool) → cond (a && (b && false)) (old.rows ++ ps) [] ≡ cond (a && (b && false)) (old.rows ++ qs) []
    step true true = refl
    step true false = refl
    step false b = refl

-- ---- values and quotients

value_by : (side : Side) (strict : Bool) (f : Affine) (x : Bool) (old : BoundsData)
    → with_rows old 1 (x && form_rows_fit false (value_row side strict f)) (value_row side strict f) ≡ with_value side strict (cond x (Some f) None) old
value_by side strict f true old = refl
value_by side strict f false old = unfit_rows old 1 (value_row side strict f) []

range_last : (row : List ℤ) (z : ℤ) → nat_lt (unsigned_abs z) (2 ^ 127) ≡ false → are_in_range (row ++ z ∷ []) ≡ false
range_last [] z e = rw e refl
range_last (x ∷ row) z e = ap (λ t. nat_lt (unsigned_abs x) (2 ^ 127) && t) (range_last row z e) ∙ and_false_right (nat_lt (unsigned_abs x) (2 ^ 127))

false_first : (a b c d : Bool) → a ≡ false → ((((a && b) && c) && true) && true) ≡ false
false_first true b c d e = absurd (true_is_not_false e)
false_first false b c d e = refl

bound_unfit : (c : ℤ) (f : Affine) (z : ℤ) → nat_lt (unsigned_abs c) (2 ^ 127) ≡ false → form_rows_fit false (bound_row c f z) ≡ false
bound_unfit c f z e = false_first (are_in_range (f.iterators ++ c ∷ [])) _ _ true (range_last f.iterators c e)

abs_neg : (d : ℕ) → unsigned_abs (neg_ℤ (pos d)) ≡ d
abs_neg d = omega (arith, ints)

abs_neg_of : (d : ℕ) → nat_lt d (2 ^ 127) ≡ false → nat_lt (unsigned_abs (neg_ℤ (pos d))) (2 ^ 127) ≡ false
abs_neg_of d e = ap (λ n. nat_lt n (2 ^ 127)) (abs_neg d) ∙ e

ceiling_unfit : (side : Side) (strict : Bool) (f : Affine) (d : ℕ) → nat_lt d (2 ^ 127) ≡ false → form_rows_fit false (ceiling_row side strict f (pos d)) ≡ false
ceiling_unfit Lower strict f d e = bound_unfit (pos d) (opposite_of f) _ e
ceiling_unfit Upper strict f d e = bound_unfit (neg_ℤ (pos d)) f _ (abs_neg_of d e)

floor_unfit : (side : Side) (strict : Bool) (f : Affine) (d : ℕ) → nat_lt d (2 ^ 127) ≡ false → form_rows_fit false (floor_row side strict f (pos d)) ≡ false
floor_unfit Lower strict f d e = bound_unfit (pos d) (opposite_of f) _ e
floor_unfit Upper strict f d e = bound_unfit (neg_ℤ (pos d)) f _ (abs_neg_of d e)

ceiling_by : (side : Side) (strict : Bool) (f : Affine) (d : ℕ) (x b : Bool) (old : BoundsData) → (b ≡ false → form_rows_fit false (ceiling_row side strict f (pos d)) ≡ false)
    → with_rows old 1 (x && form_rows_fit false (ceiling_row side strict f (pos d))) (ceiling_row side strict f (pos d))
    ≡ with_ceiling side strict (cond x (Some f) None) (cond b (Some (pos d)) None) old
ceiling_by side strict f d true true old h = refl
ceiling_by side strict f d true false old h =
    ap (λ t. with_rows old 1 t (ceiling_row side strict f (pos d))) (h refl) ∙ unfit_rows old 1 (ceiling_row side strict f (pos d)) []
ceiling_by side strict f d false b old h = unfit_rows old 1 (ceiling_row side strict f (pos d)) []

floor_by : (side : Side) (strict : Bool) (f : Affine) (d : ℕ) (x b : Bool) (old : BoundsData) → (b ≡ false → form_rows_fit false (floor_row side strict f (pos d)) ≡ false)
    → with_rows old 1 (x && form_rows_fit false (floor_row side strict f (pos d))) (floor_row side strict f (pos d))
    ≡ with_floor side strict (cond x (Some f) None) (cond b (Some (pos d)) None) old
floor_by side strict f d true true old h = refl
floor_by side strict f d true false old h =
    ap (λ t. with_rows old 1 t (floor_row side strict f (pos d))) (h refl) ∙ unfit_rows old 1 (floor_row side strict f (pos d)) []
floor_by side strict f d false b old h = unfit_rows old 1 (floor_row side strict f (pos d)) []

module _ (parameters loops : List (List ℕ)) (strict : Bool) (old : BoundsData) where
  pub maximum_bound : (a b : Expression)
      → with_bound parameters loops Lower strict (Maximum a b) old ≡ with_bound parameters loops Lower strict b (with_bound parameters loops Lower strict a old)
  maximum_bound a b =
      both_with old (lower_count a) (lower_count b) (forms_fit parameters loops a) (forms_fit parameters loops b)
      (lower_rows parameters loops (shift Lower strict) a) (lower_rows parameters loops (shift Lower strict) b)

  pub minimum_bound : (a b : Expression)
      → with_bound parameters loops Upper strict (Minimum a b) old ≡ with_bound parameters loops Upper strict b (with_bound parameters loops Upper strict a old)
  minimum_bound a b =
      both_with old (upper_count a) (upper_count b) (forms_fit parameters loops a) (forms_fit parameters loops b)
      (upper_rows parameters loops (shift Upper strict) a) (upper_rows parameters loops (shift Upper strict) b)

  pub ceiling_bound : (side : Side) (of : Expression) (divisor : ℕ)
      → with_bound parameters loops side strict (Ceiling of divisor) old ≡ with_ceiling side strict (checked_form parameters loops of) (in_range (pos divisor)) old
  ceiling_bound Lower of divisor = ceiling_by Lower strict (form parameters loops of) divisor (forms_fit parameters loops of) (nat_lt divisor (2 ^ 127)) old (ceiling_unfit Lower strict (form parameters loops of) divisor)
  ceiling_bound Upper of divisor = ceiling_by Upper strict (form parameters loops of) divisor (forms_fit parameters loops of) (nat_lt divisor (2 ^ 127)) old (ceiling_unfit Upper strict (form parameters loops of) divisor)

  pub floor_bound : (side : Side) (of : Expression) (divisor : ℕ)
      → with_bound parameters loops side strict (Floor of divisor) old ≡ with_floor side strict (checked_form parameters loops of) (in_range (pos divisor)) old
  floor_bound Lower of divisor = floor_by Lower strict (form parameters loops of) divisor (forms_fit parameters loops of) (nat_lt divisor (2 ^ 127)) old (floor_unfit Lower strict (form parameters loops of) divisor)
  floor_bound Upper of divisor = floor_by Upper strict (form parameters loops of) divisor (forms_fit parameters loops of) (nat_lt divisor (2 ^ 127)) old (floor_unfit Upper strict (form parameters loops of) divisor)

  pub value_bound : (side : Side) (e : Expression) → is_affine e ≡ true
      → with_bound parameters loops side strict e old ≡ with_value side strict (checked_form parameters loops e) old
  value_bound Lower (Maximum a b) h = absurd (false_is_not_true h)
  value_bound Lower (Ceiling of divisor) h = absurd (false_is_not_true h)
  value_bound Lower (Floor of divisor) h = absurd (false_is_not_true h)
  value_bound Lower e h = value_by Lower strict (form parameters loops e) (forms_fit parameters loops e) old
  value_bound Upper (Minimum a b) h = absurd (false_is_not_true h)
  value_bound Upper (Ceiling of divisor) h = absurd (false_is_not_true h)
  value_bound Upper (Floor of divisor) h = absurd (false_is_not_true h)
  value_bound Upper e h = value_by Upper strict (form parameters loops e) (forms_fit parameters loops e) old

-- ---- loops

-- the bounds of a loop, made at once
loop_bounds_are : (parameters loops : List (List ℕ)) (head : Head) → is_equality head.comparison ≡ false
    → loop_bounds parameters loops head
    ≡ bounds (bounds_count head head.comparison)
    ((forms_fit parameters loops head.start && forms_fit parameters loops head.bound) && form_rows_fit false (loop_rows parameters loops head head.comparison))
    (loop_rows parameters loops head head.comparison)
loop_bounds_are parameters loops head h = step head.comparison h
  where
    twice : (m n : ℕ) (x y : Bool) (ps qs : List FormRow)
        → with_rows (with_rows no_bounds m (x && form_rows_fit false ps) ps) n (y && form_rows_fit false qs) qs
        ≡ bounds (m + n) ((x && y) && form_rows_fit false (ps ++ qs)) (ps ++ qs)
    twice m n x y ps qs =
        sym (both_with no_bounds m n x y ps qs) ∙ bounds_of_equal (omega arith) refl refl

    step : (comparison : Comparison) → is_equality comparison ≡ false
        → with_bound parameters loops (bound_side comparison) (is_strict comparison) head.bound (with_bound parameters loops (start_side comparison) false head.start no_bounds)
        ≡ bounds (bounds_count head comparison)
        ((forms_fit parameters loops head.start && forms_fit parameters loops head.bound) && form_rows_fit false (loop_rows parameters loops head comparison))
        (loop_rows parameters loops head comparison)
    step IsLess h = twice (lower_count head.start) (upper_count head.bound) _ _ (lower_rows parameters loops (pos 0) head.start) (upper_rows parameters loops (pos 1) head.bound)
    step IsLessOrEqual h = twice (lower_count head.start) (upper_count head.bound) _ _ (lower_rows parameters loops (pos 0) head.start) (upper_rows parameters loops (pos 0) head.bound)
    step IsGreater h = twice (upper_count head.start) (lower_count head.bound) _ _ (upper_rows parameters loops (pos 0) head.start) (lower_rows parameters loops (negsuc 0) head.bound)
    step IsGreaterOrEqual h = twice (upper_count head.start) (lower_count head.bound) _ _ (upper_rows parameters loops (pos 0) head.start) (lower_rows parameters loops (pos 0) head.bound)
    step IsEqual h = absurd (true_is_not_false h)
    step IsUnequal h = absurd (true_is_not_false h)

-- the count of one part with cut rows
one_cut : (rows more locals : ℕ) → within (one_part (min rows (max_rows + 1) + more) locals) ≡ within (one_part (rows + more) locals)
one_cut rows more locals = same_test _ _
    (λ e. let s = small_of (one_part (min rows (max_rows + 1) + more) locals) e in let r = s.rows in
    of_small (one_part (rows + more) locals) (record { parts = s.parts; rows = omega arith; locals = s.locals }))
    (λ e. let s = small_of (one_part (rows + more) locals) e in let r = s.rows in
    of_small (one_part (min rows (max_rows + 1) + more) locals) (record { parts = s.parts; rows = omega arith; locals = s.locals }))

one_rows : (rows more locals : ℕ) → within (one_part (rows + more) locals) ≡ true → nat_le rows max_rows ≡ true
one_rows rows more locals e = let s = small_of (one_part (rows + more) locals) e in let r = s.rows in le-leb rows max_rows (omega arith)

cut_part : (w v f y : Bool) (rs : List FormRow) (make : List FormRow → List Constraint) → (w ≡ true → v ≡ true)
    → cond (w && (f && y)) (make rs ∷ []) [] ≡ cond (w && (f && y)) (make (cond (v && f) rs []) ∷ []) []
cut_part true v true y rs make h = rw (h refl) refl
cut_part true v false y rs make h = refl
cut_part false v f y rs make h = refl

-- the layer of one part with these rows, where they are cut before and where not
one_part_layer : (rows more locals : ℕ) (f y : Bool) (rs : List FormRow) (make : List FormRow → List Constraint)
    → layer (one_part (rows + more) locals) (f && y) (make rs ∷ [])
    ≡ layer (one_part ((bounds rows f rs).count + more) locals) ((bounds rows f rs).fits && y) (make (bounds rows f rs).rows ∷ [])
one_part_layer rows more locals f y rs make =
    same_layer (f && y) (same_count refl (omega arith) refl)
    (cut_part (within (one_part (rows + more) locals)) (nat_le rows max_rows) f y rs make (one_rows rows more locals)
    ∙ ap (λ t. cond (t && (f && y)) (make (cond (nat_le rows max_rows && f) rs []) ∷ []) []) (sym (one_cut rows more locals)))

abbrev rows_alone : List FormRow → Constraint
rows_alone rows = record { rows = rows; has_local = false }

abbrev row_with_local : FormRow → Constraint
row_with_local row = record { rows = row ∷ []; has_local = true }

unit_is : (k : ℕ) (x y : Bool) (rs : List FormRow)
    → layer (one_part (k + 0) 0) ((x && y) && constraints_fit (rows_alone rs ∷ [])) ((rows_alone rs ∷ []) ∷ [])
    ≡ unit_layer (bounds k ((x && y) && form_rows_fit false rs) rs)
unit_is k x y rs =
    ap (λ t. layer (one_part (k + 0) 0) t ((rows_alone rs ∷ []) ∷ []))
    (ap (λ t. (x && y) && t) (and_true_right (form_rows_fit false rs)) ∙ sym (and_true_right ((x && y) && form_rows_fit false rs)))
    ∙ one_part_layer k 0 0 ((x && y) && form_rows_fit false rs) true rs (λ r. rows_alone r ∷ [])
    ∙ ap (λ t. layer (one_part (min k (max_rows + 1) + 0) 0) t ((rows_alone (bounds k ((x && y) && form_rows_fit false rs) rs).rows ∷ []) ∷ []))
    (and_true_right ((x && y) && form_rows_fit false rs))
    ∙ ap (λ n. layer (one_part n 0) ((x && y) && form_rows_fit false rs) ((rows_alone (bounds k ((x && y) && form_rows_fit false rs) rs).rows ∷ []) ∷ []))
    (no_more (min k (max_rows + 1)))
  where
    no_more : (n : ℕ) → n + 0 ≡ n
    no_more n = omega arith

-- a step out of range is a coefficient of a local that is
abs_size : (n : ℕ) → unsigned_abs (neg_ℤ (pos n)) ≡ n
abs_size n = omega (arith, ints)

stride_unfit : (side : Side) (f : Affine) (step : ℤ) → nat_lt (unsigned_abs step) (2 ^ 127) ≡ false → form_rows_fit true (stride_row side f step ∷ []) ≡ false
stride_unfit side f step e =
    last (form_fits (stride_row side f step).form) (nat_lt (unsigned_abs (neg_ℤ (pos (unsigned_abs step)))) (2 ^ 127)) (ap (λ n. nat_lt n (2 ^ 127)) (abs_size (unsigned_abs step)) ∙ e)
  where
    last : (a b : Bool) → b ≡ false → ((a && b) && true) ≡ false
    last true b h = rw h refl
    last false b h = refl

stride_fits : (k : ℕ) (f : Bool) (rs : List FormRow) (row : FormRow)
    → layer (one_part (k + 1) 1) (f && form_rows_fit true (row ∷ [])) ((rows_alone rs ∷ (row_with_local row ∷ [])) ∷ [])
    ≡ layer (one_part ((bounds k f rs).count + 1) 1) ((bounds k f rs).fits && form_rows_fit true (row ∷ [])) ((rows_alone (bounds k f rs).rows ∷ (row_with_local row ∷ [])) ∷ [])
stride_fits k f rs row = one_part_layer k 1 1 f (form_rows_fit true (row ∷ [])) rs (λ r. rows_alone r ∷ (row_with_local row ∷ []))

stride_none : (k : ℕ) (ps : List (List Constraint)) → layer (one_part (k + 1) 1) false ps ≡ layer (one_part (min k (max_rows + 1) + 1) 1) false []
stride_none k ps =
    unfit_by (one_part (k + 1) 1) ps [] ∙ same_layer false (same_count refl (omega arith) refl) (nothing (within (one_part (k + 1) 1)) ∙ sym (nothing (within (one_part (min k (max_rows + 1) + 1) 1))))

stride_is : (k : ℕ) (side : Side) (f : Affine) (step : ℤ) (x y b : Bool) (rs : List FormRow)
    → (b ≡ false → form_rows_fit true (stride_row side f step ∷ []) ≡ false)
    → layer (one_part (k + 1) 1) ((x && y) && constraints_fit (rows_alone rs ∷ (row_with_local (stride_row side f step) ∷ []))) ((rows_alone rs ∷ (row_with_local (stride_row side f step) ∷ [])) ∷ [])
    ≡ stride_layer (bounds k ((x && y) && form_rows_fit false rs) rs) side (cond x (Some f) None) (cond b (Some step) None)
stride_is k side f step true y true rs h =
    ap (λ t. layer (one_part (k + 1) 1) t ((rows_alone rs ∷ (row_with_local (stride_row side f step) ∷ [])) ∷ []))
    (ap (λ t. y && (form_rows_fit false rs && t)) (and_true_right (form_rows_fit true (stride_row side f step ∷ [])))
    ∙ sym (and_assoc y (form_rows_fit false rs) (form_rows_fit true (stride_row side f step ∷ []))))
    ∙ stride_fits k (y && form_rows_fit false rs) rs (stride_row side f step)
stride_is k side f step true y false rs h =
    ap (λ t. layer (one_part (k + 1) 1) t ((rows_alone rs ∷ (row_with_local (stride_row side f step) ∷ [])) ∷ []))
    (ap (λ t. y && (form_rows_fit false rs && (t && true))) (h refl) ∙ ap (λ t. y && t) (and_false_right (form_rows_fit false rs)) ∙ and_false_right y)
    ∙ stride_none k ((rows_alone rs ∷ (row_with_local (stride_row side f step) ∷ [])) ∷ [])
stride_is k side f step false y b rs h = stride_none k ((rows_alone rs ∷ (row_with_local (stride_row side f step) ∷ [])) ∷ [])

stride_row_is : (parameters loops : List (List ℕ)) (head : Head) (comparison : Comparison)
    → record { kind = Equal; form = stride_form parameters loops head comparison; local = neg_ℤ (pos (unsigned_abs head.step)) }
    ≡ stride_row (start_side comparison) (form parameters loops head.start) head.step
stride_row_is parameters loops head IsLess = refl
stride_row_is parameters loops head IsLessOrEqual = refl
stride_row_is parameters loops head IsGreater = refl
stride_row_is parameters loops head IsGreaterOrEqual = refl
stride_row_is parameters loops head IsEqual = refl
stride_row_is parameters loops head IsUnequal = refl

loop_by : (k : ℕ) (x y u b : Bool) (rs : List FormRow) (old : BoundsData) (side : Side) (f : Affine) (step : ℤ) (row : FormRow)
    → old ≡ bounds k ((x && y) && form_rows_fit false rs) rs
    → row ≡ stride_row side f step
    → (b ≡ false → form_rows_fit true (stride_row side f step ∷ []) ≡ false)
    → layer (one_part (k + cond u 0 1) (cond u 0 1))
    ((x && y) && constraints_fit (rows_alone rs ∷ cond u [] (row_with_local row ∷ [])))
    ((rows_alone rs ∷ cond u [] (row_with_local row ∷ [])) ∷ [])
    ≡ cond u (unit_layer old) (stride_layer old side (cond x (Some f) None) (cond b (Some step) None))
loop_by k x y true b rs old side f step row e r h = unit_is k x y rs ∙ ap unit_layer (sym e)
loop_by k x y false b rs old side f step row e r h =
    ap (λ t. layer (one_part (k + 1) 1) ((x && y) && constraints_fit (rows_alone rs ∷ (row_with_local t ∷ []))) ((rows_alone rs ∷ (row_with_local t ∷ [])) ∷ [])) r
    ∙ stride_is k side f step x y b rs h
    ∙ ap (λ t. stride_layer t side (cond x (Some f) None) (cond b (Some step) None)) (sym e)

-- the layer of a loop is made of its bounds and its stride
pub loop_is : (parameters loops : List (List ℕ)) (head : Head) → is_equality head.comparison ≡ false → loop_layer parameters loops head ≡ layer_of_bounds parameters loops head
loop_is parameters loops head h =
    loop_by (bounds_count head head.comparison) (forms_fit parameters loops head.start) (forms_fit parameters loops head.bound)
    (nat_eq (unsigned_abs head.step) 1) (nat_lt (unsigned_abs head.step) (2 ^ 127))
    (loop_rows parameters loops head head.comparison) (loop_bounds parameters loops head) (start_side head.comparison) (form parameters loops head.start) head.step
    (record { kind = Equal; form = stride_form parameters loops head head.comparison; local = neg_ℤ (pos (unsigned_abs head.step)) })
    (loop_bounds_are parameters loops head h)
    (stride_row_is parameters loops head head.comparison)
    (stride_unfit (start_side head.comparison) (form parameters loops head.start) head.step)
