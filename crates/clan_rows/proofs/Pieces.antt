-- Layers and bounds as they are made are those that are meant.
use Rattle.std.proofs.Common.{◌≡◌, ℕ, zero, suc, ◌+◌, ◌≤◌, ◌<◌, List, [], ◌∷◌, ◌++◌, length, map, Bool, true, false, ◌&&◌, cond, refl, sym, ◌∙◌, ap, arith, ℤ, pos, negsuc, neg_ℤ, ◌+ℤ◌, ◌*ℤ◌, ◌-ℤ◌, Option, None, Some, append_assoc}
use Rattle.std.specs.Prelude.{◌^◌, min, nat_lt, nat_le, unsigned_abs}
use Rattle.std.proofs.lemmas.Int.{ints}
use Rattle.std.proofs.lemmas.Bool.{lt-ltb, le-leb, leb-true}
use Rattle.suite_base.specs.Limits.{max_rows}
use Rattle.relation_core.specs.declared.part_rows.RowKind.{RowKind}
use Rattle.relation_core.specs.declared.part_rows.RowKind.TheVariants.{Equal, AtLeast}
use Rattle.scop_data.specs.declared.affines.Affine.{Affine}
use Rattle.clan_extract.specs.Regions.{IsUnequal}
use Rattle.clan_extract.specs.Forms.{opposite_of, difference}
use Rattle.clan_extract.specs.Constraints.{FormRow, Constraint, plain_row, joined, row_part, plus, multiple_part, between_part}
use Rattle.clan_extract.specs.Counts.{Count, one_part, affine_count}
use Rattle.clan_extract.specs.Refusals.{form_fits}
use Rattle.clan_extract.specs.RowRanges.{form_rows_fit, constraints_fit, parts_fit}
use Rattle.clan_rows.specs.declared.bounds.Side.{Side}
use Rattle.clan_rows.specs.declared.constraints.Constraint.{Constraint as Rows}
use Rattle.clan_rows.specs.declared.constraints.FormRow.{FormRow as Row}
use Rattle.clan_rows.specs.Fitting.{fitting}
use Rattle.clan_rows.specs.Layers.{LayerData, clipped, within, layer}
use Rattle.clan_rows.specs.Bounds.{BoundsData, bounds, with_rows, side_form, value_row, ceiling_row, floor_row, value_shift, ceiling_shift, floor_shift, with_value, with_ceiling, with_floor, stride_row, unit_layer, stride_layer}
use Rattle.clan_rows.specs.Contents.{constraint_of, part_of, row_of}
use Rattle.clan_rows.specs.Pieces.{checked_part, checked_form_row, checked_stride, single, double, part_layer, two_rows, each_behind, all_joined, with_one, bounds_part, with_stride_part}
use Rattle.clan_rows.proofs.LayerLaws.{clipped_within, layer_with, same_layer, nothing, unfit_by}
use Rattle.clan_rows.proofs.BoundLaws.{unfit_rows, bounds_with, same_bounds, and_true_right, and_false_right}

none_is_not_some : {A : Type 0} (a : A) → None ≡ Some a → ⊥
none_is_not_some a e = cc

some_is_not_none : {A : Type 0} (a : A) → Some a ≡ None → ⊥
some_is_not_none a e = cc

inside : Affine → Option Affine → Affine
inside f None = f
inside f (Some g) = g

same_inside : (f g : Affine) → Some f ≡ Some g → f ≡ g
unfolding inside
same_inside f g e = ap (inside f) e

-- ---- one part

pub mapped_if : (used : Bool) (part : List Rows) → map part_of (cond used (part ∷ []) []) ≡ cond used (part_of part ∷ []) []
mapped_if true part = refl
mapped_if false part = refl

row_part_none_by : (b : Bool) (d : Affine) (p : List Constraint) → None ≡ cond b (Some d) None → None ≡ cond (((b && true) && true) && true) (Some p) None
row_part_none_by true d p e = absurd (none_is_not_some d e)
row_part_none_by false d p e = refl

pub row_part_none : (kind : RowKind) (f g : Affine) (z : ℤ) → None ≡ fitting (difference f g z) → None ≡ checked_part (row_part kind f g z)
row_part_none kind f g z e = row_part_none_by (form_fits (difference f g z)) (difference f g z) (row_part kind f g z) e

row_part_some_by : (b : Bool) (kind : RowKind) (d h : Affine) (p : List Constraint) → Some h ≡ cond b (Some d) None
    → p ≡ record { rows = plain_row kind h ∷ []; has_local = false } ∷ []
    → Some p ≡ cond (((b && true) && true) && true) (Some (record { rows = plain_row kind d ∷ []; has_local = false } ∷ [])) None
row_part_some_by true kind d h p e f = ap (λ t. Some t) f ∙ ap (λ t. Some (record { rows = plain_row kind t ∷ []; has_local = false } ∷ [])) (same_inside h d e)
row_part_some_by false kind d h p e f = absurd (some_is_not_none h e)

pub row_part_some : (kind : RowKind) (f g : Affine) (z : ℤ) (h : Affine) (p : List Constraint) → Some h ≡ fitting (difference f g z)
    → p ≡ record { rows = plain_row kind h ∷ []; has_local = false } ∷ []
    → Some p ≡ checked_part (row_part kind f g z)
row_part_some kind f g z h p e k = row_part_some_by (form_fits (difference f g z)) kind (difference f g z) h p e k

-- a part makes the layer of its rows where it fits
single_by : (n : Count) (b : Bool) (p : List Constraint) → single (clipped n) (cond b (Some p) None) ≡ layer n (b && true) (p ∷ [])
single_by n true p = same_layer true refl (ap (λ t. cond t (p ∷ []) []) (clipped_within n ∙ sym (and_true_right (within n))))
single_by n false p = same_layer false refl (sym (nothing (within n))) ∙ unfit_by n [] (p ∷ [])

pub single_is : (n c : Count) (p : List Constraint) (m : Option (List Constraint)) (r : LayerData) → c ≡ clipped n → m ≡ checked_part p → r ≡ single c m
    → r ≡ part_layer n p
single_is n c p m r e f g = g ∙ ap (λ t. single t m) e ∙ ap (λ t. single (clipped n) t) f ∙ single_by n (constraints_fit p) p

double_by : (a b : Bool) (p q : List Constraint) → double (cond a (Some p) None) (cond b (Some q) None) ≡ layer (affine_count IsUnequal) (a && (b && true)) (p ∷ (q ∷ []))
double_by true true p q = refl
double_by true false p q = refl
double_by false b p q = refl

pub double_is : (p q : List Constraint) (m k : Option (List Constraint)) (r : LayerData) → m ≡ checked_part p → k ≡ checked_part q → r ≡ double m k
    → r ≡ layer (affine_count IsUnequal) (parts_fit (p ∷ (q ∷ []))) (p ∷ (q ∷ []))
double_is p q m k r e f g = g ∙ ap (λ t. double t k) e ∙ ap (λ t. double (checked_part p) t) f ∙ double_by (constraints_fit p) (constraints_fit q) p q

-- the layer of what doesn't fit
pub unfit_is : (n c : Count) (r : LayerData) → c ≡ clipped n → r ≡ single c None → r ≡ layer n false []
unfit_is n c r e f = f ∙ ap (λ t. single t None) e ∙ same_layer false refl (sym (nothing (within n)))

-- ---- remainders

size_fits : (c : ℕ) → c < 2 ^ 127 → nat_lt (unsigned_abs (neg_ℤ (pos c))) (2 ^ 127) ≡ true
size_fits c h = let e : unsigned_abs (neg_ℤ (pos c)) ≡ c = omega (arith, ints) in rw e (lt-ltb c (2 ^ 127) h)

multiple_by : (a b : Bool) (p : List Constraint) → a ≡ true → b ≡ true → Some p ≡ cond ((((a && b) && true) && true)) (Some p) None
multiple_by true true p e f = refl
multiple_by true false p e f = absurd (false_is_not_true f)
  where
    false_is_not_true : false ≡ true → ⊥
    false_is_not_true e = cc
multiple_by false b p e f = absurd (false_is_not_true e)
  where
    false_is_not_true : false ≡ true → ⊥
    false_is_not_true e = cc

multiple_rows : Affine → ℤ → List Constraint
multiple_rows f s = record { rows = record { kind = Equal; form = f; local = neg_ℤ s } ∷ []; has_local = true } ∷ []

pub multiple_part_is : (f h : Affine) (c : ℕ) (s : ℤ) (p : List Constraint) → form_fits f ≡ true → h ≡ f → s ≡ pos c → c < 2 ^ 127
    → p ≡ record { rows = record { kind = Equal; form = h; local = neg_ℤ s } ∷ []; has_local = true } ∷ []
    → Some p ≡ checked_part (multiple_part f c)
unfolding multiple_rows
multiple_part_is f h c s p e g k l m =
    ap (λ t. Some t) (m ∙ ap (λ t. multiple_rows t s) g ∙ ap (λ t. multiple_rows f t) k)
    ∙ multiple_by (form_fits f) (nat_lt (unsigned_abs (neg_ℤ (pos c))) (2 ^ 127)) (multiple_part f c) e (size_fits c l)

between_none_low_by : (a b c d : Bool) (g : Affine) (p : List Constraint) → None ≡ cond a (Some g) None
    → None ≡ cond ((((a && b) && ((c && d) && true)) && true)) (Some p) None
between_none_low_by true b c d g p e = absurd (none_is_not_some g e)
between_none_low_by false b c d g p e = refl

pub between_none_low : (f : Affine) (c : ℕ) → None ≡ fitting (plus f (negsuc 0)) → None ≡ checked_part (between_part f c)
between_none_low f c e =
    between_none_low_by (form_fits (plus f (negsuc 0))) (nat_lt (unsigned_abs (neg_ℤ (pos c))) (2 ^ 127)) (form_fits (plus (opposite_of f) (pos c -ℤ pos 1))) (nat_lt c (2 ^ 127)) (plus f (negsuc 0)) (between_part f c) e

between_none_high_by : (a b c d : Bool) (g : Affine) (p : List Constraint) → None ≡ cond c (Some g) None
    → None ≡ cond ((((a && b) && ((c && d) && true)) && true)) (Some p) None
between_none_high_by a b true d g p e = absurd (none_is_not_some g e)
between_none_high_by true true false d g p e = refl
between_none_high_by true false false d g p e = refl
between_none_high_by false b false d g p e = refl

pub between_none_high : (f : Affine) (c : ℕ) → None ≡ fitting (plus (opposite_of f) (pos c -ℤ pos 1)) → None ≡ checked_part (between_part f c)
between_none_high f c e =
    between_none_high_by (form_fits (plus f (negsuc 0))) (nat_lt (unsigned_abs (neg_ℤ (pos c))) (2 ^ 127)) (form_fits (plus (opposite_of f) (pos c -ℤ pos 1))) (nat_lt c (2 ^ 127))
    (plus (opposite_of f) (pos c -ℤ pos 1)) (between_part f c) e

between_rows : Affine → Affine → ℤ → List Constraint
between_rows low high s =
    record { rows = record { kind = AtLeast; form = low; local = neg_ℤ s } ∷ (record { kind = AtLeast; form = high; local = s } ∷ []); has_local = true } ∷ []

between_some_by : (a b c d : Bool) (l h low high : Affine) (s : ℤ) → b ≡ true → d ≡ true → Some low ≡ cond a (Some l) None → Some high ≡ cond c (Some h) None
    → Some (between_rows low high s) ≡ cond ((((a && b) && ((c && d) && true)) && true)) (Some (between_rows l h s)) None
unfolding between_rows
between_some_by true true true true l h low high s e f m n =
    ap (λ t. Some (between_rows t high s)) (same_inside low l m) ∙ ap (λ t. Some (between_rows l t s)) (same_inside high h n)
between_some_by true true true false l h low high s e f m n = absurd (false_is_not_true f)
  where
    false_is_not_true : false ≡ true → ⊥
    false_is_not_true e = cc
between_some_by true true false d l h low high s e f m n = absurd (some_is_not_none high n)
between_some_by true false c d l h low high s e f m n = absurd (false_is_not_true e)
  where
    false_is_not_true : false ≡ true → ⊥
    false_is_not_true e = cc
between_some_by false b c d l h low high s e f m n = absurd (some_is_not_none low m)

pub between_some : (f low high : Affine) (c : ℕ) (s : ℤ) (p : List Constraint) → s ≡ pos c → c < 2 ^ 127
    → Some low ≡ fitting (plus f (negsuc 0)) → Some high ≡ fitting (plus (opposite_of f) (pos c -ℤ pos 1))
    → p ≡ record { rows = record { kind = AtLeast; form = low; local = neg_ℤ s } ∷ (record { kind = AtLeast; form = high; local = s } ∷ []); has_local = true } ∷ []
    → Some p ≡ checked_part (between_part f c)
unfolding between_rows
between_some f low high c s p k l m n q =
    ap (λ t. Some t) (q ∙ ap (λ t. between_rows low high t) k)
    ∙ between_some_by (form_fits (plus f (negsuc 0))) (nat_lt (unsigned_abs (neg_ℤ (pos c))) (2 ^ 127)) (form_fits (plus (opposite_of f) (pos c -ℤ pos 1))) (nat_lt c (2 ^ 127))
    (plus f (negsuc 0)) (plus (opposite_of f) (pos c -ℤ pos 1)) low high (pos c)
    (size_fits c l) (lt-ltb c (2 ^ 127) l) m n

-- ---- two layers

parts_of_append : (a b : List Rows) → part_of (a ++ b) ≡ part_of a ++ part_of b
parts_of_append [] b = refl
parts_of_append (c ∷ a) b = ap (λ t. constraint_of c ∷ t) (parts_of_append a b)

pub parts_append : (a b : List (List Rows)) → map part_of (a ++ b) ≡ map part_of a ++ map part_of b
parts_append [] b = refl
parts_append (p ∷ a) b = ap (λ t. part_of p ∷ t) (parts_append a b)

each_is : (left : List Rows) (qs : List (List Rows)) → map part_of (each_behind left qs) ≡ map (λ q. part_of left ++ q) (map part_of qs)
each_is left [] = refl
each_is left (q ∷ qs) =
    ap (λ t. t ∷ map part_of (each_behind left qs)) (parts_of_append left q) ∙ ap (λ t. (part_of left ++ part_of q) ∷ t) (each_is left qs)

pub joined_is : (ps qs : List (List Rows)) → map part_of (all_joined ps qs) ≡ joined (map part_of ps) (map part_of qs)
joined_is [] qs = refl
joined_is (p ∷ ps) qs =
    parts_append (each_behind p qs) (all_joined ps qs)
    ∙ ap (λ t. t ++ map part_of (all_joined ps qs)) (each_is p qs)
    ∙ ap (λ t. map (λ q. part_of p ++ q) (map part_of qs) ++ t) (joined_is ps qs)

pub layer_is : (n c : Count) (f g used : Bool) (ps out : List (List Constraint)) → c ≡ clipped n → f ≡ g → used ≡ (within c && f) → out ≡ cond used ps []
    → layer_with c f out ≡ layer n g ps
layer_is n c f g used ps out e h k m =
    ap (λ t. layer_with c t out) h
    ∙ same_layer g e (m ∙ ap (λ t. cond t ps []) (k ∙ ap (λ t. within t && f) e ∙ ap (λ t. within (clipped n) && t) h ∙ ap (λ t. t && g) (clipped_within n)))

-- ---- bounds

side_row_none_by : (b : Bool) (d : Affine) (r : FormRow) → None ≡ cond b (Some d) None → None ≡ cond b (Some r) None
side_row_none_by true d r e = absurd (none_is_not_some d e)
side_row_none_by false d r e = refl

pub side_row_none : (d : Affine) → None ≡ fitting d → None ≡ checked_form_row d
side_row_none d e = side_row_none_by (form_fits d) d (plain_row AtLeast d) e

side_row_some_by : (b : Bool) (d h : Affine) → Some h ≡ cond b (Some d) None → Some (plain_row AtLeast h) ≡ cond b (Some (plain_row AtLeast d)) None
side_row_some_by true d h e = ap (λ t. Some (plain_row AtLeast t)) (same_inside h d e)
side_row_some_by false d h e = absurd (some_is_not_none h e)

pub side_row_some : (d h : Affine) → Some h ≡ fitting d → Some (record { kind = AtLeast; form = h; local = pos 0 }) ≡ checked_form_row d
side_row_some d h e = side_row_some_by (form_fits d) d h e

pub stride_row_none : (side : Side) (f : Affine) (step : ℤ) → None ≡ fitting (side_form side (pos 1) f (pos 0)) → None ≡ checked_stride (stride_row side f step)
stride_row_none side f step e = side_row_none_by (form_fits (side_form side (pos 1) f (pos 0))) (side_form side (pos 1) f (pos 0)) (stride_row side f step) e

stride_with : Affine → ℤ → FormRow
stride_with f s = record { kind = Equal; form = f; local = neg_ℤ s }

stride_some_by : (b : Bool) (d h : Affine) (s : ℤ) → Some h ≡ cond b (Some d) None → Some (stride_with h s) ≡ cond b (Some (stride_with d s)) None
stride_some_by true d h s e = ap (λ t. Some (stride_with t s)) (same_inside h d e)
stride_some_by false d h s e = absurd (some_is_not_none h e)

pub stride_row_some : (side : Side) (f h : Affine) (step s : ℤ) → Some h ≡ fitting (side_form side (pos 1) f (pos 0)) → s ≡ pos (unsigned_abs step)
    → Some (record { kind = Equal; form = h; local = neg_ℤ s }) ≡ checked_stride (stride_row side f step)
unfolding stride_with
stride_row_some side f h step s e k =
    ap (λ t. Some (stride_with h t)) k ∙ stride_some_by (form_fits (side_form side (pos 1) f (pos 0))) (side_form side (pos 1) f (pos 0)) h (pos (unsigned_abs step)) e

no_rows : (rows : List FormRow) (a b : Bool) → cond (a && (b && false)) rows [] ≡ []
no_rows rows true true = refl
no_rows rows true false = refl
no_rows rows false b = refl

pub one_unfit_is : (old : BoundsData) (c : ℕ) → c ≡ min (old.count + 1) (max_rows + 1) → bounds_with [] c false ≡ with_one None old
one_unfit_is old c e = same_bounds (sym (no_rows (old.rows ++ []) (nat_le (old.count + 1) max_rows) old.fits)) e (sym (and_false_right old.fits))

cut_le : (k n : ℕ) → nat_le (min n (k + 1)) k ≡ nat_le n k
cut_le k n = same_test _ _
    (λ e. let h = leb-true (min n (k + 1)) k e in le-leb n k (omega arith))
    (λ e. let h = leb-true n k e in le-leb (min n (k + 1)) k (omega arith))
  where
    same_test : (a b : Bool) → (a ≡ true → b ≡ true) → (b ≡ true → a ≡ true) → a ≡ b
    same_test true b f g = sym (f refl)
    same_test false true f g = g refl
    same_test false false f g = refl

pub one_more_is : (old : BoundsData) (row : FormRow) (c : ℕ) (used : Bool) (out : List FormRow) → c ≡ min (old.count + 1) (max_rows + 1) → used ≡ (nat_le c max_rows && old.fits)
    → out ≡ cond used (old.rows ++ row ∷ []) []
    → bounds_with out c old.fits ≡ with_one (Some row) old
one_more_is old row c used out e f g =
    same_bounds
    (g ∙ ap (λ t. cond t (old.rows ++ row ∷ []) [])
    (f ∙ ap (λ t. nat_le t max_rows && old.fits) e ∙ ap (λ t. t && old.fits) (cut_le max_rows (old.count + 1)) ∙ ap (λ t. nat_le (old.count + 1) max_rows && t) (sym (and_true_right old.fits))))
    e (sym (and_true_right old.fits))

pub rows_append : (a b : List Row) → map row_of (a ++ b) ≡ map row_of a ++ map row_of b
rows_append [] b = refl
rows_append (r ∷ a) b = ap (λ t. row_of r ∷ t) (rows_append a b)

-- the bounds with one row are those with the row where it fits
with_one_by : (old : BoundsData) (b : Bool) (row : FormRow) → with_one (cond b (Some row) None) old ≡ with_rows old 1 ((b && true) && true) (row ∷ [])
with_one_by old true row = refl
with_one_by old false row = unfit_rows old 1 [] (row ∷ [])

pub checked_row_is : (old : BoundsData) (d : Affine) (m : Option FormRow) (r : BoundsData) → m ≡ checked_form_row d → r ≡ with_one m old
    → r ≡ with_rows old 1 (form_rows_fit false (plain_row AtLeast d ∷ [])) (plain_row AtLeast d ∷ [])
checked_row_is old d m r e f = f ∙ ap (λ t. with_one t old) e ∙ with_one_by old (form_fits d) (plain_row AtLeast d)

-- ---- loops

unit_by : (b : BoundsData) (fits : Bool) → single (clipped (one_part b.count 0)) (cond fits (Some (record { rows = b.rows; has_local = false } ∷ [])) None)
    ≡ layer (one_part b.count 0) fits ((record { rows = b.rows; has_local = false } ∷ []) ∷ [])
unit_by b fits =
    single_by (one_part b.count 0) fits (record { rows = b.rows; has_local = false } ∷ [])
    ∙ ap (λ t. layer (one_part b.count 0) t ((record { rows = b.rows; has_local = false } ∷ []) ∷ [])) (and_true_right fits)

pub unit_is : (b : BoundsData) (c : Count) (m : Option (List Constraint)) (r : LayerData) → c ≡ clipped (one_part b.count 0) → m ≡ bounds_part b → r ≡ single c m → r ≡ unit_layer b
unit_is b c m r e f g = g ∙ ap (λ t. single t m) e ∙ ap (λ t. single (clipped (one_part b.count 0)) t) f ∙ unit_by b b.fits

two_constraints : BoundsData → FormRow → List Constraint
two_constraints b row = record { rows = b.rows; has_local = false } ∷ (record { rows = row ∷ []; has_local = true } ∷ [])

stride_by : (b : BoundsData) (row : FormRow) (x fits : Bool)
    → single (clipped (one_part (b.count + 1) 1)) (with_stride_part (record b { fits = fits }) (cond x (Some row) None))
    ≡ layer (one_part (b.count + 1) 1) (fits && x) (two_constraints b row ∷ [])
unfolding two_constraints
stride_by b row true true = single_by (one_part (b.count + 1) 1) true (two_constraints b row)
stride_by b row true false = single_by (one_part (b.count + 1) 1) false (two_constraints b row)
stride_by b row false fits =
    single_by (one_part (b.count + 1) 1) false (two_constraints b row)
    ∙ ap (λ t. layer (one_part (b.count + 1) 1) t (two_constraints b row ∷ [])) (sym (and_false_right fits))

stride_fits_by : (b : BoundsData) (x y : Bool) (row : FormRow) → y ≡ true → (b.fits && ((x && y) && true)) ≡ (b.fits && x)
stride_fits_by b true true row e = refl
stride_fits_by b true false row e = absurd (false_is_not_true e)
  where
    false_is_not_true : false ≡ true → ⊥
    false_is_not_true e = cc
stride_fits_by b false y row e = refl

step_fits : (step : ℤ) → unsigned_abs step < 2 ^ 127 → nat_lt (unsigned_abs (neg_ℤ (pos (unsigned_abs step)))) (2 ^ 127) ≡ true
step_fits step h = size_fits (unsigned_abs step) h

pub stride_some_is : (b : BoundsData) (side : Side) (f : Affine) (step : ℤ) (c : Count) (m : Option (List Constraint)) (r : LayerData)
    → unsigned_abs step < 2 ^ 127 → c ≡ clipped (one_part (b.count + 1) 1) → m ≡ with_stride_part b (checked_stride (stride_row side f step)) → r ≡ single c m
    → r ≡ stride_layer b side (Some f) (Some step)
unfolding two_constraints
stride_some_is b side f step c m r h d g i =
    i ∙ ap (λ t. single t m) d ∙ ap (λ t. single (clipped (one_part (b.count + 1) 1)) t) g
    ∙ stride_by b (stride_row side f step) (form_fits (stride_row side f step).form) b.fits
    ∙ ap (λ t. layer (one_part (b.count + 1) 1) t (two_constraints b (stride_row side f step) ∷ []))
    (sym (stride_fits_by b (form_fits (stride_row side f step).form) (nat_lt (unsigned_abs (neg_ℤ (pos (unsigned_abs step)))) (2 ^ 127)) (stride_row side f step) (step_fits step h)))
