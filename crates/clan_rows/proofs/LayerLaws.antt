-- The layer of a condition, by those of its sides.
use Rattle.std.proofs.Common.{◌≡◌, ℕ, zero, suc, ◌+◌, ◌*◌, ◌≤◌, ◌<◌, List, [], ◌∷◌, ◌++◌, length, Bool, true, false, ◌&&◌, cond, refl, sym, ◌∙◌, ap, arith, ℤ, pos, negsuc, neg_ℤ, ◌-ℤ◌, Option, None, Some, ◌⊎◌, inl, inr}
use Rattle.std.proofs.lemmas.Int.{ints}
use Rattle.std.specs.Prelude.{◌^◌, min, max, nat_lt, nat_le, nat_eq, unsigned_abs, not}
use Rattle.std.proofs.lemmas.Bool.{le-leb, leb-true, leb-false, lt-leb}
use Rattle.std.proofs.Math.Nat.{mul-le-mul_left}
use Rattle.std.proofs.Math.Dec.{eqb-suc-zero}
use Rattle.suite_base.specs.Limits.{max_parts, max_rows, max_locals}
use Rattle.scop_data.specs.declared.affines.Affine.{Affine}
use Rattle.clan_extract.specs.Regions.{Expression, Number, Name, Sum, Difference, Product, Negation, Maximum, Minimum, Ceiling, Floor, Remainder, Comparison, IsLess, IsLessOrEqual, IsGreater, IsGreaterOrEqual, IsEqual, IsUnequal, Condition, Compare, Both, Either, Opposite}
use Rattle.clan_extract.specs.Forms.{opposite_of, form}
use Rattle.clan_extract.specs.Constraints.{Constraint, plus, joined, comparison_parts, remainder_parts, parts_of_sides, opposite_comparison, parts_of_condition}
use Rattle.clan_extract.specs.Counts.{Count, crossed, in_turn, affine_count, remainder_count, sides_count, condition_count}
use Rattle.clan_extract.specs.Scops.{is_zero}
use Rattle.clan_extract.specs.Refusals.{are_in_range, form_fits, forms_fit, condition_fits}
use Rattle.clan_extract.specs.RowRanges.{parts_fit, comparisons_fit}
use Rattle.clan_rows.specs.Fitting.{in_range, checked_form}
use Rattle.clan_rows.specs.Layers.{LayerData, clipped, within, layer, condition_layer, crossed_layers, in_turn_layers, comparison_layer, remainder_layer}
use Rattle.clan_rows.proofs.FormLaws.{zeros_in_range}

pub bool_tells : (b : Bool) → (b ≡ true) ⊎ (b ≡ false)
bool_tells true = inl refl
bool_tells false = inr refl

pub false_is_not_true : false ≡ true → ⊥
false_is_not_true e = cc

-- ---- counts

abbrev pub count_with : ℕ → ℕ → ℕ → Count
count_with parts rows locals = record { parts = parts; rows = rows; locals = locals }

pub same_count : {a b c d e f : ℕ} → a ≡ d → b ≡ e → c ≡ f → count_with a b c ≡ count_with d e f
same_count {a} {b} {c} {d} {e} {f} p q r = ap (λ z. count_with z b c) p ∙ ap (λ z. count_with d z c) q ∙ ap (λ z. count_with d e z) r

-- what is within its limits, as numbers
pub record Small (n : Count) : Type 0 where
  pub parts : n.parts ≤ max_parts
  pub rows : n.rows ≤ max_rows
  pub locals : n.locals ≤ max_locals

pub both_true : (a b : Bool) → (a && b) ≡ true → (a ≡ true) × (b ≡ true)
both_true true b e = (refl, e)
both_true false b e = absurd (false_is_not_true e)

three_true : (a b c : Bool) → a ≡ true → b ≡ true → c ≡ true → (a && (b && c)) ≡ true
three_true true b c p q r = two b c q r
  where
    two : (b c : Bool) → b ≡ true → c ≡ true → (b && c) ≡ true
    two true c q r = r
    two false c q r = q
three_true false b c p q r = p

pub small_of : (n : Count) → within n ≡ true → Small n
small_of n e =
    let p = both_true (nat_le n.parts max_parts) _ e in
    let q = both_true (nat_le n.rows max_rows) _ p.1 in
    record { parts = leb-true n.parts max_parts p.0; rows = leb-true n.rows max_rows q.0; locals = leb-true n.locals max_locals q.1 }

pub of_small : (n : Count) → Small n → within n ≡ true
of_small n s =
    three_true _ _ _ (le-leb n.parts max_parts s.parts) (le-leb n.rows max_rows s.rows) (le-leb n.locals max_locals s.locals)

-- equal tests
pub same_test : (a b : Bool) → (a ≡ true → b ≡ true) → (b ≡ true → a ≡ true) → a ≡ b
same_test true b f g = sym (f refl)
same_test false true f g = g refl
same_test false false f g = refl

-- products and sums of cut numbers
product_within : (a b : ℕ) → 1 ≤ a → 1 ≤ b → (a ≤ a * b) × (b ≤ a * b)
product_within a b g h = (omega (arith, mul-le-mul_left a h), omega (arith, mul-le-mul_left b g))

large_cut : (k a b : ℕ) → 1 ≤ k → k ≤ a → min (min a k * min b k) k ≡ min (a * b) k
large_cut k a zero h g =
    let e : min a k ≡ k = omega arith in let f : min 0 k ≡ 0 = omega arith in rw (e, f) (omega arith)
large_cut k a (suc b) h g =
    let e : min a k ≡ k = omega arith in
    let m : 1 ≤ min (suc b) k = omega arith in
    let p : 1 ≤ suc b = omega arith in
    let q : 1 ≤ a = omega arith in
    let l : k ≤ k * min (suc b) k = (product_within k (min (suc b) k) h m).0 in
    let r : a ≤ a * suc b = (product_within a (suc b) q p).0 in
    rw e (omega arith)

product_cut : (k a b : ℕ) → 1 ≤ k → min (min a k * min b k) k ≡ min (a * b) k
product_cut k a b h = elim (bool_tells (nat_le k a)) [
  | inl t ↦ large_cut k a b h (leb-true k a t)
  | inr f ↦ elim (bool_tells (nat_le k b)) [
    | inl t ↦ let p : min a k * min b k ≡ min b k * min a k = omega arith in let q : a * b ≡ b * a = omega arith in rw (p, q) (large_cut k b a h (leb-true k b t))
    | inr g ↦ let a_below = leb-false k a f in let b_below = leb-false k b g in let p : min a k ≡ a = omega arith in let q : min b k ≡ b = omega arith in rw (p, q) refl
  ]
]

pub clipped_crossed : (m n : Count) → clipped (crossed m n) ≡ clipped (crossed (clipped m) (clipped n))
clipped_crossed m n = same_count (sym (product_cut 65 m.parts n.parts (omega arith))) (omega arith) (omega arith)

clipped_in_turn : (m n : Count) → clipped (in_turn m n) ≡ clipped (in_turn (clipped m) (clipped n))
clipped_in_turn m n = same_count (omega arith) (omega arith) (omega arith)

-- a count is within its limits where it is when cut
cut_back : (k a : ℕ) → min a (k + 1) ≤ k → a ≤ k
cut_back k a h = omega arith

pub clipped_within : (n : Count) → within (clipped n) ≡ within n
clipped_within n = same_test _ _
    (λ e. let s = small_of (clipped n) e in
    of_small n (record { parts = cut_back max_parts n.parts s.parts; rows = cut_back max_rows n.rows s.rows; locals = cut_back max_locals n.locals s.locals }))
    (λ e. let s = small_of n e in let p = s.parts in let q = s.rows in let r = s.locals in
    of_small (clipped n) (record { parts = omega arith; rows = omega arith; locals = omega arith }))

-- what is crossed, or in turn, is within the limits only where both are
pub crossed_small : (m n : Count) → 1 ≤ m.parts → 1 ≤ n.parts → Small (crossed m n) → Small m × Small n
crossed_small m n g h s =
    let p = s.parts in let q = s.rows in let r = s.locals in
    let w = product_within m.parts n.parts g h in
    let w0 = w.0 in let w1 = w.1 in
    (record { parts = omega arith; rows = omega arith; locals = omega arith }, record { parts = omega arith; rows = omega arith; locals = omega arith })

in_turn_small : (m n : Count) → Small (in_turn m n) → Small m × Small n
in_turn_small m n s =
    let p = s.parts in let q = s.rows in let r = s.locals in
    (record { parts = omega arith; rows = omega arith; locals = omega arith }, record { parts = omega arith; rows = omega arith; locals = omega arith })

-- ---- layers

abbrev pub layer_with : Count → Bool → List (List Constraint) → LayerData
layer_with count fits parts = record { count = count; fits = fits; parts = parts }

pub same_layer : {c d : Count} (fits : Bool) {ps qs : List (List Constraint)} → c ≡ d → ps ≡ qs → layer_with c fits ps ≡ layer_with d fits qs
same_layer {c} {d} fits {ps} {qs} e f = ap (λ z. layer_with z fits ps) e ∙ ap (λ z. layer_with d fits z) f

-- parts of both sides are used only where both sides have them
cut_parts : (op : List (List Constraint) → List (List Constraint) → List (List Constraint)) (w v u x y : Bool) (ps qs : List (List Constraint))
    → (w ≡ true → v ≡ true) → (w ≡ true → u ≡ true)
    → cond (w && (x && y)) (op ps qs) [] ≡ cond (w && (x && y)) (op (cond (v && x) ps []) (cond (u && y) qs [])) []
cut_parts op true v u true true ps qs f g = rw (f refl, g refl) refl
cut_parts op true v u true false ps qs f g = refl
cut_parts op true v u false y ps qs f g = refl
cut_parts op false v u x y ps qs f g = refl

pub crossed_is : (m n : Count) (x y : Bool) (ps qs : List (List Constraint)) → 1 ≤ m.parts → 1 ≤ n.parts
    → layer (crossed m n) (x && y) (joined ps qs) ≡ crossed_layers (layer m x ps) (layer n y qs)
crossed_is m n x y ps qs g h =
    let w : within (crossed m n) ≡ within (crossed (clipped m) (clipped n)) =
    sym (clipped_within (crossed m n)) ∙ ap within (clipped_crossed m n) ∙ clipped_within (crossed (clipped m) (clipped n)) in
    same_layer (x && y) (clipped_crossed m n)
    (cut_parts joined (within (crossed m n)) (within m) (within n) x y ps qs
    (λ e. of_small m (crossed_small m n g h (small_of _ e)).0) (λ e. of_small n (crossed_small m n g h (small_of _ e)).1)
    ∙ ap (λ t. cond (t && (x && y)) (joined (cond (within m && x) ps []) (cond (within n && y) qs [])) []) w)

pub in_turn_is : (m n : Count) (x y : Bool) (ps qs : List (List Constraint)) → layer (in_turn m n) (x && y) (ps ++ qs) ≡ in_turn_layers (layer m x ps) (layer n y qs)
in_turn_is m n x y ps qs =
    let w : within (in_turn m n) ≡ within (in_turn (clipped m) (clipped n)) =
    sym (clipped_within (in_turn m n)) ∙ ap within (clipped_in_turn m n) ∙ clipped_within (in_turn (clipped m) (clipped n)) in
    same_layer (x && y) (clipped_in_turn m n)
    (cut_parts (λ a b. a ++ b) (within (in_turn m n)) (within m) (within n) x y ps qs
    (λ e. of_small m (in_turn_small m n (small_of _ e)).0) (λ e. of_small n (in_turn_small m n (small_of _ e)).1)
    ∙ ap (λ t. cond (t && (x && y)) (cond (within m && x) ps [] ++ cond (within n && y) qs []) []) w)

-- ---- conditions

pub some_part : (truth : Bool) (c : Condition) → 1 ≤ (condition_count truth c).parts
some_part truth (Compare comparison left right) = sides (cond truth comparison (opposite_comparison comparison)) left
  where
    affine : (comparison : Comparison) → 1 ≤ (affine_count comparison).parts
    affine IsLess = omega arith
    affine IsLessOrEqual = omega arith
    affine IsGreater = omega arith
    affine IsGreaterOrEqual = omega arith
    affine IsEqual = omega arith
    affine IsUnequal = omega arith

    remainder : (comparison : Comparison) → 1 ≤ (remainder_count comparison).parts
    remainder IsLess = omega arith
    remainder IsLessOrEqual = omega arith
    remainder IsGreater = omega arith
    remainder IsGreaterOrEqual = omega arith
    remainder IsEqual = omega arith
    remainder IsUnequal = omega arith

    sides : (comparison : Comparison) (left : Expression) → 1 ≤ (sides_count comparison left).parts
    sides comparison (Number value) = affine comparison
    sides comparison (Name name) = affine comparison
    sides comparison (Sum a b) = affine comparison
    sides comparison (Difference a b) = affine comparison
    sides comparison (Product a b) = affine comparison
    sides comparison (Negation e) = affine comparison
    sides comparison (Maximum a b) = affine comparison
    sides comparison (Minimum a b) = affine comparison
    sides comparison (Ceiling e d) = affine comparison
    sides comparison (Floor e d) = affine comparison
    sides comparison (Remainder e d) = remainder comparison
some_part true (Both left right) = let p = some_part true left in let q = some_part true right in
    omega (arith, (product_within (condition_count true left).parts (condition_count true right).parts p q).0)
some_part false (Both left right) = let p = some_part false left in omega arith
some_part true (Either left right) = let p = some_part true left in omega arith
some_part false (Either left right) = let p = some_part false left in let q = some_part false right in
    omega (arith, (product_within (condition_count false left).parts (condition_count false right).parts p q).0)
some_part true (Opposite of) = some_part false of
some_part false (Opposite of) = some_part true of

pub and_exchange : (a b c d : Bool) → ((a && b) && (c && d)) ≡ ((a && c) && (b && d))
and_exchange false b c d = refl
and_exchange true true true d = refl
and_exchange true true false d = refl
and_exchange true false true d = refl
and_exchange true false false d = refl

module _ (parameters loops : List (List ℕ)) where
  pub both_true_layer : (left right : Condition)
      → condition_layer parameters loops true (Both left right) ≡ crossed_layers (condition_layer parameters loops true left) (condition_layer parameters loops true right)
  both_true_layer left right =
      ap (λ t. layer (condition_count true (Both left right)) t (parts_of_condition parameters loops true (Both left right)))
      (and_exchange (condition_fits parameters loops left) (condition_fits parameters loops right) (comparisons_fit parameters loops true left) (comparisons_fit parameters loops true right))
      ∙ crossed_is (condition_count true left) (condition_count true right)
      (condition_fits parameters loops left && comparisons_fit parameters loops true left) (condition_fits parameters loops right && comparisons_fit parameters loops true right)
      (parts_of_condition parameters loops true left) (parts_of_condition parameters loops true right)
      (some_part true left) (some_part true right)

  pub both_false_layer : (left right : Condition)
      → condition_layer parameters loops false (Both left right) ≡ in_turn_layers (condition_layer parameters loops false left) (condition_layer parameters loops false right)
  both_false_layer left right =
      ap (λ t. layer (condition_count false (Both left right)) t (parts_of_condition parameters loops false (Both left right)))
      (and_exchange (condition_fits parameters loops left) (condition_fits parameters loops right) (comparisons_fit parameters loops false left) (comparisons_fit parameters loops false right))
      ∙ in_turn_is (condition_count false left) (condition_count false right)
      (condition_fits parameters loops left && comparisons_fit parameters loops false left) (condition_fits parameters loops right && comparisons_fit parameters loops false right)
      (parts_of_condition parameters loops false left) (parts_of_condition parameters loops false right)

  pub either_true_layer : (left right : Condition)
      → condition_layer parameters loops true (Either left right) ≡ in_turn_layers (condition_layer parameters loops true left) (condition_layer parameters loops true right)
  either_true_layer left right =
      ap (λ t. layer (condition_count true (Either left right)) t (parts_of_condition parameters loops true (Either left right)))
      (and_exchange (condition_fits parameters loops left) (condition_fits parameters loops right) (comparisons_fit parameters loops true left) (comparisons_fit parameters loops true right))
      ∙ in_turn_is (condition_count true left) (condition_count true right)
      (condition_fits parameters loops left && comparisons_fit parameters loops true left) (condition_fits parameters loops right && comparisons_fit parameters loops true right)
      (parts_of_condition parameters loops true left) (parts_of_condition parameters loops true right)

  pub either_false_layer : (left right : Condition)
      → condition_layer parameters loops false (Either left right) ≡ crossed_layers (condition_layer parameters loops false left) (condition_layer parameters loops false right)
  either_false_layer left right =
      ap (λ t. layer (condition_count false (Either left right)) t (parts_of_condition parameters loops false (Either left right)))
      (and_exchange (condition_fits parameters loops left) (condition_fits parameters loops right) (comparisons_fit parameters loops false left) (comparisons_fit parameters loops false right))
      ∙ crossed_is (condition_count false left) (condition_count false right)
      (condition_fits parameters loops left && comparisons_fit parameters loops false left) (condition_fits parameters loops right && comparisons_fit parameters loops false right)
      (parts_of_condition parameters loops false left) (parts_of_condition parameters loops false right)
      (some_part false left) (some_part false right)

  pub opposite_layer : (truth : Bool) (of : Condition) → condition_layer parameters loops truth (Opposite of) ≡ condition_layer parameters loops (not truth) of
  opposite_layer truth of = refl

-- ---- comparisons

abbrev pub is_remainder : Expression → Bool
is_remainder (Remainder of divisor) = true
is_remainder e = false

abbrev pub no_parts : List (List Constraint)
no_parts = []

pub nothing : (b : Bool) → cond (b && false) no_parts no_parts ≡ no_parts
nothing true = refl
nothing false = refl

-- where a form does not fit, whatever else does, there are no parts
pub unfit_by : (n : Count) (ps qs : List (List Constraint)) → layer n false ps ≡ layer n false qs
unfit_by n ps qs = step (within n)
  where
    step : (b : Bool) → layer_with (clipped n) false (cond (b && false) ps []) ≡ layer_with (clipped n) false (cond (b && false) qs [])
    step true = refl
    step false = refl

comparison_by : (comparison : Comparison) (f g : Affine) (x y : Bool)
    → layer (affine_count comparison) ((x && y) && parts_fit (comparison_parts comparison f g)) (comparison_parts comparison f g)
    ≡ comparison_layer comparison (cond x (Some f) None) (cond y (Some g) None)
comparison_by comparison f g true true = refl
comparison_by comparison f g true false = unfit_by (affine_count comparison) (comparison_parts comparison f g) []
comparison_by comparison f g false y = unfit_by (affine_count comparison) (comparison_parts comparison f g) []

pub true_is_not_false : true ≡ false → ⊥
true_is_not_false e = cc

sides_by : (parameters loops : List (List ℕ)) (comparison : Comparison) (left right : Expression) → is_remainder left ≡ false
    → layer (sides_count comparison left)
    ((forms_fit parameters loops left && forms_fit parameters loops right) && parts_fit (parts_of_sides parameters loops comparison left right))
    (parts_of_sides parameters loops comparison left right)
    ≡ comparison_layer comparison (checked_form parameters loops left) (checked_form parameters loops right)
sides_by parameters loops comparison (Remainder of divisor) right h = absurd (true_is_not_false h)
sides_by parameters loops comparison left right h =
    comparison_by comparison (form parameters loops left) (form parameters loops right) (forms_fit parameters loops left) (forms_fit parameters loops right)

-- the layer of a comparison of two values, and of a remainder with 0
pub compare_layer : (parameters loops : List (List ℕ)) (truth : Bool) (comparison : Comparison) (left right : Expression) → is_remainder left ≡ false
    → condition_layer parameters loops truth (Compare comparison left right)
    ≡ comparison_layer (cond truth comparison (opposite_comparison comparison)) (checked_form parameters loops left) (checked_form parameters loops right)
compare_layer parameters loops truth comparison left right h = sides_by parameters loops (cond truth comparison (opposite_comparison comparison)) left right h

between_unfit : (a b c d : Bool) → d ≡ false → ((((a && b) && ((c && d) && true)) && true) && true) ≡ false
between_unfit true true true d e = rw e refl
between_unfit true true false d e = refl
between_unfit true false c d e = refl
between_unfit false b c d e = refl

multiple_unfit : (a b : Bool) → b ≡ false → ((((a && b) && true) && true) && true) ≡ false
multiple_unfit true b e = rw e refl
multiple_unfit false b e = refl

abs_neg : (d : ℕ) → unsigned_abs (neg_ℤ (pos d)) ≡ d
abs_neg d = omega (arith, ints)

-- a divisor out of range is a coefficient of a local that is
remainder_unfit : (comparison : Comparison) (f : Affine) (d : ℕ) → nat_lt d (2 ^ 127) ≡ false → parts_fit (remainder_parts comparison f d) ≡ false
remainder_unfit IsUnequal f d e =
    between_unfit (form_fits (plus f (negsuc 0))) (nat_lt (unsigned_abs (neg_ℤ (pos d))) (2 ^ 127)) (form_fits (plus (opposite_of f) (pos d -ℤ pos 1))) (nat_lt d (2 ^ 127)) e
remainder_unfit comparison f d e = multiple_unfit (form_fits f) (nat_lt (unsigned_abs (neg_ℤ (pos d))) (2 ^ 127)) (ap (λ n. nat_lt n (2 ^ 127)) (abs_neg d) ∙ e)

remainder_by : (comparison : Comparison) (f : Affine) (d : ℕ) (x y b : Bool) → y ≡ true → (b ≡ false → parts_fit (remainder_parts comparison f d) ≡ false)
    → layer (remainder_count comparison) ((x && y) && parts_fit (remainder_parts comparison f d)) (remainder_parts comparison f d)
    ≡ remainder_layer comparison (cond x (Some f) None) (cond b (Some (pos d)) None)
remainder_by comparison f d true true true e h = refl
remainder_by comparison f d true true false e h =
    ap (λ t. layer (remainder_count comparison) t (remainder_parts comparison f d)) (h refl) ∙ unfit_by (remainder_count comparison) (remainder_parts comparison f d) []
remainder_by comparison f d true false b e h = absurd (false_is_not_true e)
remainder_by comparison f d false y b e h = unfit_by (remainder_count comparison) (remainder_parts comparison f d) []

zero_fits : (parameters loops : List (List ℕ)) (e : Expression) → is_zero e ≡ true → forms_fit parameters loops e ≡ true
zero_fits parameters loops (Number value) h = step value h
  where
    step : (value : ℕ) → nat_eq value 0 ≡ true → forms_fit parameters loops (Number value) ≡ true
    step zero h = rw (zeros_in_range (length loops), zeros_in_range (length parameters)) refl
    step (suc n) h = absurd (false_is_not_true (sym (eqb-suc-zero n) ∙ h))
zero_fits parameters loops e h = absurd (false_is_not_true h)

pub remainder_compare_layer : (parameters loops : List (List ℕ)) (truth : Bool) (comparison : Comparison) (of : Expression) (divisor : ℕ) (right : Expression)
    → is_zero right ≡ true
    → condition_layer parameters loops truth (Compare comparison (Remainder of divisor) right)
    ≡ remainder_layer (cond truth comparison (opposite_comparison comparison)) (checked_form parameters loops of) (in_range (pos divisor))
remainder_compare_layer parameters loops truth comparison of divisor right z =
    remainder_by (cond truth comparison (opposite_comparison comparison)) (form parameters loops of) divisor (forms_fit parameters loops of) (forms_fit parameters loops right)
    (nat_lt divisor (2 ^ 127)) (zero_fits parameters loops right z) (λ e. remainder_unfit _ (form parameters loops of) divisor e)
