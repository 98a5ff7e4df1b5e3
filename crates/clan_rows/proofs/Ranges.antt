-- What is in range: integers, rows and forms.
use Rattle.std.proofs.Common.{◌≡◌, ℕ, zero, suc, ◌+◌, ◌≤◌, ◌<◌, List, [], ◌∷◌, ◌++◌, length, map, Bool, true, false, ◌&&◌, cond, refl, sym, ◌∙◌, ap, arith, ℤ, pos, negsuc, neg_ℤ, ◌+ℤ◌, ◌*ℤ◌, Option, None, Some}
use Rattle.std.specs.Prelude.{◌^◌, max, nat_lt, unsigned_abs}
use Rattle.std.proofs.lemmas.Int.{ints}
use Rattle.std.proofs.lemmas.Bool.{lt-ltb, le-ltb, ltb-true}
use Rattle.row_core.specs.Rows.{entry, add_rows, scale, AreCoefficients}
use Rattle.scop_data.specs.declared.affines.Affine.{Affine}
use Rattle.clan_extract.specs.Forms.{sum_of, multiple, opposite_of, difference}
use Rattle.clan_extract.specs.Constraints.{plus}
use Rattle.clan_extract.specs.Refusals.{are_in_range, form_fits}
use Rattle.clan_rows.specs.Fitting.{in_range, fitting_row, fitting, magnitude, IntegerFits, RowFits, summed, assembled, difference_form}

false_is_not_true : false ≡ true → ⊥
false_is_not_true e = cc

abbrev pub form_with : List ℤ → List ℤ → ℤ → Affine
form_with i p c = record { iterators = i; floors = []; parameters = p; constant = c }

pub same_form : {a b : List ℤ} {c d : List ℤ} {y z : ℤ} → a ≡ b → c ≡ d → y ≡ z → form_with a c y ≡ form_with b d z
same_form {a} {b} {c} {d} {y} {z} e f g = ap (λ t. form_with t c y) e ∙ ap (λ t. form_with b t y) f ∙ ap (λ t. form_with b d t) g

-- ---- integers and rows

pub integer_fits : (z : ℤ) (r : Option ℤ) → IntegerFits z r → r ≡ in_range z
integer_fits z None h = let e : nat_lt (unsigned_abs z) (2 ^ 127) ≡ false = le-ltb (unsigned_abs z) (2 ^ 127) h in rw e refl
integer_fits z (Some y) h = let e : nat_lt (unsigned_abs z) (2 ^ 127) ≡ true = lt-ltb (unsigned_abs z) (2 ^ 127) h.0 in rw (e, h.1) refl

same_test : (a b : Bool) → (a ≡ true → b ≡ true) → (b ≡ true → a ≡ true) → a ≡ b
same_test true b f g = sym (f refl)
same_test false true f g = g refl
same_test false false f g = refl

both_true : (a b : Bool) → (a && b) ≡ true → (a ≡ true) × (b ≡ true)
both_true true b e = (refl, e)
both_true false b e = absurd (false_is_not_true e)

two_true : (a b : Bool) → a ≡ true → b ≡ true → (a && b) ≡ true
two_true true b e f = f
two_true false b e f = e

below_both : (a b m : ℕ) → (nat_lt a m && nat_lt b m) ≡ nat_lt (max a b) m
below_both a b m = same_test _ _
    (λ e. let p = both_true (nat_lt a m) (nat_lt b m) e in let x = ltb-true a m p.0 in let y = ltb-true b m p.1 in lt-ltb (max a b) m (omega arith))
    (λ e. let x = ltb-true (max a b) m e in two_true (nat_lt a m) (nat_lt b m) (lt-ltb a m (omega arith)) (lt-ltb b m (omega arith)))

magnitude_is : (row : List ℤ) → are_in_range row ≡ nat_lt (magnitude row) (2 ^ 127)
magnitude_is [] = refl
magnitude_is (z ∷ row) = ap (λ t. nat_lt (unsigned_abs z) (2 ^ 127) && t) (magnitude_is row) ∙ below_both (unsigned_abs z) (magnitude row) (2 ^ 127)

pub row_fits : (row : List ℤ) (r : Option (List ℤ)) → RowFits row r → r ≡ fitting_row row
row_fits row None h = let e : are_in_range row ≡ false = magnitude_is row ∙ le-ltb (magnitude row) (2 ^ 127) h in rw e refl
row_fits row (Some r) h = let e : are_in_range row ≡ true = magnitude_is row ∙ lt-ltb (magnitude row) (2 ^ 127) h.0 in rw (e, h.1) refl

pub summed_is : (a b : List ℤ) → length a ≡ length b → summed a b ≡ add_rows a b
summed_is [] [] e = refl
summed_is [] (y ∷ b) e = absurd (omega (arith, e))
summed_is (x ∷ a) [] e = absurd (omega (arith, e))
summed_is (x ∷ a) (y ∷ b) e = ap (λ t. (x +ℤ y) ∷ t) (summed_is a b (omega (arith, e)))

pub opposite_z : (z : ℤ) → neg_ℤ z ≡ negsuc 0 *ℤ z
opposite_z z = omega (arith, ints)

pub negated_is : (a : List ℤ) → map neg_ℤ a ≡ scale (negsuc 0) a
negated_is [] = refl
negated_is (z ∷ a) = ap (λ t. t ∷ map neg_ℤ a) (opposite_z z) ∙ ap (λ t. (negsuc 0 *ℤ z) ∷ t) (negated_is a)

coefficients_in_range : (row : List ℤ) → AreCoefficients row → are_in_range row ≡ true
coefficients_in_range [] h = refl
coefficients_in_range (z ∷ row) h =
    two_true (nat_lt (unsigned_abs z) (2 ^ 127)) (are_in_range row) (lt-ltb (unsigned_abs z) (2 ^ 127) (h.bound 0))
    (coefficients_in_range row (record { bound = λ k. h.bound (suc k) }))

-- ---- forms

pub is_in_range : (i p : List ℤ) (c : ℤ) → AreCoefficients i → AreCoefficients p → unsigned_abs c < 2 ^ 127
    → form_fits (record { iterators = i; floors = []; parameters = p; constant = c }) ≡ true
is_in_range i p c h k l =
    two_true (are_in_range i && are_in_range p) (nat_lt (unsigned_abs c) (2 ^ 127))
    (two_true (are_in_range i) (are_in_range p) (coefficients_in_range i h) (coefficients_in_range p k)) (lt-ltb (unsigned_abs c) (2 ^ 127) l)

-- a form is assembled of pieces that fit, or is out of range
pieces_fit : (a b : List ℤ) (z : ℤ) (x y w : Bool)
    → assembled (cond x (Some a) None) (cond y (Some b) None) (cond w (Some z) None)
    ≡ cond ((x && y) && w) (Some (record { iterators = a; floors = []; parameters = b; constant = z })) None
pieces_fit a b z true true true = refl
pieces_fit a b z true true false = refl
pieces_fit a b z true false w = refl
pieces_fit a b z false y w = refl

pub fitting_is : (a b : List ℤ) (z : ℤ) (i p : Option (List ℤ)) (c : Option ℤ) (r : Option Affine)
    → i ≡ fitting_row a → p ≡ fitting_row b → IntegerFits z c → r ≡ assembled i p c
    → r ≡ fitting (record { iterators = a; floors = []; parameters = b; constant = z })
fitting_is a b z i p c r e f h g =
    g ∙ ap (λ t. assembled t p c) e ∙ ap (λ t. assembled (fitting_row a) t c) f ∙ ap (λ t. assembled (fitting_row a) (fitting_row b) t) (integer_fits z c h)
    ∙ pieces_fit a b z (are_in_range a) (are_in_range b) (nat_lt (unsigned_abs z) (2 ^ 127))

pub sum_is : (f g : Affine) (i p : Option (List ℤ)) (c : Option ℤ) (r : Option Affine)
    → i ≡ fitting_row (add_rows f.iterators g.iterators) → p ≡ fitting_row (add_rows f.parameters g.parameters) → IntegerFits (f.constant +ℤ g.constant) c
    → r ≡ assembled i p c → r ≡ fitting (sum_of f g)
sum_is f g i p c r d e h k = fitting_is (add_rows f.iterators g.iterators) (add_rows f.parameters g.parameters) (f.constant +ℤ g.constant) i p c r d e h k

pub multiple_is : (q : ℤ) (f : Affine) (i p : Option (List ℤ)) (c : Option ℤ) (r : Option Affine)
    → i ≡ fitting_row (scale q f.iterators) → p ≡ fitting_row (scale q f.parameters) → IntegerFits (q *ℤ f.constant) c
    → r ≡ assembled i p c → r ≡ fitting (multiple q f)
multiple_is q f i p c r d e h k = fitting_is (scale q f.iterators) (scale q f.parameters) (q *ℤ f.constant) i p c r d e h k

pub negative_is : (f : Affine) (i p : List ℤ) (c : ℤ)
    → i ≡ scale (negsuc 0) f.iterators → p ≡ scale (negsuc 0) f.parameters → c ≡ neg_ℤ f.constant
    → record { iterators = i; floors = []; parameters = p; constant = c } ≡ opposite_of f
negative_is f i p c d e h = same_form d e (h ∙ opposite_z f.constant)

difference_constant : (x y z : ℤ) → (x +ℤ z) +ℤ neg_ℤ y ≡ (x +ℤ (negsuc 0 *ℤ y)) +ℤ z
difference_constant x y z = omega (arith, ints)

pub difference_is : (f g : Affine) (z : ℤ) (r : Option Affine) → r ≡ fitting (difference_form f g z) → r ≡ fitting (difference f g z)
difference_is f g z r e =
    e ∙ ap (λ t. fitting (form_with (add_rows f.iterators (scale (negsuc 0) g.iterators)) (add_rows f.parameters (scale (negsuc 0) g.parameters)) t)) (difference_constant f.constant g.constant z)

pub length_of_scale : (q : ℤ) (a : List ℤ) → length (scale q a) ≡ length a
length_of_scale q [] = refl
length_of_scale q (z ∷ a) = omega (arith, length_of_scale q a)

pub exact_difference : (f g : Affine) → difference f g (pos 0) ≡ sum_of f (opposite_of g)
exact_difference f g = let d = sum_of f (opposite_of g) in same_form refl refl (omega (arith, ints))

-- with a new constant
constant_fits : (f g : Affine) (c : Option ℤ) (r : Option Affine) → (are_in_range g.iterators && are_in_range g.parameters) ≡ true → g.floors ≡ []
    → IntegerFits g.constant c → r ≡ assembled (Some g.iterators) (Some g.parameters) c → r ≡ fitting g
constant_fits f g c r e n h k =
    let p = both_true (are_in_range g.iterators) (are_in_range g.parameters) e in
    let i : Some g.iterators ≡ fitting_row g.iterators = rw p.0 refl in
    let j : Some g.parameters ≡ fitting_row g.parameters = rw p.1 refl in
    fitting_is g.iterators g.parameters g.constant (Some g.iterators) (Some g.parameters) c r i j h k
    ∙ ap (λ t. fitting (record { iterators = g.iterators; floors = t; parameters = g.parameters; constant = g.constant })) (sym n)

pub plus_is : (f : Affine) (z : ℤ) (c : Option ℤ) (r : Option Affine) → form_fits f ≡ true → f.floors ≡ [] → IntegerFits (f.constant +ℤ z) c
    → r ≡ assembled (Some f.iterators) (Some f.parameters) c → r ≡ fitting (plus f z)
plus_is f z c r e n h k = constant_fits f (plus f z) c r (both_true (are_in_range f.iterators && are_in_range f.parameters) _ e).0 n h k

pub opposite_fits : (f g : Affine) → g ≡ f → form_fits g ≡ true → Some g ≡ fitting f
opposite_fits f g e h = let k : form_fits f ≡ true = ap form_fits (sym e) ∙ h in rw (k, e) refl
