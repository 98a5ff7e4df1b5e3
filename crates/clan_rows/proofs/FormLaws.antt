-- The checked form of an expression, by those of its parts.
use Rattle.std.proofs.Common.{◌≡◌, ℕ, zero, suc, List, [], ◌∷◌, length, Bool, true, false, ◌&&◌, cond, refl, sym, ◌∙◌, ap, ℤ, pos, Option, None, Some}
use Rattle.std.specs.Prelude.{◌^◌, nat_lt, unsigned_abs, bytes_eq, not}
use Rattle.scop_data.specs.declared.affines.Affine.{Affine}
use Rattle.scop_data.specs.SolvedRows.{zeros}
use Rattle.clan_extract.specs.Regions.{Expression, Number, Name, Sum, Difference, Product, Negation, is_among}
use Rattle.clan_extract.specs.Forms.{sum_of, multiple, opposite_of, constant_form, name_form, innermost, first_of_name, has_names, form}
use Rattle.clan_extract.specs.Refusals.{are_in_range, form_fits, forms_fit}
use Rattle.clan_rows.specs.Fitting.{in_range, fitting, checked_form, constant_checked, sum_checked, difference_checked, product_checked, negative_checked}

sum_by : (f g : Affine) (x y : Bool) → cond ((x && y) && form_fits (sum_of f g)) (Some (sum_of f g)) None ≡ sum_checked (cond x (Some f) None) (cond y (Some g) None)
sum_by f g true true = refl
sum_by f g true false = refl
sum_by f g false y = refl

pub checked_sum : (parameters loops : List (List ℕ)) (a b : Expression)
    → checked_form parameters loops (Sum a b) ≡ sum_checked (checked_form parameters loops a) (checked_form parameters loops b)
checked_sum parameters loops a b = sum_by (form parameters loops a) (form parameters loops b) (forms_fit parameters loops a) (forms_fit parameters loops b)

difference_by : (f g : Affine) (x y : Bool)
    → cond ((x && y) && form_fits (sum_of f (opposite_of g))) (Some (sum_of f (opposite_of g))) None ≡ difference_checked (cond x (Some f) None) (cond y (Some g) None)
difference_by f g true true = refl
difference_by f g true false = refl
difference_by f g false y = refl

pub checked_difference : (parameters loops : List (List ℕ)) (a b : Expression)
    → checked_form parameters loops (Difference a b) ≡ difference_checked (checked_form parameters loops a) (checked_form parameters loops b)
checked_difference parameters loops a b = difference_by (form parameters loops a) (form parameters loops b) (forms_fit parameters loops a) (forms_fit parameters loops b)

product_by : (f g h : Affine) (n x y : Bool) → h ≡ cond n (multiple g.constant f) (multiple f.constant g)
    → cond ((x && y) && form_fits h) (Some h) None ≡ product_checked n (cond x (Some f) None) (cond y (Some g) None)
product_by f g h n true true e = ap fitting e
product_by f g h n true false e = refl
product_by f g h n false y e = refl

pub checked_product : (parameters loops : List (List ℕ)) (a b : Expression)
    → checked_form parameters loops (Product a b) ≡ product_checked (has_names a) (checked_form parameters loops a) (checked_form parameters loops b)
checked_product parameters loops a b =
    product_by (form parameters loops a) (form parameters loops b) (form parameters loops (Product a b)) (has_names a) (forms_fit parameters loops a) (forms_fit parameters loops b) refl

negative_by : (f : Affine) (x : Bool) → cond (x && form_fits (opposite_of f)) (Some (opposite_of f)) None ≡ negative_checked (cond x (Some f) None)
negative_by f true = refl
negative_by f false = refl

pub checked_negation : (parameters loops : List (List ℕ)) (e : Expression)
    → checked_form parameters loops (Negation e) ≡ negative_checked (checked_form parameters loops e)
checked_negation parameters loops e = negative_by (form parameters loops e) (forms_fit parameters loops e)

pub zeros_in_range : (n : ℕ) → are_in_range (zeros n) ≡ true
zeros_in_range zero = refl
zeros_in_range (suc n) = zeros_in_range n

number_by : (f : Affine) (z : ℤ) (i p b : Bool) → i ≡ true → p ≡ true → cond ((i && p) && b) (Some f) None ≡ cond b (Some f) None
number_by f z true true b e g = refl
number_by f z true false b e g = absurd (no_way g)
  where
    no_way : false ≡ true → ⊥
    no_way h = cc
number_by f z false p b e g = absurd (no_way e)
  where
    no_way : false ≡ true → ⊥
    no_way h = cc

constant_by : (parameters loops : List (List ℕ)) (z : ℤ) (b : Bool)
    → cond b (Some (constant_form parameters loops z)) None ≡ constant_checked parameters loops (cond b (Some z) None)
constant_by parameters loops z true = refl
constant_by parameters loops z false = refl

pub checked_number : (parameters loops : List (List ℕ)) (value : ℕ)
    → checked_form parameters loops (Number value) ≡ constant_checked parameters loops (in_range (pos value))
checked_number parameters loops value =
    number_by (constant_form parameters loops (pos value)) (pos value) (are_in_range (zeros (length loops))) (are_in_range (zeros (length parameters))) (nat_lt value (2 ^ 127))
    (zeros_in_range (length loops)) (zeros_in_range (length parameters))
    ∙ constant_by parameters loops (pos value) (nat_lt value (2 ^ 127))

innermost_in_range : (loops : List (List ℕ)) (name : List ℕ) → are_in_range (innermost loops name) ≡ true
innermost_in_range [] name = refl
innermost_in_range (x ∷ inner) name = step (bytes_eq x name && not (is_among name inner)) (innermost_in_range inner name)
  where
    step : (b : Bool) → are_in_range (innermost inner name) ≡ true → are_in_range (cond b (pos 1) (pos 0) ∷ innermost inner name) ≡ true
    step true e = e
    step false e = e

first_in_range : (xs : List (List ℕ)) (name : List ℕ) → are_in_range (first_of_name xs name) ≡ true
first_in_range [] name = refl
first_in_range (x ∷ xs) name = step (bytes_eq x name) (first_in_range xs name)
  where
    step : (b : Bool) → are_in_range (first_of_name xs name) ≡ true → are_in_range (cond b (pos 1 ∷ zeros (length xs)) (pos 0 ∷ first_of_name xs name)) ≡ true
    step true e = zeros_in_range (length xs)
    step false e = e

pub checked_name : (parameters loops : List (List ℕ)) (name : List ℕ) → checked_form parameters loops (Name name) ≡ Some (name_form parameters loops name)
checked_name parameters loops name =
    number_by (name_form parameters loops name) (pos 0) (are_in_range (innermost loops name)) (are_in_range (name_form parameters loops name).parameters) true
    (innermost_in_range loops name) (step (is_among name loops))
  where
    step : (b : Bool) → are_in_range (cond b (zeros (length parameters)) (first_of_name parameters name)) ≡ true
    step true = zeros_in_range (length parameters)
    step false = first_in_range parameters name
