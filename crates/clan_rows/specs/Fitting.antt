-- Integers and forms where they are in range: `None` is one that is out of range, and all that is made of it.
use Rattle.std.specs.Prelude.{◌≡◌, ℕ, ◌^◌, ◌≤◌, ◌<◌, max, List, [], ◌∷◌, ◌++◌, ℤ, pos, negsuc, neg_ℤ, ◌+ℤ◌, unsigned_abs, nat_lt, Bool, cond, Option, Some, None}
use Rattle.row_core.specs.Rows.{add_rows, scale}
use Rattle.scop_data.specs.declared.affines.Affine.{Affine}
use Rattle.clan_extract.specs.Regions.{Expression}
use Rattle.clan_extract.specs.Forms.{constant_form, sum_of, multiple, opposite_of, form}
use Rattle.clan_extract.specs.Refusals.{are_in_range, form_fits, forms_fit}

-- the integer, the row and the form, where they are in range
abbrev pub in_range : ℤ → Option ℤ
in_range z = cond (nat_lt (unsigned_abs z) (2 ^ 127)) (Some z) None

abbrev pub fitting_row : List ℤ → Option (List ℤ)
fitting_row row = cond (are_in_range row) (Some row) None

abbrev pub fitting : Affine → Option Affine
fitting f = cond (form_fits f) (Some f) None

-- the form of an expression, where the form of each of its parts is in range
abbrev pub checked_form : List (List ℕ) → List (List ℕ) → Expression → Option Affine
checked_form parameters loops e = cond (forms_fit parameters loops e) (Some (form parameters loops e)) None

-- the form that is an integer, where it is in range
abbrev pub constant_checked : List (List ℕ) → List (List ℕ) → Option ℤ → Option Affine
constant_checked parameters loops None = None
constant_checked parameters loops (Some z) = Some (constant_form parameters loops z)

-- the sum, the difference, the product and the negative of two such forms; of a product the left factor has names or is a constant
abbrev pub sum_checked : Option Affine → Option Affine → Option Affine
sum_checked None g = None
sum_checked (Some f) None = None
sum_checked (Some f) (Some g) = fitting (sum_of f g)

abbrev pub difference_checked : Option Affine → Option Affine → Option Affine
difference_checked None g = None
difference_checked (Some f) None = None
difference_checked (Some f) (Some g) = fitting (sum_of f (opposite_of g))

abbrev pub product_checked : (left_has_names : Bool) → Option Affine → Option Affine → Option Affine
product_checked left_has_names None g = None
product_checked left_has_names (Some f) None = None
product_checked left_has_names (Some f) (Some g) = fitting (cond left_has_names (multiple g.constant f) (multiple f.constant g))

abbrev pub negative_checked : Option Affine → Option Affine
negative_checked None = None
negative_checked (Some f) = fitting (opposite_of f)

-- the greatest absolute value in a row
abbrev pub magnitude : List ℤ → ℕ
magnitude [] = 0
magnitude (z ∷ row) = max (unsigned_abs z) (magnitude row)

-- what is answered for an integer, and for a row
abbrev pub IntegerFits : ℤ → Option ℤ → Type 0
IntegerFits z None = 2 ^ 127 ≤ unsigned_abs z
IntegerFits z (Some y) = (unsigned_abs z < 2 ^ 127) × (y ≡ z)

abbrev pub RowFits : List ℤ → Option (List ℤ) → Type 0
RowFits row None = 2 ^ 127 ≤ magnitude row
RowFits row (Some r) = (magnitude row < 2 ^ 127) × (r ≡ row)

-- the sum of two rows as far as both reach
abbrev pub summed : List ℤ → List ℤ → List ℤ
summed [] b = []
summed (x ∷ a) [] = []
summed (x ∷ a) (y ∷ b) = (x +ℤ y) ∷ summed a b

-- the form of these pieces, where there are all
abbrev pub assembled : Option (List ℤ) → Option (List ℤ) → Option ℤ → Option Affine
assembled None p c = None
assembled (Some i) None c = None
assembled (Some i) (Some p) None = None
assembled (Some i) (Some p) (Some c) = Some (record { iterators = i; floors = []; parameters = p; constant = c })

-- the form with the coefficient of a loop behind those of the others
abbrev pub with_loop : ℤ → Affine → Affine
with_loop c f = record f { iterators = f.iterators ++ c ∷ [] }

-- the form f - g + z, with z added first
abbrev pub difference_form : Affine → Affine → ℤ → Affine
difference_form f g z = record {
  iterators = add_rows f.iterators (scale (negsuc 0) g.iterators);
  floors = [];
  parameters = add_rows f.parameters (scale (negsuc 0) g.parameters);
  constant = (f.constant +ℤ z) +ℤ neg_ℤ g.constant;
}
