-- The affine forms of expressions at places of control: over the loops round the place, from the outermost, and over the parameters.
use Rattle.std.specs.Prelude.{ℕ, List, [], ◌∷◌, length, ℤ, pos, negsuc, ◌+ℤ◌, ◌*ℤ◌, Bool, true, false, cond, not, ◌&&◌, ◌||◌, bytes_eq}
use Rattle.row_core.specs.Rows.{add_rows, scale}
use Rattle.scop_core.specs.SolvedRows.{zeros}
use Rattle.scop_data.specs.declared.affines.Affine.{Affine}
use Rattle.clan_extract.specs.Regions.{Expression, Number, Name, Sum, Difference, Product, Negation, Maximum, Minimum, Ceiling, Floor, Remainder, is_among}

-- a name stands in the text of the expression
abbrev pub has_names : Expression → Bool
has_names (Number value) = false
has_names (Name name) = true
has_names (Sum left right) = has_names left || has_names right
has_names (Difference left right) = has_names left || has_names right
has_names (Product left right) = has_names left || has_names right
has_names (Negation of) = has_names of
has_names (Maximum left right) = has_names left || has_names right
has_names (Minimum left right) = has_names left || has_names right
has_names (Ceiling of divisor) = has_names of
has_names (Floor of divisor) = has_names of
has_names (Remainder of divisor) = has_names of

-- the expression is affine: of the factors of a product one has no names
abbrev pub is_affine : Expression → Bool
is_affine (Number value) = true
is_affine (Name name) = true
is_affine (Sum left right) = is_affine left && is_affine right
is_affine (Difference left right) = is_affine left && is_affine right
is_affine (Product left right) = (is_affine left && is_affine right) && not (has_names left && has_names right)
is_affine (Negation of) = is_affine of
is_affine (Maximum left right) = false
is_affine (Minimum left right) = false
is_affine (Ceiling of divisor) = false
is_affine (Floor of divisor) = false
is_affine (Remainder of divisor) = false

-- 1 at the innermost loop of the name, 0 at the others
abbrev pub innermost : List (List ℕ) → List ℕ → List ℤ
innermost [] name = []
innermost (x ∷ inner) name = cond (bytes_eq x name && not (is_among name inner)) (pos 1) (pos 0) ∷ innermost inner name

-- 1 at the first parameter of the name, 0 at the others
abbrev pub first_of_name : List (List ℕ) → List ℕ → List ℤ
first_of_name [] name = []
first_of_name (x ∷ xs) name = cond (bytes_eq x name) (pos 1 ∷ zeros (length xs)) (pos 0 ∷ first_of_name xs name)

-- the form that is this integer
abbrev pub constant_form : List (List ℕ) → List (List ℕ) → ℤ → Affine
constant_form parameters loops value = record { iterators = zeros (length loops); floors = []; parameters = zeros (length parameters); constant = value }

-- the form of a name: the innermost loop of this name, else the parameter
abbrev pub name_form : List (List ℕ) → List (List ℕ) → List ℕ → Affine
name_form parameters loops name = record {
  iterators = innermost loops name;
  floors = [];
  parameters = cond (is_among name loops) (zeros (length parameters)) (first_of_name parameters name);
  constant = pos 0;
}

-- the sum of two forms, and the multiple of a form
abbrev pub sum_of : Affine → Affine → Affine
sum_of f g = record { iterators = add_rows f.iterators g.iterators; floors = []; parameters = add_rows f.parameters g.parameters; constant = f.constant +ℤ g.constant }

abbrev pub multiple : ℤ → Affine → Affine
multiple p f = record { iterators = scale p f.iterators; floors = []; parameters = scale p f.parameters; constant = p *ℤ f.constant }

abbrev pub opposite_of : Affine → Affine
opposite_of f = multiple (negsuc 0) f

-- the form f - g + z
abbrev pub difference : Affine → Affine → ℤ → Affine
difference f g z = let d = sum_of f (opposite_of g) in record d { constant = d.constant +ℤ z }

-- the form of an affine expression; a factor without names is its constant
abbrev pub form : List (List ℕ) → List (List ℕ) → Expression → Affine
form parameters loops (Number value) = constant_form parameters loops (pos value)
form parameters loops (Name name) = name_form parameters loops name
form parameters loops (Sum left right) = sum_of (form parameters loops left) (form parameters loops right)
form parameters loops (Difference left right) = sum_of (form parameters loops left) (opposite_of (form parameters loops right))
form parameters loops (Product left right) =
    cond (has_names left)
    (multiple (form parameters loops right).constant (form parameters loops left))
    (multiple (form parameters loops left).constant (form parameters loops right))
form parameters loops (Negation of) = opposite_of (form parameters loops of)
form parameters loops (Maximum left right) = constant_form parameters loops (pos 0)
form parameters loops (Minimum left right) = constant_form parameters loops (pos 0)
form parameters loops (Ceiling of divisor) = constant_form parameters loops (pos 0)
form parameters loops (Floor of divisor) = constant_form parameters loops (pos 0)
form parameters loops (Remainder of divisor) = constant_form parameters loops (pos 0)
