-- What loops and conditions ask of the iterators: constraints, and the parts that they are joined to.
use Rattle.std.specs.Prelude.{ℕ, List, [], ◌∷◌, ◌++◌, ℤ, pos, negsuc, neg_ℤ, ◌+ℤ◌, ◌-ℤ◌, ◌*ℤ◌, unsigned_abs, Bool, true, false, cond, not, map, flat_map, nat_eq}
use Rattle.relation_core.specs.declared.part_rows.RowKind.{RowKind}
use Rattle.relation_core.specs.declared.part_rows.RowKind.TheVariants.{Equal, AtLeast}
use Rattle.scop_data.specs.declared.affines.Affine.{Affine}
use Rattle.clan_extract.specs.Regions.{Expression, Maximum, Minimum, Ceiling, Floor, Remainder, Comparison, IsLess, IsLessOrEqual, IsGreater, IsGreaterOrEqual, IsEqual, IsUnequal, Condition, Compare, Both, Either, Opposite}
use Rattle.clan_extract.specs.Forms.{form, opposite_of, difference}
use Rattle.clan_extract.specs.Placements.{Head, Round, Loop, Test}

-- the form plus the multiple of a local is 0, or at least 0
pub record FormRow : Type 0 where
  pub kind : RowKind
  pub form : Affine
  pub local : ℤ

-- rows that hold together, with a local of their own or without one
pub record Constraint : Type 0 where
  pub rows : List FormRow
  pub has_local : Bool

-- a row without a local
abbrev pub plain_row : RowKind → Affine → FormRow
plain_row kind f = record { kind = kind; form = f; local = pos 0 }

-- the row c * x + f + z >= 0 of the iterator x behind those of f
abbrev pub with_iterator : ℤ → Affine → ℤ → Affine
with_iterator c f z = record f { iterators = f.iterators ++ c ∷ []; constant = f.constant +ℤ z }

abbrev pub bound_row : ℤ → Affine → ℤ → List FormRow
bound_row c f z = plain_row AtLeast (with_iterator c f z) ∷ []

-- the rows of: x + s is at least the lower bound
abbrev pub lower_rows : List (List ℕ) → List (List ℕ) → ℤ → Expression → List FormRow
lower_rows parameters loops s (Maximum left right) = lower_rows parameters loops s left ++ lower_rows parameters loops s right
lower_rows parameters loops s (Ceiling of divisor) = bound_row (pos divisor) (opposite_of (form parameters loops of)) (pos divisor *ℤ s)
lower_rows parameters loops s (Floor of divisor) =
    bound_row (pos divisor) (opposite_of (form parameters loops of)) ((pos divisor *ℤ s) +ℤ (pos divisor -ℤ pos 1))
lower_rows parameters loops s e = bound_row (pos 1) (opposite_of (form parameters loops e)) s

-- the rows of: x + s is at most the upper bound
abbrev pub upper_rows : List (List ℕ) → List (List ℕ) → ℤ → Expression → List FormRow
upper_rows parameters loops s (Minimum left right) = upper_rows parameters loops s left ++ upper_rows parameters loops s right
upper_rows parameters loops s (Floor of divisor) = bound_row (neg_ℤ (pos divisor)) (form parameters loops of) (neg_ℤ (pos divisor *ℤ s))
upper_rows parameters loops s (Ceiling of divisor) =
    bound_row (neg_ℤ (pos divisor)) (form parameters loops of) (neg_ℤ (pos divisor *ℤ s) +ℤ (pos divisor -ℤ pos 1))
upper_rows parameters loops s e = bound_row (negsuc 0) (form parameters loops e) (neg_ℤ s)

-- the rows of a loop's start, and then of its bound: < has x + 1 in place of x, > has x - 1
abbrev pub loop_rows : List (List ℕ) → List (List ℕ) → Head → Comparison → List FormRow
loop_rows parameters loops h IsLess = lower_rows parameters loops (pos 0) h.start ++ upper_rows parameters loops (pos 1) h.bound
loop_rows parameters loops h IsLessOrEqual = lower_rows parameters loops (pos 0) h.start ++ upper_rows parameters loops (pos 0) h.bound
loop_rows parameters loops h IsGreater = upper_rows parameters loops (pos 0) h.start ++ lower_rows parameters loops (negsuc 0) h.bound
loop_rows parameters loops h IsGreaterOrEqual = upper_rows parameters loops (pos 0) h.start ++ lower_rows parameters loops (pos 0) h.bound
loop_rows parameters loops h IsEqual = []
loop_rows parameters loops h IsUnequal = []

-- the start is a multiple of the step away: x - start - c * l = 0 upward, -x + start - c * l = 0 downward, c being the size of the step
abbrev pub stride_form : List (List ℕ) → List (List ℕ) → Head → Comparison → Affine
stride_form parameters loops h IsGreater = with_iterator (negsuc 0) (form parameters loops h.start) (pos 0)
stride_form parameters loops h IsGreaterOrEqual = with_iterator (negsuc 0) (form parameters loops h.start) (pos 0)
stride_form parameters loops h comparison = with_iterator (pos 1) (opposite_of (form parameters loops h.start)) (pos 0)

-- the constraints of a loop; a step of at least 2 asks for its multiples, with a local
abbrev pub loop_constraints : List (List ℕ) → List (List ℕ) → Head → List Constraint
loop_constraints parameters loops h =
    record { rows = loop_rows parameters loops h h.comparison; has_local = false }
    ∷ cond (nat_eq (unsigned_abs h.step) 1) []
    (record {
      rows = record { kind = Equal; form = stride_form parameters loops h h.comparison; local = neg_ℤ (pos (unsigned_abs h.step)) } ∷ [];
      has_local = true;
    } ∷ [])

-- every part of the one with every part of the other
abbrev pub joined : List (List Constraint) → List (List Constraint) → List (List Constraint)
joined ps qs = flat_map (λ p. map (λ q. p ++ q) qs) ps

-- the part that asks for one row, f - g + z >= 0 or = 0
abbrev pub row_part : RowKind → Affine → Affine → ℤ → List Constraint
row_part kind f g z = record { rows = plain_row kind (difference f g z) ∷ []; has_local = false } ∷ []

-- the parts of a comparison of two affine forms
abbrev pub comparison_parts : Comparison → Affine → Affine → List (List Constraint)
comparison_parts IsLess a b = row_part AtLeast b a (negsuc 0) ∷ []
comparison_parts IsLessOrEqual a b = row_part AtLeast b a (pos 0) ∷ []
comparison_parts IsGreater a b = row_part AtLeast a b (negsuc 0) ∷ []
comparison_parts IsGreaterOrEqual a b = row_part AtLeast a b (pos 0) ∷ []
comparison_parts IsEqual a b = row_part Equal a b (pos 0) ∷ []
comparison_parts IsUnequal a b = row_part AtLeast a b (negsuc 0) ∷ (row_part AtLeast b a (negsuc 0) ∷ [])

-- the form plus an integer
abbrev pub plus : Affine → ℤ → Affine
plus f z = record f { constant = f.constant +ℤ z }

-- e % c == 0: e - c * l = 0
abbrev pub multiple_part : Affine → ℕ → List Constraint
multiple_part e c = record {
  rows = record { kind = Equal; form = e; local = neg_ℤ (pos c) } ∷ [];
  has_local = true;
} ∷ []

-- e % c != 0: e - c * l - 1 >= 0 and -e + c * l + c - 1 >= 0
abbrev pub between_part : Affine → ℕ → List Constraint
between_part e c = record {
  rows = record { kind = AtLeast; form = plus e (negsuc 0); local = neg_ℤ (pos c) }
      ∷ (record { kind = AtLeast; form = plus (opposite_of e) (pos c -ℤ pos 1); local = pos c } ∷ []);
  has_local = true;
} ∷ []

abbrev pub remainder_parts : Comparison → Affine → ℕ → List (List Constraint)
remainder_parts IsUnequal e c = between_part e c ∷ []
remainder_parts comparison e c = multiple_part e c ∷ []

-- the comparison that holds where this one doesn't
abbrev pub opposite_comparison : Comparison → Comparison
opposite_comparison IsLess = IsGreaterOrEqual
opposite_comparison IsLessOrEqual = IsGreater
opposite_comparison IsGreater = IsLessOrEqual
opposite_comparison IsGreaterOrEqual = IsLess
opposite_comparison IsEqual = IsUnequal
opposite_comparison IsUnequal = IsEqual

-- the parts of a comparison of two sides
abbrev pub parts_of_sides : List (List ℕ) → List (List ℕ) → Comparison → Expression → Expression → List (List Constraint)
parts_of_sides parameters loops comparison (Remainder of divisor) right = remainder_parts comparison (form parameters loops of) divisor
parts_of_sides parameters loops comparison left right = comparison_parts comparison (form parameters loops left) (form parameters loops right)

-- the parts in which the condition has this truth
abbrev pub parts_of_condition : List (List ℕ) → List (List ℕ) → Bool → Condition → List (List Constraint)
parts_of_condition parameters loops truth (Compare comparison left right) =
    parts_of_sides parameters loops (cond truth comparison (opposite_comparison comparison)) left right
parts_of_condition parameters loops truth (Both left right) =
    cond truth (joined (parts_of_condition parameters loops true left) (parts_of_condition parameters loops true right))
    (parts_of_condition parameters loops false left ++ parts_of_condition parameters loops false right)
parts_of_condition parameters loops truth (Either left right) =
    cond truth (parts_of_condition parameters loops true left ++ parts_of_condition parameters loops true right)
    (joined (parts_of_condition parameters loops false left) (parts_of_condition parameters loops false right))
parts_of_condition parameters loops truth (Opposite of) = parts_of_condition parameters loops (not truth) of

-- the parts of what stands round an assignment, from the outermost inwards, inside these loops
abbrev pub parts_of : List (List ℕ) → List (List ℕ) → List Round → List (List Constraint)
parts_of parameters loops [] = [] ∷ []
parts_of parameters loops (Loop head ∷ rounds) =
    joined (loop_constraints parameters loops head ∷ []) (parts_of parameters (loops ++ head.name ∷ []) rounds)
parts_of parameters loops (Test truth condition ∷ rounds) =
    joined (parts_of_condition parameters loops truth condition) (parts_of parameters loops rounds)
