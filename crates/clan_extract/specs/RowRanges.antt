-- When the rows of a domain are in range, asked of each constraint once.
use Rattle.std.specs.Prelude.{◌≡◌, ◌^◌, ℕ, List, [], ◌∷◌, ◌++◌, unsigned_abs, Bool, true, cond, not, ◌&&◌, nat_lt}
use Rattle.clan_extract.specs.Regions.{Condition, Compare, Both, Either, Opposite}
use Rattle.clan_extract.specs.Placements.{Round, Loop, Test, Placed}
use Rattle.clan_extract.specs.Constraints.{FormRow, Constraint, loop_constraints, opposite_comparison, parts_of_sides}
use Rattle.clan_extract.specs.Scops.{statement}
use Rattle.clan_extract.specs.Refusals.{form_fits, domain_fits}

-- the coefficients of rows, and of their local where they have one
abbrev pub form_rows_fit : Bool → List FormRow → Bool
form_rows_fit has_local [] = true
form_rows_fit has_local (r ∷ rs) = (form_fits r.form && cond has_local (nat_lt (unsigned_abs r.local) (2 ^ 127)) true) && form_rows_fit has_local rs

abbrev pub constraints_fit : List Constraint → Bool
constraints_fit [] = true
constraints_fit (c ∷ cs) = form_rows_fit c.has_local c.rows && constraints_fit cs

abbrev pub parts_fit : List (List Constraint) → Bool
parts_fit [] = true
parts_fit (p ∷ ps) = constraints_fit p && parts_fit ps

-- the rows of the comparisons in a condition with this truth
abbrev pub comparisons_fit : List (List ℕ) → List (List ℕ) → Bool → Condition → Bool
comparisons_fit parameters loops truth (Compare comparison left right) =
    parts_fit (parts_of_sides parameters loops (cond truth comparison (opposite_comparison comparison)) left right)
comparisons_fit parameters loops truth (Both left right) = comparisons_fit parameters loops truth left && comparisons_fit parameters loops truth right
comparisons_fit parameters loops truth (Either left right) = comparisons_fit parameters loops truth left && comparisons_fit parameters loops truth right
comparisons_fit parameters loops truth (Opposite of) = comparisons_fit parameters loops (not truth) of

-- the rows of the loops and conditions round an assignment
abbrev pub constraints_of_rounds_fit : List (List ℕ) → List (List ℕ) → List Round → Bool
constraints_of_rounds_fit parameters loops [] = true
constraints_of_rounds_fit parameters loops (Loop head ∷ rounds) =
    constraints_fit (loop_constraints parameters loops head) && constraints_of_rounds_fit parameters (loops ++ head.name ∷ []) rounds
constraints_of_rounds_fit parameters loops (Test truth condition ∷ rounds) =
    comparisons_fit parameters loops truth condition && constraints_of_rounds_fit parameters loops rounds

-- the rows of all parts of a domain are in range exactly where those of each constraint are
abbrev pub RowsFitOnce : Type 0
RowsFitOnce = (parameters arrays : List (List ℕ)) (p : Placed) → domain_fits (statement parameters arrays p).domain ≡ constraints_of_rounds_fit parameters [] p.rounds
