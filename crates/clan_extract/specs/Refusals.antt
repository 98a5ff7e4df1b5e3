-- The first refusal of a region whose names have one role each and whose places of control can be translated.
use Rattle.std.specs.Prelude.{ℕ, ◌+◌, ◌^◌, List, [], ◌∷◌, ◌++◌, length, ℤ, unsigned_abs, Bool, true, false, not, ◌&&◌, ◌||◌, nat_lt, if◌then◌else◌, Option, None, Some}
use Rattle.suite_base.specs.Limits.{max_subscripts, max_accesses, max_parts, max_rows, max_locals, max_parameters, max_arrays, max_statements}
use Rattle.suite_base.specs.declared.refusals.Refusal.{Refusal}
use Rattle.suite_base.specs.declared.refusals.Refusal.TheVariants.{Limit, TooManyParts, Overflow}
use Rattle.suite_base.specs.declared.refusals.Which.TheVariants.{Statements, Parameters, Locals, Rows, Accesses, Subscripts, Arrays}
use Rattle.suite_base.specs.declared.refusals.Where.TheVariants.{Statement as OfStatement}
use Rattle.relation_core.specs.Systems.{System}
use Rattle.relation_core.specs.declared.part_rows.PartRow.{PartRow}
use Rattle.scop_data.specs.declared.affines.Affine.{Affine}
use Rattle.scop_data.specs.declared.accesses.Access.{Access}
use Rattle.scop_core.specs.declared.limits.PartCount.TheVariants.{LocalCount, RowCount}
use Rattle.scop_core.specs.Assembly.{or_else, some_above}
use Rattle.clan_extract.specs.Regions.{Expression, Number, Name, Sum, Difference, Product, Negation, Maximum, Minimum, Ceiling, Floor, Remainder, Condition, Compare, Both, Either, Opposite, Reference, Nodes}
use Rattle.clan_extract.specs.Forms.{form}
use Rattle.clan_extract.specs.Placements.{Round, Loop, Test, Placed, placed_all, loop_names}
use Rattle.clan_extract.specs.Scops.{statement}

-- the coefficients are in range
abbrev pub are_in_range : List ℤ → Bool
are_in_range [] = true
are_in_range (z ∷ zs) = nat_lt (unsigned_abs z) (2 ^ 127) && are_in_range zs

abbrev pub form_fits : Affine → Bool
form_fits f = (are_in_range f.iterators && are_in_range f.parameters) && nat_lt (unsigned_abs f.constant) (2 ^ 127)

-- the form of each affine part of an expression fits: of its members, factors and operands, and of what stands before each sign
abbrev pub forms_fit : List (List ℕ) → List (List ℕ) → Expression → Bool
forms_fit parameters loops (Number value) = form_fits (form parameters loops (Number value))
forms_fit parameters loops (Name name) = form_fits (form parameters loops (Name name))
forms_fit parameters loops (Sum left right) =
    (forms_fit parameters loops left && forms_fit parameters loops right) && form_fits (form parameters loops (Sum left right))
forms_fit parameters loops (Difference left right) =
    (forms_fit parameters loops left && forms_fit parameters loops right) && form_fits (form parameters loops (Difference left right))
forms_fit parameters loops (Product left right) =
    (forms_fit parameters loops left && forms_fit parameters loops right) && form_fits (form parameters loops (Product left right))
forms_fit parameters loops (Negation of) = forms_fit parameters loops of && form_fits (form parameters loops (Negation of))
forms_fit parameters loops (Maximum left right) = forms_fit parameters loops left && forms_fit parameters loops right
forms_fit parameters loops (Minimum left right) = forms_fit parameters loops left && forms_fit parameters loops right
forms_fit parameters loops (Ceiling of divisor) = forms_fit parameters loops of
forms_fit parameters loops (Floor of divisor) = forms_fit parameters loops of
forms_fit parameters loops (Remainder of divisor) = forms_fit parameters loops of

-- the forms of a condition, whichever branch is meant
abbrev pub condition_fits : List (List ℕ) → List (List ℕ) → Condition → Bool
condition_fits parameters loops (Compare comparison left right) = forms_fit parameters loops left && forms_fit parameters loops right
condition_fits parameters loops (Both left right) = condition_fits parameters loops left && condition_fits parameters loops right
condition_fits parameters loops (Either left right) = condition_fits parameters loops left && condition_fits parameters loops right
condition_fits parameters loops (Opposite of) = condition_fits parameters loops of

-- the forms of the loops and conditions round an assignment
abbrev pub rounds_fit : List (List ℕ) → List (List ℕ) → List Round → Bool
rounds_fit parameters loops [] = true
rounds_fit parameters loops (Loop head ∷ rounds) =
    (forms_fit parameters loops head.start && forms_fit parameters loops head.bound) && rounds_fit parameters (loops ++ head.name ∷ []) rounds
rounds_fit parameters loops (Test truth condition ∷ rounds) = condition_fits parameters loops condition && rounds_fit parameters loops rounds

-- the forms of the subscripts
abbrev pub all_fit : List (List ℕ) → List (List ℕ) → List Expression → Bool
all_fit parameters loops [] = true
all_fit parameters loops (e ∷ es) = forms_fit parameters loops e && all_fit parameters loops es

abbrev pub references_fit : List (List ℕ) → List (List ℕ) → List Reference → Bool
references_fit parameters loops [] = true
references_fit parameters loops (r ∷ rs) = all_fit parameters loops r.subscripts && references_fit parameters loops rs

-- the rows of a domain, as they are printed
abbrev pub rows_fit : List PartRow → Bool
rows_fit [] = true
rows_fit (row ∷ rows) = are_in_range row.entries && rows_fit rows

abbrev pub domain_fits : List System → Bool
domain_fits [] = true
domain_fits (part ∷ parts) = rows_fit part.rows && domain_fits parts

-- every form of a statement and every row of its domain fit
abbrev pub fits : List (List ℕ) → List (List ℕ) → Placed → Bool
fits parameters arrays p =
    rounds_fit parameters [] p.rounds
    && (references_fit parameters (loop_names p.rounds) (p.assignment.target ∷ p.assignment.right)
    && domain_fits (statement parameters arrays p).domain)

-- some access has more subscripts than the limit
abbrev pub subscripts_above : List Access → Bool
subscripts_above [] = false
subscripts_above (access ∷ accesses) = nat_lt max_subscripts (length access.subscripts) || subscripts_above accesses

-- the first refusal of statement number k
abbrev pub statement_refusal : List (List ℕ) → List (List ℕ) → ℕ → Placed → Option Refusal
statement_refusal parameters arrays k p =
    let s = statement parameters arrays p
    in (if nat_lt max_accesses (length s.accesses) then Some (Limit Accesses k)
    else (if subscripts_above s.accesses then Some (Limit Subscripts k)
    else (if nat_lt max_parts (length s.domain) then Some (TooManyParts k)
    else (if some_above RowCount max_rows s.domain then Some (Limit Rows k)
    else (if some_above LocalCount max_locals s.domain then Some (Limit Locals k)
    else (if not (fits parameters arrays p) then Some (Overflow OfStatement k) else None))))))

-- the first refusal of the first statement that has one; the first statement has number k
abbrev pub statements_refusal : List (List ℕ) → List (List ℕ) → ℕ → List Placed → Option Refusal
statements_refusal parameters arrays k [] = None
statements_refusal parameters arrays k (p ∷ ps) = or_else (statement_refusal parameters arrays k p) (statements_refusal parameters arrays (k + 1) ps)

-- the first refusal of the whole: parameters, arrays, statements
abbrev pub whole_refusal : List (List ℕ) → List (List ℕ) → List Placed → Option Refusal
whole_refusal parameters arrays ps =
    if nat_lt max_parameters (length parameters) then Some (Limit Parameters 0)
    else (if nat_lt max_arrays (length arrays) then Some (Limit Arrays 0)
    else (if nat_lt max_statements (length ps) then Some (Limit Statements 0) else None))

-- the first refusal of a region
abbrev pub refusal_of : List (List ℕ) → List (List ℕ) → Nodes → Option Refusal
refusal_of parameters arrays region =
    or_else (whole_refusal parameters arrays (placed_all 0 region)) (statements_refusal parameters arrays 1 (placed_all 0 region))
