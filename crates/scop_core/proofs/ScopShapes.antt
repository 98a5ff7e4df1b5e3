-- The shapes of a valid SCoP, and the ranges of its coefficients.
use Rattle.std.proofs.Common.{◌≡◌, ℕ, zero, suc, ◌+◌, ◌-◌, ◌*◌, ◌/◌, Bool, true, false, List, [], ◌∷◌, ◌++◌, take, drop, map, ℤ, pos, neg_ℤ, refl, sym, subst, arith, Some, None, if◌then◌else◌}
use Rattle.std.specs.Prelude.{All, slice_range, slice_get, int_lt}
use Rattle.std.proofs.lemmas.Int.{ints}
use Rattle.std.proofs.lemmas.List.{get_or-drop}
use Rattle.std.proofs.lemmas.List.Elements.{All-nil, All-head, All-tail, All-cons}
use Rattle.row_core.specs.Rows.{entry, AreCoefficients}
use Rattle.relation_core.specs.Systems.{System, columns, row_at}
use Rattle.relation_core.specs.declared.shapes.Shape.{Shape}
use Rattle.relation_core.specs.declared.part_rows.PartRow.{PartRow}
use Rattle.scop_data.specs.declared.accesses.AccessKind.{AccessKind}
use Rattle.scop_data.specs.declared.raw_pieces.RawStatement.{RawStatement}
use Rattle.schedule_forms.specs.SolvedForm.{local_column, cleared, affine_of, first_row, is_output_row, is_low_row, output_row, low_row_of, value_at, floor_at, levels_from, betas_from, floors_from, values_from, schedule_of, access_of, is_scattering, is_access}
use Rattle.scop_core.specs.Assembly.{is_one, the_part, are_solved, iterators_of, solved_accesses, solved_statement, solved_statements, first_unsolved, scop_of, HasShapes}
use Rattle.scop_core.specs.Printable.{IsDomainPart, IsPrintableStatement}
use Rattle.scop_core.specs.Held.{IsFormed, StatementIsHeld}
use Rattle.scop_core.specs.Validity.{IsValid}
use Rattle.scop_data.specs.SolvedData.{IsSolvedStatement}
use Rattle.scop_core.specs.Shapes.{IsInRange, AffineIsInRange, FloorIsInRange, ScheduleIsInRange, AccessIsInRange, IsShapedStatement, IsShapedScop, IsFormedStatement, IsFormedScop, ValidScopsAreShaped, ValidScopsAreFormed}
use Rattle.scop_data.specs.declared.statements.Statement.{Statement}
use Rattle.scop_data.specs.Theorems.{IsStatement}
use Rattle.schedule_forms.proofs.SolvedShapes.{both}
use Rattle.schedule_forms.proofs.ReadBackLists.{negative_entry}
use Rattle.scop_core.proofs.ReadBackPieces.{or_none, unless_some, body_count, statements_solved}

-- ---- ranges

-- every entry, there or not, is in range
abbrev Small : List ℤ → Type 0
Small row = (k : ℕ) → IsInRange (entry row k)

small_drop : (row : List ℤ) (n : ℕ) → Small row → Small (drop n row)
small_drop row n h k = subst IsInRange (sym (get_or-drop n row k (pos 0))) (h (n + k))

small_take : (row : List ℤ) (n : ℕ) → Small row → Small (take n row)
small_take row zero h k = omega arith
small_take [] (suc n) h k = h k
small_take (z ∷ row) (suc n) h zero = h 0
small_take (z ∷ row) (suc n) h (suc k) = small_take row n (λ j. h (suc j)) k

small_slice : (row : List ℤ) (a b : ℕ) → Small row → Small (slice_range row a b)
small_slice row a b h = small_take (drop a row) (b - a) (small_drop row a h)

small_append : (a b : List ℤ) → Small a → Small b → Small (a ++ b)
small_append [] b f g k = g k
small_append (z ∷ a) b f g zero = f 0
small_append (z ∷ a) b f g (suc k) = small_append a b (λ j. f (suc j)) g k

small_cons : (z : ℤ) (row : List ℤ) → IsInRange z → Small row → Small (z ∷ row)
small_cons z row f g zero = f
small_cons z row f g (suc k) = g k

small_negative : (row : List ℤ) → Small row → Small (map neg_ℤ row)
small_negative row h k = let e = negative_entry row k in let s : IsInRange (entry row k) = h k in omega (arith, ints)

small_cleared : (row : List ℤ) (k : ℕ) → Small row → Small (cleared row k)
small_cleared row k h = small_append (take k row) (pos 0 ∷ drop (k + 1) row) (small_take row k h) (small_cons (pos 0) (drop (k + 1) row) (omega arith) (small_drop row (k + 1) h))

small_affine : (shape : Shape) (row : List ℤ) → Small row → AffineIsInRange (affine_of shape row)
small_affine shape row h = record {
  iterators = record { bound = small_slice row shape.outputs (local_column shape 0) h };
  floors = record { bound = small_slice row (local_column shape 0) (local_column shape shape.locals) h };
  parameters = record { bound = small_slice row (local_column shape shape.locals) (columns shape) h };
  constant = h (columns shape);
}

-- the first row that passes a test is one of the rows, or has no entries
small_first : (test : PartRow → Bool) (rows : List PartRow) → ((k : ℕ) → AreCoefficients (row_at rows k).entries) → Small (first_row test rows).entries
small_first test [] h = AreCoefficients.bound (h 0)
small_first test (row ∷ rows) h =
    elim (test row) as (λ t. Small (if t then row else first_row test rows).entries) [
      | true ↦ AreCoefficients.bound (h 0)
      | false ↦ small_first test rows (λ k. h (suc k))
    ]

value_range : (part : System) (k : ℕ) → IsFormed part → AffineIsInRange (value_at part k)
value_range part k formed =
    let row = (output_row part k).entries in
    let small : Small row = small_first (is_output_row k) part.rows formed.ranges in
    elim (int_lt (pos 0) (entry row k)) as (λ t. AffineIsInRange (affine_of part.shape (if t then map neg_ℤ row else row))) [
      | true ↦ small_affine part.shape (map neg_ℤ row) (small_negative row small)
      | false ↦ small_affine part.shape row small
    ]

floor_range : (part : System) (k : ℕ) → IsFormed part → FloorIsInRange (floor_at part k)
floor_range part k formed =
    let row = (low_row_of part k).entries in
    let small : Small row = small_first (is_low_row part.shape k) part.rows formed.ranges in
    let own : IsInRange (entry row (local_column part.shape k)) = small (local_column part.shape k) in
    record {
      value = small_affine part.shape (cleared row (local_column part.shape k)) (small_cleared row (local_column part.shape k) small);
      size = omega (arith, ints);
    }

levels_range : (part : System) (k n : ℕ) → IsFormed part → All AffineIsInRange (levels_from part k n)
levels_range part k zero formed = All-nil AffineIsInRange
levels_range part k (suc n) formed = All-cons AffineIsInRange (value_at part (2 * k + 1)) (levels_from part (k + 1) n) (value_range part (2 * k + 1) formed) (levels_range part (k + 1) n formed)

betas_range : (part : System) (k n : ℕ) → IsFormed part → All IsInRange (betas_from part k n)
betas_range part k zero formed = All-nil IsInRange
betas_range part k (suc n) formed = All-cons IsInRange (value_at part (2 * k)).constant (betas_from part (k + 1) n) (value_range part (2 * k) formed).constant (betas_range part (k + 1) n formed)

floors_range : (part : System) (k n : ℕ) → IsFormed part → All FloorIsInRange (floors_from part k n)
floors_range part k zero formed = All-nil FloorIsInRange
floors_range part k (suc n) formed = All-cons FloorIsInRange (floor_at part k) (floors_from part (k + 1) n) (floor_range part k formed) (floors_range part (k + 1) n formed)

values_range : (part : System) (k n : ℕ) → IsFormed part → All AffineIsInRange (values_from part k n)
values_range part k zero formed = All-nil AffineIsInRange
values_range part k (suc n) formed = All-cons AffineIsInRange (value_at part k) (values_from part (k + 1) n) (value_range part k formed) (values_range part (k + 1) n formed)

schedule_range : (part : System) → IsFormed part → ScheduleIsInRange (schedule_of part)
schedule_range part formed = record {
  floors = floors_range part 0 part.shape.locals formed;
  levels = levels_range part 0 (part.shape.outputs / 2) formed;
  betas = betas_range part 0 (part.shape.outputs / 2 + 1) formed;
}

access_range : (kind : AccessKind) (part : System) → IsFormed part → AccessIsInRange (access_of kind part)
access_range kind part formed = record {
  array = (value_range part 0 formed).constant;
  subscripts = values_range part 1 (part.shape.outputs - 1) formed;
}

-- the one part of a relation is formed
the_part_formed : (test : System → Bool) (parts : List System) → is_one test parts ≡ true → All IsFormed parts → IsFormed (the_part parts)
the_part_formed test [] h all = absurd (cc)
the_part_formed test (part ∷ []) h all = All-head IsFormed part [] all
the_part_formed test (part ∷ (next ∷ parts)) h all = absurd (cc)

accesses_range : (accesses : List (AccessKind × List System)) → are_solved accesses ≡ true → All (λ access. All IsFormed access.1) accesses
    → All AccessIsInRange (solved_accesses accesses)
accesses_range [] h held = All-nil AccessIsInRange
accesses_range (a ∷ accesses) h held =
    let is = both _ _ h in
    All-cons AccessIsInRange (access_of a.0 (the_part a.1)) (solved_accesses accesses)
    (access_range a.0 (the_part a.1) (the_part_formed is_access a.1 is.0 (All-head (λ access. All IsFormed access.1) a accesses held)))
    (accesses_range accesses is.1 (All-tail (λ access. All IsFormed access.1) a accesses held))

statements_formed : (k : ℕ) (raws : List RawStatement) → first_unsolved k raws ≡ None → All StatementIsHeld raws → All IsFormedStatement (solved_statements k raws)
statements_formed k [] unsolved held = All-nil IsFormedStatement
statements_formed k (raw ∷ raws) unsolved held =
    let u = unless_some _ _ _ unsolved in
    let is = both _ _ u.0 in
    let own : StatementIsHeld raw = All-head StatementIsHeld raw raws held in
    All-cons IsFormedStatement (solved_statement k raw) (solved_statements (k + 1) raws)
    (record {
      domain = own.domain;
      schedule = schedule_range (the_part raw.scattering) (the_part_formed is_scattering raw.scattering is.0 own.scattering);
      accesses = accesses_range raw.accesses is.1 own.accesses;
    })
    (statements_formed (k + 1) raws u.1 (All-tail StatementIsHeld raw raws held))

pub scops_are_formed : ValidScopsAreFormed
scops_are_formed S v =
    let pieces = v.assembled.pieces in
    let unsolved = (or_none _ _ (or_none _ _ (or_none _ _ v.assembled.accepted).0).1).1 in
    subst IsFormedScop (sym v.assembled.is_theirs) (record {
      context = v.assembled.held.context;
      statements = statements_formed 1 pieces.statements unsolved v.assembled.held.statements;
      arrays = v.assembled.held.arrays;
    })

-- ---- shapes

statements_shaped : (p k : ℕ) (raws : List RawStatement) → All (HasShapes p) raws → All (IsPrintableStatement p) raws
    → All (IsSolvedStatement p) (solved_statements k raws) → All (IsShapedStatement p) (solved_statements k raws)
statements_shaped p k [] shapes printable solved = All-nil (IsShapedStatement p)
statements_shaped p k (raw ∷ raws) shapes printable solved =
    let s = solved_statement k raw in
    let rest = solved_statements (k + 1) raws in
    let shape : HasShapes p raw = All-head (HasShapes p) raw raws shapes in
    let texts : IsPrintableStatement p raw = All-head (IsPrintableStatement p) raw raws printable in
    let own : IsSolvedStatement p s = All-head (IsSolvedStatement p) s rest solved in
    All-cons (IsShapedStatement p) s rest
    (record {
      some_part = texts.some_domain;
      domain = subst (λ i. All (IsDomainPart i p) raw.domain) (sym (body_count k (iterators_of raw) raw.body shape.body)) texts.domain;
      schedule = own.schedule;
      accesses = own.accesses;
    })
    (statements_shaped p (k + 1) raws (All-tail (HasShapes p) raw raws shapes) (All-tail (IsPrintableStatement p) raw raws printable) (All-tail (IsSolvedStatement p) s rest solved))

pub scops_are_shaped : ValidScopsAreShaped
scops_are_shaped S v =
    let pieces = v.assembled.pieces in
    let p = pieces.context.shape.parameters in
    let solved : All (IsSolvedStatement p) (solved_statements 1 pieces.statements)
    = statements_solved pieces (scop_of pieces) v.assembled.accepted refl (subst IsValid v.assembled.is_theirs v) in
    subst IsShapedScop (sym v.assembled.is_theirs) (record {
      context = v.assembled.printable.context;
      statements = statements_shaped p 1 pieces.statements v.assembled.printable.shapes v.assembled.printable.statements solved;
    })

-- what holds of all statements holds of statement number k
pub at_statement : (P : Statement → Type 0) (statements : List Statement) → All P statements → (k : ℕ) (s : Statement) → IsStatement statements k s → P s
at_statement P statements all zero s e = absurd (cc)
at_statement P statements all (suc k) s e = by statements all k e
  where
    by : (xs : List Statement) → All P xs → (j : ℕ) → slice_get xs j ≡ Some s → P s
    by [] h j g = absurd (cc)
    by (x ∷ xs) h zero g = let same : x ≡ s = cc in subst P same (All-head P x xs h)
    by (x ∷ xs) h (suc j) g = by xs (All-tail P x xs h) j g
