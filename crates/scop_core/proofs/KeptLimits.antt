-- Pieces without a refusal give a SCoP that keeps all limits.
use Rattle.std.proofs.Common.{◌≡◌, ℕ, zero, suc, ◌+◌, ◌-◌, ◌/◌, ◌^◌, ◌<◌, ◌≤◌, Bool, true, false, ◌||◌, nat_lt, List, [], ◌∷◌, length, ℤ, refl, ap, sym, ◌∙◌, subst, arith, Option, Some, None}
use Rattle.std.specs.Prelude.{All, IfSome}
use Rattle.std.proofs.lemmas.Bool.Decides.{nat_tests}
use Rattle.std.proofs.lemmas.List.{length-map}
use Rattle.std.proofs.lemmas.List.Elements.{All-cons, All-nil, All-head, All-tail}
use Rattle.suite_base.specs.declared.refusals.Refusal.TheVariants.{Limit}
use Rattle.suite_base.specs.declared.refusals.Which.TheVariants.{Statements, Iterators, Parameters, Levels, Locals, Rows, Parts, Accesses, Subscripts, Arrays}
use Rattle.relation_core.specs.Systems.{System}
use Rattle.scop_data.specs.declared.accesses.AccessKind.{AccessKind}
use Rattle.scop_core.specs.declared.limits.PartCount.{PartCount}
use Rattle.scop_core.specs.declared.limits.PartCount.TheVariants.{OutputCount, LocalCount, RowCount}
use Rattle.scop_data.specs.declared.statements.Body.{Body}
use Rattle.scop_data.specs.declared.statements.Statement.{Statement}
use Rattle.scop_data.specs.declared.raw_pieces.RawStatement.{RawStatement}
use Rattle.scop_data.specs.declared.raw_pieces.ScopPieces.{ScopPieces}
use Rattle.schedule_forms.specs.SolvedForm.{floors_from, levels_from, values_from, is_scattering}
use Rattle.scop_core.specs.Assembly.{array_count, count_of, some_above, accesses_above, statement_above, has_many_parts, whole_limit, statement_limit, first_limit, is_one, is_solved, the_part, first_unsolved, first_clash, iterators_of, default_names, body_from, solved_accesses, solved_statement, solved_statements, early_refusal_of, scop_of, HasNames}
use Rattle.scop_data.specs.ScopData.{ScopData, arrays_of, betas_in}
use Rattle.scop_core.specs.Printable.{IsPrintable}
use Rattle.scop_core.specs.Validity.{IsValid}
use Rattle.scop_core.specs.KeptLimits.{StatementKeepsLimits, KeepsLimits}
use Rattle.schedule_forms.proofs.SolvedShapes.{both}
use Rattle.scop_core.proofs.Assemblies.{the_part_has, length_solved, shapes_names, unsolved_first}
use Rattle.scop_core.proofs.ClashFree.{neither, passed_none}

not_above : (most n : ℕ) → nat_lt most n ≡ false → n ≤ most
not_above most n h = grind (arith, nat_tests)

neither_test : (a b : Bool) → (a || b) ≡ false → (a ≡ false) × (b ≡ false)
neither_test true b h = absurd (cc)
neither_test false b h = (refl, h)

parts_within : (count : PartCount) (most : ℕ) (parts : List System) → some_above count most parts ≡ false → All (λ part. count_of count part ≤ most) parts
parts_within count most [] h = All-nil (λ part. count_of count part ≤ most)
parts_within count most (part ∷ parts) h =
    let tests = neither_test (nat_lt most (count_of count part)) (some_above count most parts) h in
    All-cons (λ p. count_of count p ≤ most) part parts (not_above most (count_of count part) tests.0) (parts_within count most parts tests.1)

length_floors : (part : System) (k n : ℕ) → length (floors_from part k n) ≡ n
length_floors part k zero = refl
length_floors part k (suc n) = ap suc (length_floors part (k + 1) n)

length_levels : (part : System) (k n : ℕ) → length (levels_from part k n) ≡ n
length_levels part k zero = refl
length_levels part k (suc n) = ap suc (length_levels part (k + 1) n)

length_values : (part : System) (k n : ℕ) → length (values_from part k n) ≡ n
length_values part k zero = refl
length_values part k (suc n) = ap suc (length_values part (k + 1) n)

length_names : (k n : ℕ) → length (default_names k n) ≡ n
length_names k zero = refl
length_names k (suc n) = ap suc (length_names (k + 1) n)

length_accesses : (accesses : List (AccessKind × List System)) → length (solved_accesses accesses) ≡ length accesses
length_accesses [] = refl
length_accesses (access ∷ accesses) = ap suc (length_accesses accesses)

body_names : (k n : ℕ) (body : Option Body) → IfSome body (λ own. length own.iterators ≡ n) → length (body_from k n body).iterators ≡ n
body_names k n None h = length_names 1 n
body_names k n (Some body) h = h

first_within : (count : PartCount) (most : ℕ) (parts : List System) → is_one is_scattering parts ≡ true → some_above count most parts ≡ false → count_of count (the_part parts) ≤ most
first_within count most parts one h = the_part_has is_scattering (λ part. count_of count part ≤ most) parts one (parts_within count most parts h)

outputs_first : (most : ℕ) (parts : List System) → some_above OutputCount most parts ≡ false → (the_part parts).shape.outputs ≤ most
outputs_first most [] h = omega arith
outputs_first most (part ∷ parts) h = not_above most part.shape.outputs (neither_test (nat_lt most part.shape.outputs) (some_above OutputCount most parts) h).0

subscripts_within : (accesses : List (AccessKind × List System)) → accesses_above OutputCount 13 accesses ≡ false → All (λ access. length access.subscripts ≤ 12) (solved_accesses accesses)
subscripts_within [] h = All-nil (λ access. length access.subscripts ≤ 12)
subscripts_within (access ∷ accesses) h =
    let tests = neither_test (some_above OutputCount 13 access.1) (accesses_above OutputCount 13 accesses) h in
    let outputs = outputs_first 13 access.1 tests.0 in
    let count = length_values (the_part access.1) 1 ((the_part access.1).shape.outputs - 1) in
    All-cons (λ a. length a.subscripts ≤ 12) _ (solved_accesses accesses) (omega (arith, count)) (subscripts_within accesses tests.1)

-- a statement in solved form that passes no limit keeps them
statement_keeps : (k : ℕ) (raw : RawStatement) → statement_limit k raw ≡ None → is_solved raw ≡ true → HasNames raw → StatementKeepsLimits (solved_statement k raw)
statement_keeps k raw h solved names =
    let one : is_one is_scattering raw.scattering ≡ true = (both _ _ solved).0 in
    let iterators = passed_none (some_above OutputCount 12 raw.domain) (Limit Iterators k) _ h in
    let levels = passed_none (some_above OutputCount 49 raw.scattering) (Limit Levels k) _ iterators.1 in
    let locals = passed_none (statement_above LocalCount 24 raw) (Limit Locals k) _ levels.1 in
    let rows = passed_none (statement_above RowCount 256 raw) (Limit Rows k) _ locals.1 in
    let many = passed_none (has_many_parts raw) (Limit Parts k) _ rows.1 in
    let accesses = passed_none (nat_lt 256 (length raw.accesses)) (Limit Accesses k) _ many.1 in
    let subscripts = passed_none (accesses_above OutputCount 13 raw.accesses) (Limit Subscripts k) None accesses.1 in
    let local_tests = neither_test (some_above LocalCount 24 raw.domain) _ locals.0 in
    let floor_tests = neither_test (some_above LocalCount 24 raw.scattering) _ local_tests.1 in
    let outputs : (the_part raw.scattering).shape.outputs ≤ 49 = outputs_first 49 raw.scattering levels.0 in
    let floors : (the_part raw.scattering).shape.locals ≤ 24 = first_within LocalCount 24 raw.scattering one floor_tests.0 in
    let few : iterators_of raw ≤ 12 = outputs_first 12 raw.domain iterators.0 in
    let level_count = length_levels (the_part raw.scattering) 0 ((the_part raw.scattering).shape.outputs / 2) in
    let floor_count = length_floors (the_part raw.scattering) 0 (the_part raw.scattering).shape.locals in
    let name_count = body_names k (iterators_of raw) raw.body names in
    let access_count = length_accesses raw.accesses in
    let few_accesses = not_above 256 (length raw.accesses) accesses.0 in
    record {
      parts = not_above 64 (length raw.domain) (neither_test (nat_lt 64 (length raw.domain)) _ many.0).0;
      locals = parts_within LocalCount 24 raw.domain local_tests.0;
      rows = parts_within RowCount 256 raw.domain (neither_test (some_above RowCount 256 raw.domain) _ rows.0).0;
      iterators = rw name_count few;
      levels = rw level_count (omega arith);
      floors = rw floor_count floors;
      accesses = rw access_count few_accesses;
      subscripts = subscripts_within raw.accesses subscripts.0;
    }

each_keeps : (k : ℕ) (raws : List RawStatement) → first_limit k raws ≡ None → first_unsolved k raws ≡ None → All HasNames raws → All StatementKeepsLimits (solved_statements k raws)
each_keeps k [] h s names = All-nil StatementKeepsLimits
each_keeps k (raw ∷ raws) h s names =
    let limits = neither (statement_limit k raw) (first_limit (k + 1) raws) h in
    let solved = unsolved_first k raw raws s in
    All-cons StatementKeepsLimits (solved_statement k raw) (solved_statements (k + 1) raws)
    (statement_keeps k raw limits.0 solved.0 (All-head HasNames raw raws names))
    (each_keeps (k + 1) raws limits.1 solved.1 (All-tail HasNames raw raws names))

arrays_within : (arrays : Option (List (ℤ × List ℕ))) → array_count arrays ≤ 4096 → (scop : ScopData) → scop.arrays ≡ arrays → length (arrays_of scop) ≤ 4096
arrays_within None h scop e = rw e (omega arith)
arrays_within (Some arrays) h scop e = rw e h

pieces_keep : (pieces : ScopPieces) → early_refusal_of pieces ≡ None → IsPrintable pieces → KeepsLimits (scop_of pieces)
pieces_keep pieces h printable =
    let early = neither (whole_limit pieces) _ h in
    let later = neither (first_limit 1 pieces.statements) (first_unsolved 1 pieces.statements) early.1 in
    let statements = passed_none (nat_lt 1024 (length pieces.statements)) (Limit Statements 0) _ early.0 in
    let parameters = passed_none (nat_lt 16 pieces.context.shape.parameters) (Limit Parameters 0) _ statements.1 in
    let rows = passed_none (nat_lt 256 (length pieces.context.rows)) (Limit Rows 0) _ parameters.1 in
    let arrays = passed_none (nat_lt 4096 (array_count pieces.arrays)) (Limit Arrays 0) None rows.1 in
    let count = length_solved 1 pieces.statements in
    let few = not_above 1024 (length pieces.statements) statements.0 in
    record {
      statements = rw count few;
      parameters = not_above 16 pieces.context.shape.parameters parameters.0;
      rows = not_above 256 (length pieces.context.rows) rows.0;
      arrays = arrays_within pieces.arrays (not_above 4096 (array_count pieces.arrays) arrays.0) (scop_of pieces) refl;
      each = each_keeps 1 pieces.statements later.0 later.1 (shapes_names pieces.context.shape.parameters pieces.statements printable.shapes);
    }

-- every valid SCoP keeps all limits
pub keeps_limits : (S : ScopData) → IsValid S → KeepsLimits S
keeps_limits S v =
    let early = neither (early_refusal_of v.assembled.pieces) (first_clash 1 [] (solved_statements 1 v.assembled.pieces.statements)) v.assembled.accepted in
    subst KeepsLimits (sym v.assembled.is_theirs) (pieces_keep v.assembled.pieces early.0 v.assembled.printable)

-- a valid SCoP has few beta vectors
pub few_vectors : (S : ScopData) (statements : List Statement) (vectors : List (List ℤ)) → IsValid S → statements ≡ S.statements → vectors ≡ betas_in statements
    → length vectors < 2 ^ 32
few_vectors S statements vectors v e b =
    let few = (keeps_limits S v).statements in
    let count : length vectors ≡ length S.statements = ap length b ∙ (length-map statements (λ s. s.schedule.betas) ∙ ap length e) in omega arith
