-- The pieces of a SCoP that came from printable pieces can be printed, and give that SCoP again.
use Rattle.std.proofs.Common.{◌≡◌, ◌⊎◌, inl, inr, ℕ, suc, ◌+◌, ◌-◌, ◌*◌, ◌/◌, ◌<◌, ◌≤◌, Bool, true, false, List, [], ◌∷◌, length, map, Option, None, Some, ℤ, refl, ap, sym, ◌∙◌, subst, arith}
use Rattle.std.specs.Prelude.{All, IfSome, ◌||◌, nat_lt, if◌then◌else◌}
use Rattle.std.proofs.lemmas.List.{length-append, length-map}
use Rattle.std.proofs.lemmas.List.Elements.{All-nil, All-head, All-tail, All-cons, All-map}
use Rattle.std.proofs.lemmas.Bool.Decides.{Decides-ltb}
use Rattle.relation_core.specs.Systems.{System}
use Rattle.relation_core.specs.declared.shapes.Shape.{Shape}
use Rattle.scop_data.specs.declared.affines.Affine.{Affine}
use Rattle.scop_data.specs.declared.schedules.Floor.{Floor}
use Rattle.scop_data.specs.declared.schedules.Schedule.{Schedule}
use Rattle.scop_data.specs.declared.accesses.AccessKind.{AccessKind}
use Rattle.scop_data.specs.declared.accesses.Access.{Access}
use Rattle.scop_core.specs.declared.limits.PartCount.{PartCount}
use Rattle.scop_core.specs.declared.limits.PartCount.TheVariants.{OutputCount, LocalCount, RowCount}
use Rattle.scop_data.specs.declared.statements.Body.{Body}
use Rattle.scop_data.specs.declared.statements.Statement.{Statement}
use Rattle.scop_data.specs.declared.raw_pieces.RawStatement.{RawStatement}
use Rattle.scop_data.specs.declared.raw_pieces.ScopPieces.{ScopPieces}
use Rattle.scop_data.specs.ScopData.{ScopData}
use Rattle.scop_data.specs.SolvedRows.{dimension_rows, value_rows, floor_rows, schedule_shape, schedule_part, access_shape, access_part, HasAccessRelation}
use Rattle.schedule_forms.specs.SolvedForm.{is_scattering, is_access, schedule_of, access_of}
use Rattle.scop_core.specs.Assembly.{or_else, count_of, some_above, accesses_above, statement_above, accesses_many, has_many_parts, whole_limit, statement_limit, first_limit, is_one, the_part, are_solved, is_solved, first_unsolved, iterators_of, body_from, solved_accesses, solved_statement, solved_statements, first_clash, refusal_of, scop_of, HasInputs, HasShapes}
use Rattle.scop_core.specs.Printable.{is_body, has_part, IsPrintableStatement, IsPrintable}
use Rattle.scop_data.specs.SolvedData.{HasRelations}
use Rattle.scop_core.specs.Validity.{IsValid}
use Rattle.scop_data.specs.SolvedData.{IsSolvedAccess, IsSolvedStatement}
use Rattle.scop_data.specs.Pieces.{access_piece, statement_pieces, pieces_of}
use Rattle.scop_core.specs.ReadBack.{ReadBack}
use Rattle.scop_core.specs.ReadBack.{StatementsAreSolved, PiecesReadBack}
use Rattle.schedule_forms.proofs.SolvedShapes.{both}
use Rattle.schedule_forms.proofs.SolvedPieces.{length_floors, length_levels, length_betas, length_values, solved_of_relation, access_of_relation}
use Rattle.schedule_forms.proofs.ReadBackLists.{false_if, and_true, apart}
use Rattle.scop_core.proofs.ReadBackNames.{default_is_body, default_count}
use Rattle.schedule_forms.proofs.ReadBackSolved.{schedule_reads_back, access_reads_back}

-- tests and first answers
pub or_none : {X : Type 0} (a b : Option X) → or_else a b ≡ None → (a ≡ None) × (b ≡ None)
or_none None b h = (refl, h)
or_none (Some x) b h = absurd (cc)

pub none_or : {X : Type 0} (a b : Option X) → a ≡ None → b ≡ None → or_else a b ≡ None
none_or a b e f = ap (λ t. or_else t b) e ∙ f

pub if_none : {X : Type 0} (t : Bool) (x : X) (rest : Option X) → (if t then Some x else rest) ≡ None → (t ≡ false) × (rest ≡ None)
if_none true x rest h = absurd (cc)
if_none false x rest h = (refl, h)

pub none_if : {X : Type 0} (t : Bool) (x : X) (rest : Option X) → t ≡ false → rest ≡ None → (if t then Some x else rest) ≡ None
none_if true x rest e f = absurd (cc)
none_if false x rest e f = f

pub neither : (a b : Bool) → (a || b) ≡ false → (a ≡ false) × (b ≡ false)
neither true b h = absurd (cc)
neither false b h = (refl, h)

pub or_false : (a b : Bool) → a ≡ false → b ≡ false → (a || b) ≡ false
or_false true b e f = absurd (cc)
or_false false b e f = f

pub at_most : (a b : ℕ) → nat_lt a b ≡ false → b ≤ a
at_most a b h = by (apart a b)
  where
    by : (a < b) ⊎ ((a ≡ b) ⊎ (b < a)) → b ≤ a
    by (inl l) = let t : nat_lt a b ≡ true = (Decides-ltb a b).1 l in absurd (cc)
    by (inr (inl e)) = omega arith
    by (inr (inr l)) = omega arith

pub not_above : (a b : ℕ) → b ≤ a → nat_lt a b ≡ false
not_above a b h = false_if (nat_lt a b) (λ e. let l : a < b = (Decides-ltb a b).0 e in omega arith)

one_part : (test : System → Bool) (parts : List System) → is_one test parts ≡ true → (parts ≡ the_part parts ∷ []) × (test (the_part parts) ≡ true)
one_part test [] h = absurd (cc)
one_part test (part ∷ []) h = (refl, h)
one_part test (part ∷ (next ∷ parts)) h = absurd (cc)

first_at_most : (count : PartCount) (most : ℕ) (part : System) (parts : List System) → some_above count most (part ∷ parts) ≡ false → count_of count part ≤ most
first_at_most count most part parts h = at_most most (count_of count part) (neither _ _ h).0

-- the number of rows of a printed part
dimensions_length : (shape : Shape) (k : ℕ) (betas : List ℤ) (levels : List Affine) → length betas ≡ length levels + 1
    → length (dimension_rows shape k betas levels) ≡ 2 * length levels + 1
dimensions_length shape k [] levels e = absurd (omega (arith, e))
dimensions_length shape k (beta ∷ []) [] e = refl
dimensions_length shape k (beta ∷ (b ∷ betas)) [] e = absurd (omega (arith, e))
dimensions_length shape k (beta ∷ betas) (level ∷ levels) e = omega (arith, dimensions_length shape (k + 2) betas levels (omega (arith, e)))

floors_length : (shape : Shape) (k : ℕ) (floors : List Floor) → length (floor_rows shape k floors) ≡ 2 * length floors
floors_length shape k [] = refl
floors_length shape k (floor ∷ floors) = omega (arith, floors_length shape (k + 1) floors)

values_length : (shape : Shape) (k : ℕ) (values : List Affine) → length (value_rows shape k values) ≡ length values
values_length shape k [] = refl
values_length shape k (value ∷ values) = ap suc (values_length shape (k + 1) values)

pub schedule_length : (i p : ℕ) (s : Schedule) → length s.betas ≡ length s.levels + 1 → length (schedule_part i p s).rows ≡ (2 * length s.levels + 1) + 2 * length s.floors
schedule_length i p s e =
    length-append (dimension_rows (schedule_shape i p s) 0 s.betas s.levels) (floor_rows (schedule_shape i p s) 0 s.floors)
    ∙ omega (arith, dimensions_length (schedule_shape i p s) 0 s.betas s.levels e, floors_length (schedule_shape i p s) 0 s.floors)

-- accesses with at most 12 subscripts
abbrev pub Small : List Access → Type 0
Small [] = Unit {0}
Small (access ∷ accesses) = (length access.subscripts ≤ 12) × Small accesses

small_access : (kind : AccessKind) (parts : List System) → is_one is_access parts ≡ true → some_above OutputCount 13 parts ≡ false
    → length (access_of kind (the_part parts)).subscripts ≤ 12
small_access kind [] h g = absurd (cc)
small_access kind (part ∷ []) h g =
    let n = length_values part 1 (part.shape.outputs - 1) in
    let most : part.shape.outputs ≤ 13 = first_at_most OutputCount 13 part [] g in
    omega (arith, n)
small_access kind (part ∷ (next ∷ parts)) h g = absurd (cc)

small_accesses : (raws : List (AccessKind × List System)) → are_solved raws ≡ true → accesses_above OutputCount 13 raws ≡ false → Small (solved_accesses raws)
small_accesses [] h g = tt
small_accesses (raw ∷ raws) h g =
    let p = both _ _ h in let q = neither _ _ g in (small_access raw.0 raw.1 p.0 q.0, small_accesses raws p.1 q.1)

pub pieces_outputs : (i p : ℕ) (accesses : List Access) → Small accesses → accesses_above OutputCount 13 (map (access_piece i p) accesses) ≡ false
pieces_outputs i p [] h = refl
pieces_outputs i p (access ∷ accesses) h =
    let few : length access.subscripts ≤ 12 = h.0 in
    or_false _ _ (or_false _ _ (not_above 13 (length access.subscripts + 1) (omega arith)) refl) (pieces_outputs i p accesses h.1)

pub pieces_locals : (i p : ℕ) (accesses : List Access) → accesses_above LocalCount 24 (map (access_piece i p) accesses) ≡ false
pieces_locals i p [] = refl
pieces_locals i p (access ∷ accesses) = or_false _ _ (or_false _ _ (not_above 24 0 (omega arith)) refl) (pieces_locals i p accesses)

pub pieces_rows : (i p : ℕ) (accesses : List Access) → Small accesses → accesses_above RowCount 256 (map (access_piece i p) accesses) ≡ false
pieces_rows i p [] h = refl
pieces_rows i p (access ∷ accesses) h =
    let few : length access.subscripts ≤ 12 = h.0 in
    or_false _ _ (or_false _ _ (not_above 256 (length (access_part i p access).rows) (omega (arith, values_length (access_shape i p access) 1 access.subscripts))) refl)
    (pieces_rows i p accesses h.1)

pub pieces_parts : (i p : ℕ) (accesses : List Access) → accesses_many (map (access_piece i p) accesses) ≡ false
pieces_parts i p [] = refl
pieces_parts i p (access ∷ accesses) = or_false _ _ (not_above 64 1 (omega arith)) (pieces_parts i p accesses)

-- accesses read back
accesses_solved : (i p : ℕ) (raws : List (AccessKind × List System)) → are_solved raws ≡ true → All (HasAccessRelation i p) (solved_accesses raws)
    → All (IsSolvedAccess i p) (solved_accesses raws)
accesses_solved i p [] h all = All-nil (IsSolvedAccess i p)
accesses_solved i p (raw ∷ raws) h all =
    let q = both _ _ h in
    All-cons (IsSolvedAccess i p) (access_of raw.0 (the_part raw.1)) (solved_accesses raws)
    (access_of_relation i p raw.0 (the_part raw.1) (one_part is_access raw.1 q.0).1 (All-head (HasAccessRelation i p) (access_of raw.0 (the_part raw.1)) (solved_accesses raws) all))
    (accesses_solved i p raws q.1 (All-tail (HasAccessRelation i p) (access_of raw.0 (the_part raw.1)) (solved_accesses raws) all))

pub pieces_solved : (i p : ℕ) (accesses : List Access) → All (IsSolvedAccess i p) accesses → are_solved (map (access_piece i p) accesses) ≡ true
pieces_solved i p [] h = refl
pieces_solved i p (access ∷ accesses) h =
    and_true _ _ (access_reads_back i p access (All-head (IsSolvedAccess i p) access accesses h)).0
    (pieces_solved i p accesses (All-tail (IsSolvedAccess i p) access accesses h))

pub pieces_same : (i p : ℕ) (accesses : List Access) → All (IsSolvedAccess i p) accesses → solved_accesses (map (access_piece i p) accesses) ≡ accesses
pieces_same i p [] h = refl
pieces_same i p (access ∷ accesses) h =
    ap (λ a. a ∷ solved_accesses (map (access_piece i p) accesses)) (access_reads_back i p access (All-head (IsSolvedAccess i p) access accesses h)).1
    ∙ ap (λ rest. access ∷ rest) (pieces_same i p accesses (All-tail (IsSolvedAccess i p) access accesses h))

solved_count : (raws : List (AccessKind × List System)) → length (solved_accesses raws) ≡ length raws
solved_count [] = refl
solved_count (raw ∷ raws) = ap suc (solved_count raws)

-- no limit of a statement is passed
pub record Kept (raw : RawStatement) : Type 0 where
  pub iterators : some_above OutputCount 12 raw.domain ≡ false
  pub levels : some_above OutputCount 49 raw.scattering ≡ false
  pub locals : statement_above LocalCount 24 raw ≡ false
  pub rows : statement_above RowCount 256 raw ≡ false
  pub parts : has_many_parts raw ≡ false
  pub accesses : nat_lt 256 (length raw.accesses) ≡ false
  pub subscripts : accesses_above OutputCount 13 raw.accesses ≡ false

kept : (k : ℕ) (raw : RawStatement) → statement_limit k raw ≡ None → Kept raw
kept k raw h =
    let a = if_none _ _ _ h in
    let b = if_none _ _ _ a.1 in
    let c = if_none _ _ _ b.1 in
    let d = if_none _ _ _ c.1 in
    let e = if_none _ _ _ d.1 in
    let f = if_none _ _ _ e.1 in
    let g = if_none _ _ _ f.1 in
    record { iterators = a.0; levels = b.0; locals = c.0; rows = d.0; parts = e.0; accesses = f.0; subscripts = g.0 }

pub none_passed : (k : ℕ) (raw : RawStatement) → Kept raw → statement_limit k raw ≡ None
none_passed k raw keeps =
    none_if _ _ _ keeps.iterators (none_if _ _ _ keeps.levels (none_if _ _ _ keeps.locals (none_if _ _ _ keeps.rows
    (none_if _ _ _ keeps.parts (none_if _ _ _ keeps.accesses (none_if _ _ _ keeps.subscripts refl))))))

-- bodies
pub body_count : (k n : ℕ) (body : Option Body) → IfSome body (λ b. length b.iterators ≡ n) → length (body_from k n body).iterators ≡ n
body_count k n (Some body) h = h
body_count k n None h = default_count 1 n

pub body_is : (k n : ℕ) (body : Option Body) → k ≤ 65536 → n ≤ 65536 → IfSome body (λ b. is_body b ≡ true) → is_body (body_from k n body) ≡ true
body_is k n (Some body) h g is = is
body_is k n None h g is = default_is_body k n (omega arith) (omega arith)

few_iterators : (parts : List System) → some_above OutputCount 12 parts ≡ false → (the_part parts).shape.outputs ≤ 12
few_iterators [] h = omega arith
few_iterators (part ∷ parts) h = first_at_most OutputCount 12 part parts h

-- a statement that is solved, keeps its limits and can be printed
record Good (p k : ℕ) (raw : RawStatement) : Type 0 where
  shapes : HasShapes p raw
  printable : IsPrintableStatement p raw
  solved : is_solved raw ≡ true
  limit : statement_limit k raw ≡ None
  relations : HasRelations p (solved_statement k raw)
  number : k ≤ 65536

-- its pieces
abbrev made_of : ℕ → ℕ → RawStatement → RawStatement
made_of p k raw = statement_pieces p (solved_statement k raw)

-- a solved statement that can be printed is in solved form
solved_one : (p k : ℕ) (raw : RawStatement) → is_solved raw ≡ true → HasRelations p (solved_statement k raw) → IsSolvedStatement p (solved_statement k raw)
solved_one p k raw solved relations =
    let i = length (body_from k (iterators_of raw) raw.body).iterators in
    let is = both _ _ solved in
    record {
      schedule = solved_of_relation i p (the_part raw.scattering) (one_part is_scattering raw.scattering is.0).1 relations.schedule;
      accesses = accesses_solved i p raw.accesses is.1 relations.accesses;
    }

good_one : (p k : ℕ) (raw : RawStatement) → Good p k raw → IsSolvedStatement p (solved_statement k raw)
good_one p k raw good = solved_one p k raw good.solved good.relations

made_shapes : (p k : ℕ) (raw : RawStatement) → Good p k raw → HasShapes p (made_of p k raw)
made_shapes p k raw good =
    let count = body_count k (iterators_of raw) raw.body good.shapes.body in
    record {
      scattering = All-cons (HasInputs (iterators_of raw) p) _ [] (record { inputs_are = count; parameters_are = refl }) (All-nil (HasInputs (iterators_of raw) p));
      accesses = All-map (λ access. All (HasInputs (iterators_of raw) p) access.1) (access_piece (length (body_from k (iterators_of raw) raw.body).iterators) p) (solved_accesses raw.accesses)
          (λ j d l. All-cons (HasInputs (iterators_of raw) p) _ [] (record { inputs_are = count; parameters_are = refl }) (All-nil (HasInputs (iterators_of raw) p)));
      body = count;
    }

made_printable : (p k : ℕ) (raw : RawStatement) → Good p k raw → IsPrintableStatement p (made_of p k raw)
made_printable p k raw good =
    let few = few_iterators raw.domain (kept k raw good.limit).iterators in
    record {
      domain = good.printable.domain;
      some_domain = good.printable.some_domain;
      some_scattering = refl;
      some_accesses = All-map (λ access. has_part access.1 ≡ true) (access_piece (length (body_from k (iterators_of raw) raw.body).iterators) p) (solved_accesses raw.accesses) (λ j d l. refl);
      body = body_is k (iterators_of raw) raw.body good.number (omega (arith, few)) good.printable.body;
      extensions = good.printable.extensions;
    }

made_solved : (p k : ℕ) (raw : RawStatement) → Good p k raw → is_solved (made_of p k raw) ≡ true
made_solved p k raw good =
    and_true _ _ (schedule_reads_back _ p _ (good_one p k raw good).schedule).0 (pieces_solved _ p (solved_accesses raw.accesses) (good_one p k raw good).accesses)

made_same : (p k : ℕ) (raw : RawStatement) → Good p k raw → solved_statement k (made_of p k raw) ≡ solved_statement k raw
made_same p k raw good =
    let i = length (body_from k (iterators_of raw) raw.body).iterators in
    let statement : Schedule → List Access → Statement
    = λ schedule accesses. record { domain = raw.domain; schedule = schedule; accesses = accesses; body = body_from k (iterators_of raw) raw.body; extensions = raw.extensions } in
    ap (λ s. statement s (solved_accesses (map (access_piece i p) (solved_accesses raw.accesses)))) (schedule_reads_back i p _ (good_one p k raw good).schedule).1
    ∙ ap (λ a. statement (schedule_of (the_part raw.scattering)) a) (pieces_same i p (solved_accesses raw.accesses) (good_one p k raw good).accesses)

-- the numbers of the schedule of a scattering that keeps its limits
record Numbers (s : Schedule) : Type 0 where
  levels : length s.levels ≤ 24
  floors : length s.floors ≤ 24
  betas : length s.betas ≡ length s.levels + 1

numbers_of : (parts : List System) → is_one is_scattering parts ≡ true → some_above OutputCount 49 parts ≡ false → some_above LocalCount 24 parts ≡ false
    → Numbers (schedule_of (the_part parts))
numbers_of [] h g l = absurd (cc)
numbers_of (part ∷ []) h g l =
    let outputs : part.shape.outputs ≤ 49 = first_at_most OutputCount 49 part [] g in
    let locals : part.shape.locals ≤ 24 = first_at_most LocalCount 24 part [] l in
    let m = length_levels part 0 (part.shape.outputs / 2) in
    let n = length_betas part 0 (part.shape.outputs / 2 + 1) in
    let f = length_floors part 0 part.shape.locals in
    record { levels = omega (arith, m); floors = omega (arith, f); betas = omega (arith, m, n) }
numbers_of (part ∷ (next ∷ parts)) h g l = absurd (cc)

made_limit : (p k : ℕ) (raw : RawStatement) → Good p k raw → statement_limit k (made_of p k raw) ≡ None
made_limit p k raw good =
    let keeps = kept k raw good.limit in
    let i = length (body_from k (iterators_of raw) raw.body).iterators in
    let s = schedule_of (the_part raw.scattering) in
    let solved = both _ _ good.solved in
    let local = neither _ _ keeps.locals in
    let n = numbers_of raw.scattering solved.0 keeps.levels (neither _ _ local.1).0 in
    let small = small_accesses raw.accesses solved.1 keeps.subscripts in
    let many = neither _ _ keeps.parts in
    let count = length-map (solved_accesses raw.accesses) (access_piece i p) ∙ solved_count raw.accesses in
    none_passed k (made_of p k raw) (record {
      iterators = keeps.iterators;
      levels = or_false _ _ (not_above 49 (2 * length s.levels + 1) (omega (arith, n.levels))) refl;
      locals = or_false _ _ local.0 (or_false _ _ (or_false _ _ (not_above 24 (length s.floors) n.floors) refl) (pieces_locals i p (solved_accesses raw.accesses)));
      rows = or_false _ _ (neither _ _ keeps.rows).0
          (or_false _ _ (or_false _ _ (not_above 256 (length (schedule_part i p s).rows) (omega (arith, n.levels, n.floors, schedule_length i p s n.betas))) refl)
          (pieces_rows i p (solved_accesses raw.accesses) small));
      parts = or_false _ _ many.0 (or_false _ _ (not_above 64 1 (omega arith)) (pieces_parts i p (solved_accesses raw.accesses)));
      accesses = ap (λ m. nat_lt 256 m) count ∙ keeps.accesses;
      subscripts = pieces_outputs i p (solved_accesses raw.accesses) small;
    })

-- every statement
abbrev AllGood : ℕ → ℕ → List RawStatement → Type 0
AllGood p k [] = Unit {0}
AllGood p k (raw ∷ raws) = Good p k raw × AllGood p (k + 1) raws

pub unless_some : {X : Type 0} (t : Bool) (x : X) (rest : Option X) → (if t then rest else Some x) ≡ None → (t ≡ true) × (rest ≡ None)
unless_some true x rest h = (refl, h)
unless_some false x rest h = absurd (cc)

pub none_unless : {X : Type 0} (t : Bool) (x : X) (rest : Option X) → t ≡ true → rest ≡ None → (if t then rest else Some x) ≡ None
none_unless true x rest e f = f
none_unless false x rest e f = absurd (cc)

all_good : (p k : ℕ) (raws : List RawStatement) → All (HasShapes p) raws → All (IsPrintableStatement p) raws → first_limit k raws ≡ None → first_unsolved k raws ≡ None
    → All (HasRelations p) (solved_statements k raws) → k + length raws ≤ 65536 → AllGood p k raws
all_good p k [] shapes printable limit unsolved relations h = tt
all_good p k (raw ∷ raws) shapes printable limit unsolved relations h =
    let l = or_none _ _ limit in
    let u = unless_some _ _ _ unsolved in (
      record {
        shapes = All-head (HasShapes p) raw raws shapes;
        printable = All-head (IsPrintableStatement p) raw raws printable;
        solved = u.0;
        limit = l.0;
        relations = All-head (HasRelations p) (solved_statement k raw) (solved_statements (k + 1) raws) relations;
        number = omega arith;
      },
      all_good p (k + 1) raws (All-tail (HasShapes p) raw raws shapes) (All-tail (IsPrintableStatement p) raw raws printable) l.1 u.1
          (All-tail (HasRelations p) (solved_statement k raw) (solved_statements (k + 1) raws) relations) (omega arith),
    )

abbrev made_all : ℕ → ℕ → List RawStatement → List RawStatement
made_all p k raws = map (statement_pieces p) (solved_statements k raws)

limits_back : (p k : ℕ) (raws : List RawStatement) → AllGood p k raws → first_limit k (made_all p k raws) ≡ None
limits_back p k [] good = refl
limits_back p k (raw ∷ raws) good = none_or _ _ (made_limit p k raw good.0) (limits_back p (k + 1) raws good.1)

unsolved_back : (p k : ℕ) (raws : List RawStatement) → AllGood p k raws → first_unsolved k (made_all p k raws) ≡ None
unsolved_back p k [] good = refl
unsolved_back p k (raw ∷ raws) good = none_unless _ _ _ (made_solved p k raw good.0) (unsolved_back p (k + 1) raws good.1)

same_back : (p k : ℕ) (raws : List RawStatement) → AllGood p k raws → solved_statements k (made_all p k raws) ≡ solved_statements k raws
same_back p k [] good = refl
same_back p k (raw ∷ raws) good =
    ap (λ s. s ∷ solved_statements (k + 1) (made_all p (k + 1) raws)) (made_same p k raw good.0)
    ∙ ap (λ rest. solved_statement k raw ∷ rest) (same_back p (k + 1) raws good.1)

shapes_back : (p k : ℕ) (raws : List RawStatement) → AllGood p k raws → All (HasShapes p) (made_all p k raws)
shapes_back p k [] good = All-nil (HasShapes p)
shapes_back p k (raw ∷ raws) good =
    All-cons (HasShapes p) (made_of p k raw) (made_all p (k + 1) raws) (made_shapes p k raw good.0) (shapes_back p (k + 1) raws good.1)

printable_back : (p k : ℕ) (raws : List RawStatement) → AllGood p k raws → All (IsPrintableStatement p) (made_all p k raws)
printable_back p k [] good = All-nil (IsPrintableStatement p)
printable_back p k (raw ∷ raws) good =
    All-cons (IsPrintableStatement p) (made_of p k raw) (made_all p (k + 1) raws) (made_printable p k raw good.0) (printable_back p (k + 1) raws good.1)

statements_count : (k : ℕ) (raws : List RawStatement) → length (solved_statements k raws) ≡ length raws
statements_count k [] = refl
statements_count k (raw ∷ raws) = ap suc (statements_count (k + 1) raws)

few_statements : (pieces : ScopPieces) → whole_limit pieces ≡ None → length pieces.statements ≤ 1024
few_statements pieces h = at_most 1024 (length pieces.statements) (if_none _ _ _ h).0

whole_back : (pieces : ScopPieces) → whole_limit pieces ≡ None → whole_limit (pieces_of (scop_of pieces)) ≡ None
whole_back pieces h =
    let tests = if_none _ _ _ h in
    let count = length-map (solved_statements 1 pieces.statements) (statement_pieces pieces.context.shape.parameters) ∙ statements_count 1 pieces.statements in
    none_if _ _ _ (ap (λ m. nat_lt 1024 m) count ∙ tests.0) tests.1

pieces_back : (pieces : ScopPieces) → IsPrintable pieces → refusal_of pieces ≡ None → IsValid (scop_of pieces) → ReadBack (scop_of pieces)
pieces_back pieces printable none valid =
    let p = pieces.context.shape.parameters in
    let parts = or_none _ _ none in
    let early = or_none _ _ parts.0 in
    let each = or_none _ _ early.1 in
    let few = few_statements pieces early.0 in
    let good = all_good p 1 pieces.statements printable.shapes printable.statements each.0 each.1 valid.statements (omega arith) in
    let same = same_back p 1 pieces.statements good in
    let whole : List Statement → ScopData
    = λ statements. record { language = pieces.language; context = pieces.context; parameters = pieces.parameters; statements = statements; arrays = pieces.arrays; extensions = pieces.extensions } in
    record {
      printable = record {
        language = printable.language;
        context = printable.context;
        names = printable.names;
        name_count = printable.name_count;
        shapes = shapes_back p 1 pieces.statements good;
        statements = printable_back p 1 pieces.statements good;
        arrays = printable.arrays;
        extensions = printable.extensions;
      };
      unrefused = none_or _ _ (none_or _ _ (whole_back pieces early.0) (none_or _ _ (limits_back p 1 pieces.statements good) (unsolved_back p 1 pieces.statements good)))
          (ap (λ statements. first_clash 1 [] statements) same ∙ parts.1);
      same = ap whole same;
    }

all_solved : (p k : ℕ) (raws : List RawStatement) → first_unsolved k raws ≡ None → All (HasRelations p) (solved_statements k raws) → All (IsSolvedStatement p) (solved_statements k raws)
all_solved p k [] unsolved relations = All-nil (IsSolvedStatement p)
all_solved p k (raw ∷ raws) unsolved relations =
    let u = unless_some _ _ _ unsolved in
    All-cons (IsSolvedStatement p) (solved_statement k raw) (solved_statements (k + 1) raws)
    (solved_one p k raw u.0 (All-head (HasRelations p) (solved_statement k raw) (solved_statements (k + 1) raws) relations))
    (all_solved p (k + 1) raws u.1 (All-tail (HasRelations p) (solved_statement k raw) (solved_statements (k + 1) raws) relations))

pub statements_solved : StatementsAreSolved
statements_solved pieces scop none is valid =
    let p = pieces.context.shape.parameters in
    let unsolved = (or_none _ _ (or_none _ _ (or_none _ _ none).0).1).1 in
    subst (λ s. All (IsSolvedStatement s.context.shape.parameters) s.statements) (sym is)
    (all_solved p 1 pieces.statements unsolved (subst IsValid is valid).statements)

pub pieces_read_back : PiecesReadBack
pieces_read_back pieces scop printable none is valid =
    subst ReadBack (sym is) (pieces_back pieces printable none (subst IsValid is valid))
