-- Data in solved form, within the limits, with texts that can be printed and vectors apart, is what its pieces give.
use Rattle.std.proofs.Common.{◌≡◌, ◌≢◌, ◌⊎◌, inl, inr, ℕ, suc, ◌+◌, ◌*◌, ◌<◌, ◌≤◌, true, false, List, [], ◌∷◌, ◌++◌, length, map, ℤ, refl, ap, sym, ◌∙◌, subst, arith, append_assoc, Option, Some, None}
use Rattle.std.specs.Prelude.{All, slice_get, nat_lt}
use Rattle.std.proofs.lemmas.Bool.Decides.{Decides-int_eq}
use Rattle.std.proofs.lemmas.List.{length-append, length-map}
use Rattle.std.proofs.lemmas.List.Elements.{All-nil, All-head, All-tail, All-cons, All-map}
use Rattle.std.proofs.lemmas.Option.{slice_get_within}
use Rattle.relation_core.specs.Systems.{System}
use Rattle.scop_data.specs.declared.accesses.Access.{Access}
use Rattle.scop_core.specs.declared.limits.PartCount.{PartCount}
use Rattle.scop_core.specs.declared.limits.PartCount.TheVariants.{OutputCount, LocalCount, RowCount}
use Rattle.scop_data.specs.declared.schedules.Schedule.{Schedule}
use Rattle.scop_data.specs.declared.statements.Statement.{Statement}
use Rattle.scop_data.specs.ScopData.{ScopData, arrays_of}
use Rattle.scop_data.specs.SolvedRows.{schedule_part}
use Rattle.scop_data.specs.Order.{IsPrefix}
use Rattle.scop_core.specs.Assembly.{count_of, array_count, some_above, the_part, statement_limit, first_limit, whole_limit, is_solved, first_unsolved, iterators_of, solved_statement, solved_statements, vectors_clash, clash_among, first_clash, HasInputs, HasShapes}
use Rattle.scop_core.specs.Printable.{has_part, IsDomainPart, IsPrintableStatement}
use Rattle.scop_core.specs.KeptLimits.{StatementKeepsLimits, KeepsLimits}
use Rattle.scop_data.specs.Pieces.{access_piece, statement_pieces, pieces_of}
use Rattle.scop_core.specs.ReadBack.{ReadBack}
use Rattle.scop_core.specs.Shapes.{IsShapedStatement}
use Rattle.scop_core.specs.Assemblable.{StatementHasTexts, AreApart, AssemblableDataReadsBack, ValidScopsAreAssemblable}
use Rattle.schedule_forms.proofs.SolvedShapes.{both}
use Rattle.schedule_forms.proofs.ReadBackLists.{false_if, and_true}
use Rattle.schedule_forms.proofs.ReadBackSolved.{schedule_reads_back}
use Rattle.scop_core.proofs.ReadBackPieces.{none_or, none_if, none_unless, or_false, not_above, schedule_length, Small, pieces_outputs, pieces_locals, pieces_rows, pieces_parts, pieces_solved, pieces_same, none_passed}
use Rattle.scop_core.proofs.ReadBackPieces.{pieces_read_back}
use Rattle.scop_core.proofs.ClashFree.{get_before, valid_schedules}
use Rattle.scop_core.proofs.KeptLimits.{keeps_limits}
use Rattle.scop_core.proofs.ScopShapes.{scops_are_shaped}

-- ---- one statement

-- a statement that fits, keeps its limits and can be printed
record Fits (p : ℕ) (s : Statement) : Type 0 where
  shaped : IsShapedStatement p s
  limits : StatementKeepsLimits s
  texts : StatementHasTexts s

first_outputs : (i p : ℕ) (domain : List System) → has_part domain ≡ true → All (IsDomainPart i p) domain → (the_part domain).shape.outputs ≡ i
first_outputs i p [] h all = absurd (cc)
first_outputs i p (part ∷ parts) h all = (All-head (IsDomainPart i p) part parts all).outputs

count_is : (p : ℕ) (s : Statement) → Fits p s → length s.body.iterators ≡ iterators_of (statement_pieces p s)
count_is p s fits = sym (first_outputs (length s.body.iterators) p s.domain fits.shaped.some_part fits.shaped.domain)

shapes_fit : (p : ℕ) (s : Statement) → Fits p s → HasShapes p (statement_pieces p s)
shapes_fit p s fits =
    let i = length s.body.iterators in
    let n = iterators_of (statement_pieces p s) in
    let count : i ≡ n = count_is p s fits in
    record {
      scattering = All-cons (HasInputs n p) _ [] (record { inputs_are = count; parameters_are = refl }) (All-nil (HasInputs n p));
      accesses = All-map (λ access. All (HasInputs n p) access.1) (access_piece i p) s.accesses
          (λ j d l. All-cons (HasInputs n p) _ [] (record { inputs_are = count; parameters_are = refl }) (All-nil (HasInputs n p)));
      body = count;
    }

texts_fit : (p : ℕ) (s : Statement) → Fits p s → IsPrintableStatement p (statement_pieces p s)
texts_fit p s fits = record {
  domain = subst (λ n. All (IsDomainPart n p) s.domain) (count_is p s fits) fits.shaped.domain;
  some_domain = fits.shaped.some_part;
  some_scattering = refl;
  some_accesses = All-map (λ access. has_part access.1 ≡ true) (access_piece (length s.body.iterators) p) s.accesses (λ j d l. refl);
  body = fits.texts.body;
  extensions = fits.texts.extensions;
}

solved_fits : (p : ℕ) (s : Statement) → Fits p s → is_solved (statement_pieces p s) ≡ true
solved_fits p s fits =
    let i = length s.body.iterators in
    and_true _ _ (schedule_reads_back i p s.schedule fits.shaped.schedule).0 (pieces_solved i p s.accesses fits.shaped.accesses)

same_fits : (p k : ℕ) (s : Statement) → Fits p s → solved_statement k (statement_pieces p s) ≡ s
same_fits p k s fits =
    let i = length s.body.iterators in
    let made : Schedule → List Access → Statement
    = λ schedule accesses. record { domain = s.domain; schedule = schedule; accesses = accesses; body = s.body; extensions = s.extensions } in
    ap (λ schedule. made schedule (solved_statement k (statement_pieces p s)).accesses) (schedule_reads_back i p s.schedule fits.shaped.schedule).1
    ∙ ap (λ accesses. made s.schedule accesses) (pieces_same i p s.accesses fits.shaped.accesses)

-- no part passes a limit
none_above : (count : PartCount) (most : ℕ) (parts : List System) → All (λ part. count_of count part ≤ most) parts → some_above count most parts ≡ false
none_above count most [] all = refl
none_above count most (part ∷ parts) all =
    or_false _ _ (not_above most (count_of count part) (All-head (λ p. count_of count p ≤ most) part parts all))
    (none_above count most parts (All-tail (λ p. count_of count p ≤ most) part parts all))

few_outputs : (i p : ℕ) (domain : List System) → i ≤ 12 → All (IsDomainPart i p) domain → some_above OutputCount 12 domain ≡ false
few_outputs i p [] h all = refl
few_outputs i p (part ∷ parts) h all =
    let own = (All-head (IsDomainPart i p) part parts all).outputs in
    or_false _ _ (not_above 12 part.shape.outputs (omega (arith, own))) (few_outputs i p parts h (All-tail (IsDomainPart i p) part parts all))

few_subscripts : (accesses : List Access) → All (λ access. length access.subscripts ≤ 12) accesses → Small accesses
few_subscripts [] all = tt
few_subscripts (a ∷ accesses) all =
    (All-head (λ access. length access.subscripts ≤ 12) a accesses all, few_subscripts accesses (All-tail (λ access. length access.subscripts ≤ 12) a accesses all))

limits_fit : (p k : ℕ) (s : Statement) → Fits p s → statement_limit k (statement_pieces p s) ≡ None
limits_fit p k s fits =
    let i = length s.body.iterators in
    let keeps = fits.limits in
    let betas = fits.shaped.schedule.relation.betas in
    let small = few_subscripts s.accesses keeps.subscripts in
    none_passed k (statement_pieces p s) (record {
      iterators = few_outputs i p s.domain keeps.iterators fits.shaped.domain;
      levels = or_false _ _ (not_above 49 (2 * length s.schedule.levels + 1) (omega (arith, keeps.levels))) refl;
      locals = or_false _ _ (none_above LocalCount 24 s.domain keeps.locals)
          (or_false _ _ (or_false _ _ (not_above 24 (length s.schedule.floors) keeps.floors) refl) (pieces_locals i p s.accesses));
      rows = or_false _ _ (none_above RowCount 256 s.domain keeps.rows)
          (or_false _ _ (or_false _ _ (not_above 256 (length (schedule_part i p s.schedule).rows) (omega (arith, keeps.levels, keeps.floors, schedule_length i p s.schedule betas))) refl)
          (pieces_rows i p s.accesses small));
      parts = or_false _ _ (not_above 64 (length s.domain) keeps.parts) (or_false _ _ (not_above 64 1 (omega arith)) (pieces_parts i p s.accesses));
      accesses = ap (λ m. nat_lt 256 m) (length-map s.accesses (access_piece i p)) ∙ not_above 256 (length s.accesses) keeps.accesses;
      subscripts = pieces_outputs i p s.accesses small;
    })

-- ---- all statements

abbrev AllFit : ℕ → List Statement → Type 0
AllFit p [] = Unit {0}
AllFit p (s ∷ statements) = Fits p s × AllFit p statements

all_fit : (p : ℕ) (statements : List Statement) → All (IsShapedStatement p) statements → All StatementKeepsLimits statements → All StatementHasTexts statements → AllFit p statements
all_fit p [] shaped limits texts = tt
all_fit p (s ∷ rest) shaped limits texts = (
  record {
    shaped = All-head (IsShapedStatement p) s rest shaped;
    limits = All-head StatementKeepsLimits s rest limits;
    texts = All-head StatementHasTexts s rest texts;
  },
  all_fit p rest (All-tail (IsShapedStatement p) s rest shaped) (All-tail StatementKeepsLimits s rest limits) (All-tail StatementHasTexts s rest texts),
)

limits_all : (p k : ℕ) (statements : List Statement) → AllFit p statements → first_limit k (map (statement_pieces p) statements) ≡ None
limits_all p k [] fit = refl
limits_all p k (s ∷ statements) fit = none_or _ _ (limits_fit p k s fit.0) (limits_all p (k + 1) statements fit.1)

solved_all : (p k : ℕ) (statements : List Statement) → AllFit p statements → first_unsolved k (map (statement_pieces p) statements) ≡ None
solved_all p k [] fit = refl
solved_all p k (s ∷ statements) fit = none_unless _ _ _ (solved_fits p s fit.0) (solved_all p (k + 1) statements fit.1)

same_all : (p k : ℕ) (statements : List Statement) → AllFit p statements → solved_statements k (map (statement_pieces p) statements) ≡ statements
same_all p k [] fit = refl
same_all p k (s ∷ statements) fit =
    ap (λ t. t ∷ solved_statements (k + 1) (map (statement_pieces p) statements)) (same_fits p k s fit.0)
    ∙ ap (λ rest. s ∷ rest) (same_all p (k + 1) statements fit.1)

shapes_all : (p : ℕ) (statements : List Statement) → AllFit p statements → All (HasShapes p) (map (statement_pieces p) statements)
shapes_all p [] fit = All-nil (HasShapes p)
shapes_all p (s ∷ statements) fit =
    All-cons (HasShapes p) (statement_pieces p s) (map (statement_pieces p) statements) (shapes_fit p s fit.0) (shapes_all p statements fit.1)

texts_all : (p : ℕ) (statements : List Statement) → AllFit p statements → All (IsPrintableStatement p) (map (statement_pieces p) statements)
texts_all p [] fit = All-nil (IsPrintableStatement p)
texts_all p (s ∷ statements) fit =
    All-cons (IsPrintableStatement p) (statement_pieces p s) (map (statement_pieces p) statements) (texts_fit p s fit.0) (texts_all p statements fit.1)

-- ---- vectors

clash_is_prefix : (a b : List ℤ) → vectors_clash a b ≡ true → IsPrefix a b ⊎ IsPrefix b a
clash_is_prefix [] b h = inl tt
clash_is_prefix (x ∷ a) [] h = inr tt
clash_is_prefix (x ∷ a) (y ∷ b) h =
    let parts = both _ _ h in
    let same : x ≡ y = (Decides-int_eq x y).0 parts.0 in
    elim (clash_is_prefix a b parts.1) [ inl l ↦ inl (same, l) | inr l ↦ inr (sym same, l) ]

no_clash : (a b : List ℤ) → ¬ IsPrefix a b → ¬ IsPrefix b a → vectors_clash a b ≡ false
no_clash a b f g = false_if (vectors_clash a b) (λ h. elim (clash_is_prefix a b h) [ inl l ↦ f l | inr l ↦ g l ])

among_none : (i j : ℕ) (xs : List Statement) (betas : List ℤ) → ((k : ℕ) (s : Statement) → slice_get xs k ≡ Some s → vectors_clash s.schedule.betas betas ≡ false)
    → clash_among i j xs betas ≡ None
among_none i j [] betas h = refl
among_none i j (x ∷ xs) betas h = none_if _ _ _ (h 0 x refl) (among_none (i + 1) j xs betas (λ k s e. h (suc k) s e))

-- no statement clashes with one before it
clash_none : (j : ℕ) (before rest : List Statement)
    → ((i m : ℕ) (s t : Statement) → slice_get (before ++ rest) i ≡ Some s → slice_get rest m ≡ Some t → i < length before + m → vectors_clash s.schedule.betas t.schedule.betas ≡ false)
    → first_clash j before rest ≡ None
clash_none j before [] h = refl
clash_none j before (x ∷ rest) h =
    none_or _ _
    (among_none 1 j before x.schedule.betas (λ k s e.
    (let within : k < length before = slice_get_within before k s e in
    h k 0 s x (get_before before (x ∷ rest) k within ∙ e) refl (omega arith))))
    (clash_none (j + 1) (before ++ x ∷ []) rest (λ i m s t e f l.
    (let whole : slice_get (before ++ (x ∷ rest)) i ≡ Some s = ap (λ xs. slice_get xs i) (sym (append_assoc before (x ∷ []) rest)) ∙ e in
    h i (suc m) s t whole f (omega (arith, length-append before (x ∷ []))))))

apart_is_free : (statements : List Statement) → AreApart statements → first_clash 1 [] statements ≡ None
apart_is_free statements apart =
    clash_none 1 [] statements (λ i m s t e f l.
    (let other : suc i ≢ suc m = λ q. omega arith in
    let back : suc m ≢ suc i = λ q. omega arith in
    no_clash s.schedule.betas t.schedule.betas (apart (suc i) (suc m) s t e f other) (apart (suc m) (suc i) t s f e back)))

-- ---- the whole

few_arrays : (scop : ScopData) → length (arrays_of scop) ≤ 4096 → nat_lt 4096 (array_count scop.arrays) ≡ false
few_arrays scop h = by scop.arrays h
  where
    by : (arrays : Option (List (ℤ × List ℕ))) → length (elim arrays as (λ _. List (ℤ × List ℕ)) [ None ↦ [] | Some xs ↦ xs ]) ≤ 4096 → nat_lt 4096 (array_count arrays) ≡ false
    by None g = not_above 4096 0 (omega arith)
    by (Some arrays) g = not_above 4096 (length arrays) g

whole_kept : (S : ScopData) → KeepsLimits S → whole_limit (pieces_of S) ≡ None
whole_kept S keeps =
    let count = length-map S.statements (statement_pieces S.context.shape.parameters) in
    none_if _ _ _ (ap (λ m. nat_lt 1024 m) count ∙ not_above 1024 (length S.statements) keeps.statements)
    (none_if _ _ _ (not_above 16 S.context.shape.parameters keeps.parameters)
    (none_if _ _ _ (not_above 256 (length S.context.rows) keeps.rows)
    (none_if _ _ _ (few_arrays S keeps.arrays) refl)))

pub data_reads_back : AssemblableDataReadsBack
data_reads_back S is =
    let p = S.context.shape.parameters in
    let fit : AllFit p S.statements = all_fit p S.statements is.shapes.statements is.limits.each is.texts.statements in
    let same : solved_statements 1 (map (statement_pieces p) S.statements) ≡ S.statements = same_all p 1 S.statements fit in
    let whole : List Statement → ScopData
    = λ statements. record { language = S.language; context = S.context; parameters = S.parameters; statements = statements; arrays = S.arrays; extensions = S.extensions } in
    record {
      printable = record {
        language = is.texts.language;
        context = is.shapes.context;
        names = is.texts.names;
        name_count = is.texts.name_count;
        shapes = shapes_all p S.statements fit;
        statements = texts_all p S.statements fit;
        arrays = is.texts.arrays;
        extensions = is.texts.extensions;
      };
      unrefused = none_or _ _ (none_or _ _ (whole_kept S is.limits) (none_or _ _ (limits_all p 1 S.statements fit) (solved_all p 1 S.statements fit)))
          (ap (λ statements. first_clash 1 [] statements) same ∙ apart_is_free S.statements is.apart);
      same = ap whole same;
    }

-- ---- and back

texts_back : (p : ℕ) (statements : List Statement) → All (IsPrintableStatement p) (map (statement_pieces p) statements) → All StatementHasTexts statements
texts_back p [] all = All-nil StatementHasTexts
texts_back p (s ∷ statements) all =
    let own = All-head (IsPrintableStatement p) (statement_pieces p s) (map (statement_pieces p) statements) all in
    All-cons StatementHasTexts s statements (record { body = own.body; extensions = own.extensions })
    (texts_back p statements (All-tail (IsPrintableStatement p) (statement_pieces p s) (map (statement_pieces p) statements) all))

pub scops_are_assemblable : ValidScopsAreAssemblable
scops_are_assemblable S v =
    let a = v.assembled in
    let back : ReadBack S = pieces_read_back a.pieces S a.printable a.accepted a.is_theirs v in
    record {
      shapes = scops_are_shaped S v;
      limits = keeps_limits S v;
      texts = record {
        language = back.printable.language;
        names = back.printable.names;
        name_count = back.printable.name_count;
        statements = texts_back S.context.shape.parameters S.statements back.printable.statements;
        arrays = back.printable.arrays;
        extensions = back.printable.extensions;
      };
      apart = (valid_schedules S v).apart;
    }
