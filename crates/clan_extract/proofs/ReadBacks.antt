-- The SCoP of a region is what its own pieces give.
use Rattle.std.proofs.Common.{◌≡◌, ◌⊎◌, inl, inr, ℕ, ◌+◌, ◌*◌, ◌≤◌, List, [], ◌∷◌, ◌++◌, length, map, Bool, true, false, not, refl, sym, ◌∙◌, ap, subst, arith, ℤ, pos, ◌+ℤ◌, ◌≤ℤ◌, ◌<ℤ◌, None}
use Rattle.std.specs.Prelude.{All, IfSome, nat_lt}
use Rattle.std.specs.Ordering.{int_eq}
use Rattle.std.proofs.lemmas.Int.{ints}
use Rattle.std.proofs.lemmas.List.{length-map}
use Rattle.std.proofs.lemmas.List.Elements.{All-nil, All-cons, All-map}
use Rattle.std.proofs.lemmas.Bool.Decides.{Decides-int_eq}
use Rattle.scop_core.specs.Sequences.{In}
use Rattle.scop_data.specs.declared.schedules.Schedule.{Schedule}
use Rattle.scop_data.specs.declared.accesses.Access.{Access}
use Rattle.scop_data.specs.declared.accesses.AccessKind.TheVariants.{Read, Write}
use Rattle.scop_core.specs.declared.limits.PartCount.TheVariants.{LocalCount, RowCount}
use Rattle.scop_data.specs.declared.statements.Statement.{Statement}
use Rattle.scop_data.specs.declared.raw_pieces.RawStatement.{RawStatement}
use Rattle.scop_core.specs.ScopData.{ScopData}
use Rattle.scop_core.specs.SolvedRows.{schedule_part}
use Rattle.scop_core.specs.Assembly.{some_above, iterators_of, statement_limit, first_limit, is_solved, first_unsolved, solved_statement, solved_statements, solved_accesses, first_clash, HasInputs, HasShapes}
use Rattle.scop_core.specs.SolvedForm.{is_scattering, schedule_of}
use Rattle.scop_core.specs.Printable.{are_names, is_name, has_no_array, are_arrays, has_part, IsDomainPart, IsPrintableStatement}
use Rattle.scop_core.specs.ReadBack.{IsSolvedSchedule, IsSolvedAccess, access_piece, statement_pieces}
use Rattle.schedule_forms.proofs.ReadBackLists.{and_true}
use Rattle.scop_core.proofs.ReadBackPieces.{or_none, none_or, if_none, none_if, or_false, not_above, at_most, schedule_length, Small, pieces_outputs, pieces_locals, pieces_rows, pieces_parts, pieces_solved, pieces_same, none_passed, none_unless}
use Rattle.schedule_forms.proofs.ReadBackSolved.{schedule_reads_back}
use Rattle.clan_extract.specs.Regions.{Reference, Node, For, If, Block, Assign, Nodes, NoNodes, Then, numbered, names_if_any}
use Rattle.clan_extract.specs.Placements.{Placed, in_loop, in_test, placed, placed_all, children, children_of_all, loop_names, directions}
use Rattle.clan_extract.specs.Constraints.{parts_of}
use Rattle.clan_extract.specs.Scops.{part, diagonal, access, references_read, statement, scop_of}
use Rattle.clan_extract.specs.Refusals.{subscripts_above, statement_refusal, statements_refusal}
use Rattle.clan_extract.specs.ReadBack.{IsPrintablePlaced, ScopReadsBack}
use Rattle.clan_extract.proofs.Forms.{both_true}
use Rattle.clan_extract.proofs.Turns.{le_true}
use Rattle.clan_extract.proofs.Members.{in_append, of_map}
use Rattle.clan_extract.proofs.Traces.{head_of}
use Rattle.clan_extract.proofs.Meanings.{length_directions}
use Rattle.clan_extract.proofs.BetaClashes.{no_clash}
use Rattle.clan_extract.proofs.StatementPieces.{subscript_sizes, level_sizes, length_diagonal, diagonal_lengths, some_parts, has_parts, few_outputs, small, positive}

-- an assignment has one beta more than loops round it
abbrev OneMore : Placed → Type 0
OneMore p = length p.betas ≡ length (loop_names p.rounds) + 1

mutual
  one_more : (s : Node) (from : ℕ) (p : Placed) → In p (placed from s) → OneMore p
  one_more (For name start comparison bound step body) from p i =
      let q = of_map (in_loop from (head_of name start comparison bound step)) p (placed_all 0 body) i in
      let one : OneMore q.0 = one_more_all body 0 q.0 q.1 in
      subst (λ p. OneMore p) q.2 (omega (arith, one))
  one_more (If condition then_nodes else_nodes) from p i =
      by (in_append p (map (in_test true condition) (placed_all from then_nodes)) (map (in_test false condition) (placed_all (from + children_of_all then_nodes) else_nodes)) i)
      (λ q j. one_more_all then_nodes from q j) (λ q j. one_more_all else_nodes (from + children_of_all then_nodes) q j)
    where
      by : In p (map (in_test true condition) (placed_all from then_nodes)) ⊎ In p (map (in_test false condition) (placed_all (from + children_of_all then_nodes) else_nodes))
          → ((q : Placed) → In q (placed_all from then_nodes) → OneMore q) → ((q : Placed) → In q (placed_all (from + children_of_all then_nodes) else_nodes) → OneMore q) → OneMore p
      by (inl j) f g = let q = of_map (in_test true condition) p (placed_all from then_nodes) j in subst (λ p. OneMore p) q.2 (f q.0 q.1)
      by (inr j) f g = let q = of_map (in_test false condition) p (placed_all (from + children_of_all then_nodes) else_nodes) j in subst (λ p. OneMore p) q.2 (g q.0 q.1)
  one_more (Block nodes) from p i = one_more_all nodes from p i
  one_more (Assign a) from p (inl e) = subst (λ p. OneMore p) e refl
  one_more (Assign a) from p (inr i) = absurd i

  one_more_all : (nodes : Nodes) (from : ℕ) (p : Placed) → In p (placed_all from nodes) → OneMore p
  one_more_all NoNodes from p i = absurd i
  one_more_all (Then first rest) from p i =
      by (in_append p (placed from first) (placed_all (from + children first) rest) i) (λ j. one_more first from p j) (λ j. one_more_all rest (from + children first) p j)
    where
      by : In p (placed from first) ⊎ In p (placed_all (from + children first) rest) → (In p (placed from first) → OneMore p) → (In p (placed_all (from + children first) rest) → OneMore p) → OneMore p
      by (inl j) f g = f j
      by (inr j) f g = g j

-- the statement of one assignment, number j
module _ (parameters arrays : List (List ℕ)) (few : length parameters ≤ 16) (some : 1 ≤ length arrays) (p : Placed) (printable : IsPrintablePlaced p) (betas : OneMore p)
    (j : ℕ) (none : statement_refusal parameters arrays j p ≡ None) where
  abbrev m : ℕ
  m = length (loop_names p.rounds)

  abbrev k : ℕ
  k = length parameters

  abbrev s : Statement
  s = statement parameters arrays p

  abbrev raw : RawStatement
  raw = statement_pieces k s

  record Numbers : Type 0 where
    pub accesses_few : nat_lt 256 (length s.accesses) ≡ false
    pub subscripts_few : subscripts_above s.accesses ≡ false
    pub parts_few : nat_lt 64 (length s.domain) ≡ false
    pub rows_few : some_above RowCount 256 s.domain ≡ false
    pub locals_few : some_above LocalCount 24 s.domain ≡ false

  numbers : Numbers
  numbers =
      let a = if_none _ _ _ none in
      let b = if_none _ _ _ a.1 in
      let c = if_none _ _ _ b.1 in
      let d = if_none _ _ _ c.1 in
      let e = if_none _ _ _ d.1 in
      record { accesses_few = a.0; subscripts_few = b.0; parts_few = c.0; rows_few = d.0; locals_few = e.0 }

  small_accesses : Small s.accesses
  small_accesses = small s.accesses numbers.subscripts_few

  levels_are : length s.schedule.levels ≡ m
  levels_are =
      length-map (diagonal (directions p.rounds)) (λ row. record { iterators = row; floors = []; parameters = _; constant = pos 0 })
      ∙ length_diagonal (directions p.rounds) ∙ length_directions p.rounds

  betas_are : length s.schedule.betas ≡ length s.schedule.levels + 1
  betas_are = length-map p.betas (λ b. pos b) ∙ omega (arith, betas, levels_are)

  solved_schedule : IsSolvedSchedule m k s.schedule
  solved_schedule = record {
    relation = record {
      levels = level_sizes k m (diagonal (directions p.rounds)) (λ row i. diagonal_lengths (directions p.rounds) row i ∙ length_directions p.rounds);
      floors = All-nil _;
      betas = betas_are;
      limits = record { outputs = omega (arith, levels_are, printable.depth); inputs = omega (arith, printable.depth); locals = omega arith; parameters = omega (arith, few) };
      pairs = λ i f l. absurd (omega arith);
    };
    sizes = All-nil _;
    earlier = λ i f l. absurd (omega arith);
  }

  solved_access : (kind : _) (r : Reference) → length (access parameters arrays (loop_names p.rounds) kind r).subscripts ≤ 12 → IsSolvedAccess m k (access parameters arrays (loop_names p.rounds) kind r)
  solved_access kind r h = record {
    relation = record {
      subscripts = subscript_sizes parameters (loop_names p.rounds) r.subscripts;
      limits = record {
        outputs = omega (arith, h);
        inputs = omega (arith, printable.depth);
        locals = omega arith;
        parameters = omega (arith, few);
      };
    };
    identifier = positive arrays r.name some;
  }

  solved_accesses_of : (rs : List Reference) (target : Reference) → Small (map (access parameters arrays (loop_names p.rounds) Read) rs ++ access parameters arrays (loop_names p.rounds) Write target ∷ [])
      → All (IsSolvedAccess m k) (map (access parameters arrays (loop_names p.rounds) Read) rs ++ access parameters arrays (loop_names p.rounds) Write target ∷ [])
  solved_accesses_of [] target h = All-cons (IsSolvedAccess m k) (access parameters arrays (loop_names p.rounds) Write target) [] (solved_access Write target h.0) (All-nil (IsSolvedAccess m k))
  solved_accesses_of (r ∷ rs) target h =
      All-cons (IsSolvedAccess m k) (access parameters arrays (loop_names p.rounds) Read r) _ (solved_access Read r h.0) (solved_accesses_of rs target h.1)

  all_accesses : All (IsSolvedAccess m k) s.accesses
  all_accesses = solved_accesses_of (references_read parameters (loop_names p.rounds) p.assignment) p.assignment.target small_accesses

  schedule_back : (is_scattering (schedule_part m k s.schedule) ≡ true) × (schedule_of (schedule_part m k s.schedule) ≡ s.schedule)
  schedule_back = schedule_reads_back m k s.schedule solved_schedule

  iterators_are : iterators_of raw ≡ m
  iterators_are = (has_parts m k (parts_of parameters [] p.rounds) (some_parts parameters [] p.rounds)).1

  pub shapes : HasShapes k raw
  shapes = record {
    scattering = All-cons (HasInputs (iterators_of raw) k) _ [] (record { inputs_are = sym iterators_are; parameters_are = refl }) (All-nil (HasInputs (iterators_of raw) k));
    accesses = All-map (λ access. All (HasInputs (iterators_of raw) k) access.1) (access_piece m k) s.accesses
        (λ i d l. All-cons (HasInputs (iterators_of raw) k) _ [] (record { inputs_are = sym iterators_are; parameters_are = refl }) (All-nil (HasInputs (iterators_of raw) k)));
    body = sym iterators_are;
  }

  pub can_be_printed : IsPrintableStatement k raw
  can_be_printed = record {
    domain = All-map (IsDomainPart (iterators_of raw) k) (part m k) (parts_of parameters [] p.rounds) (λ i d l. record { outputs = sym iterators_are; inputs = refl; parameters_are = refl });
    some_domain = (has_parts m k (parts_of parameters [] p.rounds) (some_parts parameters [] p.rounds)).0;
    some_scattering = refl;
    some_accesses = All-map (λ access. has_part access.1 ≡ true) (access_piece m k) s.accesses (λ i d l. refl);
    body = printable.body;
    extensions = refl;
  }

  pub solved : is_solved raw ≡ true
  solved = and_true _ _ schedule_back.0 (pieces_solved m k s.accesses all_accesses)

  pub same : (i : ℕ) → solved_statement i raw ≡ s
  same i =
      let made : Schedule → List Access → Statement = λ schedule accesses. record { domain = s.domain; schedule = schedule; accesses = accesses; body = s.body; extensions = [] } in
      ap (λ t. made t (solved_accesses (map (access_piece m k) s.accesses))) schedule_back.1
      ∙ ap (λ a. made s.schedule a) (pieces_same m k s.accesses all_accesses)

  pub no_limit : (i : ℕ) → statement_limit i raw ≡ None
  no_limit i = none_passed i raw (record {
    iterators = few_outputs m k (parts_of parameters [] p.rounds) printable.depth;
    levels = or_false _ _ (not_above 49 (2 * length s.schedule.levels + 1) (omega (arith, levels_are, printable.depth))) refl;
    locals = or_false _ _ numbers.locals_few (or_false _ _ (or_false _ _ (not_above 24 0 (omega arith)) refl) (pieces_locals m k s.accesses));
    rows = or_false _ _ numbers.rows_few
        (or_false _ _ (or_false _ _ (not_above 256 (length (schedule_part m k s.schedule).rows) (omega (arith, levels_are, printable.depth, schedule_length m k s.schedule betas_are))) refl)
        (pieces_rows m k s.accesses small_accesses));
    parts = or_false _ _ numbers.parts_few (or_false _ _ (not_above 64 1 (omega arith)) (pieces_parts m k s.accesses));
    accesses = ap (λ c. nat_lt 256 c) (length-map s.accesses (access_piece m k)) ∙ numbers.accesses_few;
    subscripts = pieces_outputs m k s.accesses small_accesses;
  })

-- arrays are numbered apart
apart_from : (z k : ℤ) (xs : List (List ℕ)) → z <ℤ k → has_no_array z (numbered k xs) ≡ true
apart_from z k [] l = refl
apart_from z k (x ∷ xs) l = and_true _ _ (by (int_eq z k) refl) (apart_from z (k +ℤ pos 1) xs (omega (arith, ints)))
  where
    by : (t : Bool) → int_eq z k ≡ t → not (int_eq z k) ≡ true
    by true e = let same = (Decides-int_eq z k).0 e in absurd (omega (arith, ints))
    by false e = ap not e

arrays_apart : (k : ℤ) (xs : List (List ℕ)) → pos 1 ≤ℤ k → are_names xs ≡ true → are_arrays (numbered k xs) ≡ true
arrays_apart k [] l h = refl
arrays_apart k (x ∷ xs) l h =
    let t = both_true (is_name x) (are_names xs) h in
    and_true _ _ (and_true _ _ (and_true _ _ (le_true (pos 1) k l) t.0) (apart_from k (k +ℤ pos 1) xs (omega (arith, ints))))
    (arrays_apart (k +ℤ pos 1) xs (omega (arith, ints)) t.1)

length_numbered : (k : ℤ) (xs : List (List ℕ)) → length (numbered k xs) ≡ length xs
length_numbered k [] = refl
length_numbered k (x ∷ xs) = omega (arith, length_numbered (k +ℤ pos 1) xs)

names_printable : (parameters : List (List ℕ)) → are_names parameters ≡ true → IfSome (names_if_any parameters) (λ names. are_names names ≡ true)
names_printable [] h = tt
names_printable (x ∷ xs) h = h

names_counted : (parameters : List (List ℕ)) → IfSome (names_if_any parameters) (λ names. length names ≡ length parameters)
names_counted [] = tt
names_counted (x ∷ xs) = refl

-- all statements, the first one with number i
module _ (parameters arrays : List (List ℕ)) (few : length parameters ≤ 16) where
  abbrev raw_of : Placed → RawStatement
  raw_of p = statement_pieces (length parameters) (statement parameters arrays p)

  abbrev raws : List Placed → List RawStatement
  raws ps = map (statement_pieces (length parameters)) (map (statement parameters arrays) ps)

  -- what is asked of each of them
  record Ready (p : Placed) : Type 0 where
    pub some : 1 ≤ length arrays
    pub printable : IsPrintablePlaced p
    pub betas : OneMore p

  abbrev AllReady : List Placed → Type 0
  AllReady ps = (p : Placed) → In p ps → Ready p

  limits_none : (i : ℕ) (ps : List Placed) → AllReady ps → statements_refusal parameters arrays i ps ≡ None → first_limit i (raws ps) ≡ None
  limits_none i [] h none = refl
  limits_none i (p ∷ ps) h none =
      let r = h p (inl refl) in
      let t = or_none _ _ none in
      none_or _ _ (no_limit parameters arrays few r.some p r.printable r.betas i t.0 i) (limits_none (i + 1) ps (λ q j. h q (inr j)) t.1)

  all_solved : (i : ℕ) (ps : List Placed) → AllReady ps → statements_refusal parameters arrays i ps ≡ None → first_unsolved i (raws ps) ≡ None
  all_solved i [] h none = refl
  all_solved i (p ∷ ps) h none =
      let r = h p (inl refl) in
      let t = or_none _ _ none in
      none_unless _ _ _ (solved parameters arrays few r.some p r.printable r.betas i t.0) (all_solved (i + 1) ps (λ q j. h q (inr j)) t.1)

  all_same : (i : ℕ) (ps : List Placed) → AllReady ps → statements_refusal parameters arrays i ps ≡ None → solved_statements i (raws ps) ≡ map (statement parameters arrays) ps
  all_same i [] h none = refl
  all_same i (p ∷ ps) h none =
      let r = h p (inl refl) in
      let t = or_none _ _ none in
      ap (λ s. s ∷ solved_statements (i + 1) (raws ps)) (same parameters arrays few r.some p r.printable r.betas i t.0 i)
      ∙ ap (λ rest. statement parameters arrays p ∷ rest) (all_same (i + 1) ps (λ q j. h q (inr j)) t.1)

  all_shapes : (i : ℕ) (ps : List Placed) → AllReady ps → statements_refusal parameters arrays i ps ≡ None → All (HasShapes (length parameters)) (raws ps)
  all_shapes i [] h none = All-nil (HasShapes (length parameters))
  all_shapes i (p ∷ ps) h none =
      let r = h p (inl refl) in
      let t = or_none _ _ none in
      All-cons (HasShapes (length parameters)) (raw_of p) (raws ps) (shapes parameters arrays few r.some p r.printable r.betas i t.0) (all_shapes (i + 1) ps (λ q j. h q (inr j)) t.1)

  all_printable : (i : ℕ) (ps : List Placed) → AllReady ps → statements_refusal parameters arrays i ps ≡ None → All (IsPrintableStatement (length parameters)) (raws ps)
  all_printable i [] h none = All-nil (IsPrintableStatement (length parameters))
  all_printable i (p ∷ ps) h none =
      let r = h p (inl refl) in
      let t = or_none _ _ none in
      All-cons (IsPrintableStatement (length parameters)) (raw_of p) (raws ps) (can_be_printed parameters arrays few r.some p r.printable r.betas i t.0) (all_printable (i + 1) ps (λ q j. h q (inr j)) t.1)

pub scop_reads_back : ScopReadsBack
scop_reads_back parameters arrays region h none =
    let ps : List Placed = placed_all 0 region in
    let t = or_none _ _ none in
    let a = if_none _ _ _ t.0 in
    let b = if_none _ _ _ a.1 in
    let c = if_none _ _ _ b.1 in
    let few : length parameters ≤ 16 = at_most 16 (length parameters) a.0 in
    let ready : (p : Placed) → In p ps → Ready parameters arrays few p = λ p i. record { some = h.some_array p i; printable = h.assignments p i; betas = one_more_all region 0 p i } in
    let S : ScopData = scop_of parameters arrays region in
    let count : length (map (statement_pieces (length parameters)) S.statements) ≡ length ps =
    length-map S.statements (statement_pieces (length parameters)) ∙ length-map ps (statement parameters arrays) in
    let statements_same = all_same parameters arrays few 1 ps ready t.1 in
    let whole : List Statement → ScopData = λ statements. record S { statements = statements } in
    record {
      printable = record {
        language = refl;
        context = record { outputs = refl; inputs = refl; locals = refl };
        names = names_printable parameters h.parameters_are;
        name_count = names_counted parameters;
        shapes = all_shapes parameters arrays few 1 ps ready t.1;
        statements = all_printable parameters arrays few 1 ps ready t.1;
        arrays = arrays_apart (pos 1) arrays (omega (arith, ints)) h.arrays_are;
        extensions = refl;
      };
      unrefused = none_or _ _
          (none_or _ _
          (none_if _ _ _ (ap (λ n. nat_lt 1024 n) count ∙ c.0) (none_if _ _ _ a.0
          (none_if _ _ _ (ap (λ n. nat_lt 4096 n) (length_numbered (pos 1) arrays) ∙ b.0) refl)))
          (none_or _ _ (limits_none parameters arrays few 1 ps ready t.1) (all_solved parameters arrays few 1 ps ready t.1)))
          (ap (λ statements. first_clash 1 [] statements) statements_same ∙ no_clash parameters arrays region);
      same = ap whole statements_same;
    }
