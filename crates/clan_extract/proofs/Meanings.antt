-- The SCoP of a region has a run whose final memory is the memory after the region.
use Rattle.std.proofs.Common.{◌≡◌, ◌⊎◌, inl, inr, ℕ, zero, suc, ◌+◌, List, [], ◌∷◌, length, map, Bool, true, false, ◌&&◌, refl, sym, ◌∙◌, ap, subst, arith, Some, ℤ, pos, ◌*ℤ◌}
use Rattle.std.specs.Prelude.{slice_get, IsSomeAnd}
use Rattle.std.proofs.lemmas.Int.{ints}
use Rattle.row_core.specs.Rows.{dot}
use Rattle.scop_core.specs.Order.{Before}
use Rattle.scop_core.specs.Sequences.{In, Rising}
use Rattle.scop_core.specs.Memory.{Memory, initial, step_of}
use Rattle.scop_core.specs.Meaning.{Instance, IsInstance, InDomain, statement_at, affine_at, interleaved, stamp_of, stamp_in, stamp, event_in, step}
use Rattle.scop_core.specs.SolvedRows.{zeros}
use Rattle.scop_core.specs.ScopData.{ScopData}
use Rattle.scop_data.specs.declared.statements.Statement.{Statement}
use Rattle.clan_extract.specs.Regions.{Node, For, If, Block, Assign, Nodes, NoNodes, Then}
use Rattle.clan_extract.specs.Execution.{Binding, Setting}
use Rattle.clan_extract.specs.Placements.{Head, Round, Loop, Test, Placed, in_loop, in_test, placed, placed_all, children, children_of_all, loop_names, directions}
use Rattle.clan_extract.specs.Scops.{diagonal, statement, scop_of, is_head, is_condition, are_affine, have_affine_subscripts, is_affine_node, are_affine_nodes, ScopMeansItsRegion, ScopHasItsNames}
use Rattle.clan_extract.specs.Translation.{RunsAs}
use Rattle.clan_extract.proofs.Forms.{both_true, names, values, dot_zeros}
use Rattle.clan_extract.proofs.Members.{in_append, in_map, of_map, Numbered, numbered_in}
use Rattle.clan_extract.proofs.Reaching.{reached_length, are_rounds, domain_is}
use Rattle.clan_extract.proofs.Traces.{Turn, turn, head_of, trace_all, only_all, each_all}
use Rattle.clan_extract.proofs.TurnOrders.{Pairwise, Precede, signed, stamp_at, stamp_of_turn, ordered_all}
use Rattle.clan_extract.proofs.TurnSteps.{bindings, effect, fold_map, runs_all, event_of, step_is}

-- the levels have the signed values
diagonal_rows : (rows : List (List ℤ)) (v : ℤ) (x : List ℤ) → map (λ row. dot row (v ∷ x)) (map (λ row. pos 0 ∷ row) rows) ≡ map (λ row. dot row x) rows
diagonal_rows [] v x = refl
diagonal_rows (row ∷ rows) v x =
    let first : dot (pos 0 ∷ row) (v ∷ x) ≡ dot row x = omega (arith, ints) in
    ap (λ z. z ∷ map (λ row. dot row (v ∷ x)) (map (λ row. pos 0 ∷ row) rows)) first ∙ ap (λ zs. dot row x ∷ zs) (diagonal_rows rows v x)

diagonal_is : (ds x : List ℤ) → length x ≡ length ds → map (λ row. dot row x) (diagonal ds) ≡ signed ds x
diagonal_is [] x e = refl
diagonal_is (d ∷ ds) [] e = absurd (omega (arith, e))
diagonal_is (d ∷ ds) (v ∷ x) e =
    let first : dot (d ∷ zeros (length ds)) (v ∷ x) ≡ d *ℤ v = omega (arith, ints, dot_zeros (length ds) x) in
    ap (λ z. z ∷ map (λ row. dot row (v ∷ x)) (map (λ row. pos 0 ∷ row) (diagonal ds))) first
    ∙ ap (λ zs. (d *ℤ v) ∷ zs) (diagonal_rows (diagonal ds) v x ∙ diagonal_is ds x (omega (arith, e)))

levels_have : (k : ℕ) (rows : List (List ℤ)) (x n : List ℤ)
    → map (λ level. affine_at level x [] n) (map (λ row. record { iterators = row; floors = []; parameters = zeros k; constant = pos 0 }) rows) ≡ map (λ row. dot row x) rows
levels_have k [] x n = refl
levels_have k (row ∷ rows) x n =
    let first : affine_at (record { iterators = row; floors = []; parameters = zeros k; constant = pos 0 }) x [] n ≡ dot row x = omega (arith, ints, dot_zeros k n) in
    ap (λ z. z ∷ map (λ level. affine_at level x [] n) (map (λ row. record { iterators = row; floors = []; parameters = zeros k; constant = pos 0 }) rows)) first
    ∙ ap (λ zs. dot row x ∷ zs) (levels_have k rows x n)

pub length_directions : (rounds : List Round) → length (directions rounds) ≡ length (loop_names rounds)
length_directions [] = refl
length_directions (Loop h ∷ rounds) = omega (arith, length_directions rounds)
length_directions (Test truth c ∷ rounds) = length_directions rounds

stamp_is : (parameters arrays : List (List ℕ)) (p : Placed) (x n : List ℤ) → length x ≡ length (loop_names p.rounds) → stamp_of (statement parameters arrays p).schedule x n ≡ stamp_at p x
stamp_is parameters arrays p x n e =
    ap (λ vs. interleaved (map (λ b. pos b) p.betas) vs)
    (levels_have (length parameters) (diagonal (directions p.rounds)) x n ∙ diagonal_is (directions p.rounds) x (e ∙ sym (length_directions p.rounds)))

-- the loops that run at these values have their names and the values
names_are : (rounds : List Round) (x : List ℤ) → length x ≡ length (loop_names rounds) → names (bindings rounds x) ≡ loop_names rounds
names_are [] x e = refl
names_are (Loop h ∷ rounds) [] e = absurd (omega (arith, e))
names_are (Loop h ∷ rounds) (v ∷ x) e = ap (λ l. h.name ∷ l) (names_are rounds x (omega (arith, e)))
names_are (Test truth c ∷ rounds) x e = names_are rounds x e

values_are : (rounds : List Round) (x : List ℤ) → length x ≡ length (loop_names rounds) → values (bindings rounds x) ≡ x
values_are [] [] e = refl
values_are [] (v ∷ x) e = absurd (omega (arith, e))
values_are (Loop h ∷ rounds) [] e = absurd (omega (arith, e))
values_are (Loop h ∷ rounds) (v ∷ x) e = ap (λ l. v ∷ l) (values_are rounds x (omega (arith, e)))
values_are (Test truth c ∷ rounds) x e = values_are rounds x e

-- what stands round an assignment of an affine region, and its subscripts, can be translated
record CanBe (p : Placed) : Type 0 where
  pub rounds : are_rounds p.rounds ≡ true
  pub subscripts : (are_affine p.assignment.target.subscripts && have_affine_subscripts p.assignment.right) ≡ true

and_true : (s t : Bool) → s ≡ true → t ≡ true → (s && t) ≡ true
and_true s t e f = ap (λ b. b && t) e ∙ f

mutual
  can : (s : Node) (from : ℕ) (p : Placed) → is_affine_node s ≡ true → In p (placed from s) → CanBe p
  can (For name start comparison bound step body) from p h i =
      let head : Head = head_of name start comparison bound step in
      let t = both_true (is_head head) (are_affine_nodes body) h in
      let q = of_map (in_loop from head) p (placed_all 0 body) i in
      let c = can_all body 0 q.0 t.1 q.1 in
      subst (λ p. CanBe p) q.2 (record { rounds = and_true (is_head head) (are_rounds q.0.rounds) t.0 c.rounds; subscripts = c.subscripts })
  can (If condition then_nodes else_nodes) from p h i =
      let t = both_true (is_condition condition) (are_affine_nodes then_nodes && are_affine_nodes else_nodes) h in
      let u = both_true (are_affine_nodes then_nodes) (are_affine_nodes else_nodes) t.1 in
      by (in_append p (map (in_test true condition) (placed_all from then_nodes)) (map (in_test false condition) (placed_all (from + children_of_all then_nodes) else_nodes)) i) t.0
      (λ q j. can_all then_nodes from q u.0 j) (λ q j. can_all else_nodes (from + children_of_all then_nodes) q u.1 j)
    where
      under : (truth : Bool) (ps : List Placed) → is_condition condition ≡ true → ((q : Placed) → In q ps → CanBe q) → In p (map (in_test truth condition) ps) → CanBe p
      under truth ps e f j =
          let q = of_map (in_test truth condition) p ps j in
          let c = f q.0 q.1 in
          subst (λ p. CanBe p) q.2 (record { rounds = and_true (is_condition condition) (are_rounds q.0.rounds) e c.rounds; subscripts = c.subscripts })

      by : In p (map (in_test true condition) (placed_all from then_nodes)) ⊎ In p (map (in_test false condition) (placed_all (from + children_of_all then_nodes) else_nodes))
          → is_condition condition ≡ true → ((q : Placed) → In q (placed_all from then_nodes) → CanBe q)
          → ((q : Placed) → In q (placed_all (from + children_of_all then_nodes) else_nodes) → CanBe q) → CanBe p
      by (inl j) e f g = under true (placed_all from then_nodes) e f j
      by (inr j) e f g = under false (placed_all (from + children_of_all then_nodes) else_nodes) e g j
  can (Block nodes) from p h i = can_all nodes from p h i
  can (Assign a) from p h (inl e) = subst (λ p. CanBe p) e (record { rounds = refl; subscripts = h })
  can (Assign a) from p h (inr i) = absurd i

  can_all : (nodes : Nodes) (from : ℕ) (p : Placed) → are_affine_nodes nodes ≡ true → In p (placed_all from nodes) → CanBe p
  can_all NoNodes from p h i = absurd i
  can_all (Then first rest) from p h i =
      let t = both_true (is_affine_node first) (are_affine_nodes rest) h in
      by (in_append p (placed from first) (placed_all (from + children first) rest) i) (λ j. can first from p t.0 j) (λ j. can_all rest (from + children first) p t.1 j)
    where
      by : In p (placed from first) ⊎ In p (placed_all (from + children first) rest) → (In p (placed from first) → CanBe p) → (In p (placed_all (from + children first) rest) → CanBe p) → CanBe p
      by (inl j) f g = f j
      by (inr j) f g = g j

-- the statement at the number of an assignment, and back
module _ {X Y : Type 0} (f : X → Y) where
  at_number : (k : ℕ) (xs : List X) (j : ℕ) (x : X) → Numbered k xs j x → (i : ℕ) × (j ≡ i + k) × (slice_get (map f xs) i ≡ Some (f x))
  at_number k [] j x h = absurd h
  at_number k (y ∷ xs) j x (inl e) = (0, omega (arith, e.0), ap (λ z. Some (f z)) e.1)
  at_number k (y ∷ xs) j x (inr h) = let r = at_number (k + 1) xs j x h in let i : ℕ = r.0 in (suc i, omega (arith, r.1), r.2)

  of_number : (Q : Y → Type 0) (k : ℕ) (xs : List X) (i : ℕ) → IsSomeAnd (slice_get (map f xs) i) Q → (x : X) × Numbered k xs (i + k) x × Q (f x)
  of_number Q k [] i h = absurd h
  of_number Q k (x ∷ xs) zero h = (x, inl (omega arith, refl), h)
  of_number Q k (x ∷ xs) (suc i) h =
      let r = of_number Q (k + 1) xs i h in
      (r.0, inr (subst (λ j. Numbered (k + 1) xs j r.0) (omega arith) r.1), r.2)

abbrev instance_of : Turn → Instance
instance_of t = record { statement = t.number; values = t.values }

-- turns in order have rising stamps
rising : (stamp_of' : Instance → List ℤ) (ts : List Turn) → Pairwise Precede ts → ((t : Turn) → In t ts → stamp_of' (instance_of t) ≡ stamp_of_turn t) → Rising stamp_of' (map instance_of ts)
rising s [] h e = tt
rising s (t ∷ []) h e = tt
rising s (t ∷ (u ∷ ts)) h e =
    let P : List ℤ → Type 0 = λ p. Before p (s (instance_of u)) in
    let Q : List ℤ → Type 0 = λ q. Before (stamp_of_turn t) q in
    (subst P (sym (e t (inl refl))) (subst Q (sym (e u (inr (inl refl)))) (h.0 u (inl refl))), rising s (u ∷ ts) h.1 (λ v i. e v (inr i)))

module _ (setting : Setting) (region : Nodes) (ok : are_affine_nodes region ≡ true) (size : length setting.values ≡ length setting.parameters) where
  abbrev S : ScopData
  S = scop_of setting.parameters setting.arrays region

  abbrev n : List ℤ
  n = setting.values

  abbrev assignments : List Placed
  assignments = placed_all 0 region

  abbrev turns : List Turn
  turns = trace_all setting [] 0 1 region

  abbrev as_statement : Placed → Statement
  as_statement p = statement setting.parameters setting.arrays p

  can_be : (j : ℕ) (p : Placed) → Numbered 1 assignments j p → CanBe p
  can_be j p h = can_all region 0 p ok (numbered_in j p 1 assignments h)

  number_is : (j : ℕ) (p : Placed) → Numbered 1 assignments j p → statement_at S.statements j ≡ Some (as_statement p)
  number_is j p h =
      let r = at_number as_statement 1 assignments j p h in
      let i : ℕ = r.0 in
      let same : suc i ≡ j = omega (arith, r.1) in
      subst (λ k. statement_at S.statements k ≡ Some (as_statement p)) same r.2

  turn_stamp : (t : Turn) → In t turns → stamp S n (instance_of t) ≡ stamp_of_turn t
  turn_stamp t i =
      let f = only_all setting region [] 0 1 t i in
      ap (λ s. stamp_in s t.values n) (number_is t.number t.placed f.0)
      ∙ stamp_is setting.parameters setting.arrays t.placed t.values n (reached_length setting [] t.placed.rounds t.values f.1)

  turn_step : (t : Turn) (m : Memory) → In t turns → step S n (instance_of t) m ≡ effect setting [] t m
  turn_step t m i =
      let f = only_all setting region [] 0 1 t i in
      let p : Placed = t.placed in
      let e = reached_length setting [] p.rounds t.values f.1 in
      let loops : List Binding = bindings p.rounds t.values in
      ap (λ s. step_of (event_in s t.values n) m) (number_is t.number p f.0)
      ∙ ap (λ ns. step_of (event_of setting loops p.assignment ns t.values) m) (sym (names_are p.rounds t.values e))
      ∙ ap (λ ys. step_of (event_of setting loops p.assignment (names loops) ys) m) (sym (values_are p.rounds t.values e))
      ∙ step_is setting loops p.assignment (can_be t.number p f.0).subscripts m

  is_turn : (k : ℕ) (x : List ℤ) → IsInstance S n (record { statement = k; values = x }) → In (record { statement = k; values = x }) (map instance_of turns)
  is_turn zero x h = absurd h
  is_turn (suc i) x h =
      let r = of_number as_statement (λ s. InDomain s x n) 1 assignments i h in
      let same : i + 1 ≡ suc i = omega arith in
      let stands : Numbered 1 assignments (suc i) r.0 = subst (λ k. Numbered 1 assignments k r.0) same r.1 in
      let reached = (domain_is setting size r.0 x (can_be (suc i) r.0 stands).rounds).0 r.2 in
      in_map instance_of (turn (suc i) r.0 x) turns (each_all setting region [] 0 1 (suc i) r.0 x stands reached)

  is_instance : (t : Turn) → In t turns → IsInstance S n (instance_of t)
  is_instance t i =
      let f = only_all setting region [] 0 1 t i in
      let Q : _ → Type 0 = λ s. IsSomeAnd s (λ s. InDomain s t.values n) in
      subst Q (sym (number_is t.number t.placed f.0)) ((domain_is setting size t.placed t.values (can_be t.number t.placed f.0).rounds).1 f.1)

  runs_as : RunsAs S setting region
  runs_as = record {
    run = map instance_of turns;
    is_run = record {
      all = λ a i. is_turn a.statement a.values i;
      only = λ a i. (let r = of_map instance_of a turns i in subst (λ b. IsInstance S n b) r.2 (is_instance r.0 r.1));
      rising = rising (stamp S n) turns (ordered_all setting region [] 0 1 ok) turn_stamp;
    };
    same_memory = λ c. ap (λ m. m c) (fold_map (step S n) instance_of (effect setting []) turns turn_step initial ∙ runs_all setting region [] 0 1 initial);
  }

pub scop_means : ScopMeansItsRegion
scop_means setting region ok size = runs_as setting region ok size

pub scop_names : ScopHasItsNames
scop_names parameters arrays region = record { parameters_are = refl; arrays_are = refl }
