-- The turns of a region: each execution of an assignment, in the order in which C runs them.
use Rattle.std.proofs.Common.{◌≡◌, ◌⊎◌, inl, inr, ℕ, ◌+◌, List, [], ◌∷◌, ◌++◌, length, map, Bool, true, false, cond, refl, sym, subst, arith, ℤ}
use Rattle.std.specs.Prelude.{flat_map}
use Rattle.scop_core.specs.Sequences.{In}
use Rattle.clan_extract.specs.Regions.{Expression, Comparison, Condition, Node, For, If, Block, Assign, Nodes, NoNodes, Then}
use Rattle.clan_extract.specs.Execution.{Binding, Setting, value_of, truth_of, loop_values}
use Rattle.clan_extract.specs.Placements.{Head, Placed, in_loop, in_test, placed, placed_all, children, children_of_all}
use Rattle.clan_extract.proofs.Members.{in_left, in_right, in_append, in_map, of_map, in_flat, of_flat, Numbered, numbered_left, numbered_right, numbered_append, numbered_map, of_numbered_map}
use Rattle.clan_extract.proofs.Reaching.{running, Reached}

-- one execution of an assignment: its number, the assignment with what stands round it, and the values of the loops round it
pub record Turn : Type 0 where
  pub number : ℕ
  pub placed : Placed
  pub values : List ℤ

abbrev pub turn : ℕ → Placed → List ℤ → Turn
turn k p x = record { number = k; placed = p; values = x }

abbrev pub turn_in_loop : ℕ → Head → ℤ → Turn → Turn
turn_in_loop beta head v t = record { number = t.number; placed = in_loop beta head t.placed; values = v ∷ t.values }

abbrev pub turn_in_test : Bool → Condition → Turn → Turn
turn_in_test truth c t = record t { placed = in_test truth c t.placed }

abbrev pub head_of : List ℕ → Expression → Comparison → Expression → ℤ → Head
head_of name start comparison bound step = record { name = name; start = start; comparison = comparison; bound = bound; step = step }

-- the turns of a statement inside running loops; its children are counted on from one number, its assignments from another one
abbrev mutual
  pub trace : Setting → List Binding → ℕ → ℕ → Node → List Turn
  trace setting loops from k (For name start comparison bound step body) =
      flat_map (λ v. map (turn_in_loop from (head_of name start comparison bound step) v) (trace_all setting (loops ++ running name v ∷ []) 0 k body))
      (loop_values comparison (value_of setting loops start) (value_of setting loops bound) step)
  trace setting loops from k (If condition then_nodes else_nodes) =
      cond (truth_of setting loops condition)
      (map (turn_in_test true condition) (trace_all setting loops from k then_nodes))
      (map (turn_in_test false condition) (trace_all setting loops (from + children_of_all then_nodes) (k + length (placed_all from then_nodes)) else_nodes))
  trace setting loops from k (Block nodes) = trace_all setting loops from k nodes
  trace setting loops from k (Assign a) = turn k (record { betas = from ∷ []; rounds = []; assignment = a }) [] ∷ []

  pub trace_all : Setting → List Binding → ℕ → ℕ → Nodes → List Turn
  trace_all setting loops from k NoNodes = []
  trace_all setting loops from k (Then first rest) =
      trace setting loops from k first ++ trace_all setting loops (from + children first) (k + length (placed from first)) rest

length_map : {X Y : Type 0} (f : X → Y) (xs : List X) → length (map f xs) ≡ length xs
length_map f [] = refl
length_map f (x ∷ xs) = omega (arith, length_map f xs)

-- a turn's assignment stands at its number, and is reached at its values
abbrev pub Found : Setting → List Binding → ℕ → List Placed → Turn → Type 0
Found setting loops k ps t = Numbered k ps t.number t.placed × Reached setting loops t.placed.rounds t.values

module _ (setting : Setting) where
  found_left : (loops : List Binding) (k : ℕ) (ps qs : List Placed) (t : Turn) → Found setting loops k ps t → Found setting loops k (ps ++ qs) t
  found_left loops k ps qs t h = (numbered_left t.number t.placed k ps qs h.0, h.1)

  found_right : (loops : List Binding) (k : ℕ) (ps qs : List Placed) (t : Turn) → Found setting loops (k + length ps) qs t → Found setting loops k (ps ++ qs) t
  found_right loops k ps qs t h = (numbered_right t.number t.placed k ps qs h.0, h.1)

  abbrev pub then_turns : List Binding → ℕ → ℕ → Nodes → List Turn
  then_turns loops from k then_nodes = trace_all setting loops from k then_nodes

  abbrev pub else_turns : List Binding → ℕ → ℕ → Nodes → Nodes → List Turn
  else_turns loops from k then_nodes else_nodes = trace_all setting loops (from + children_of_all then_nodes) (k + length (placed_all from then_nodes)) else_nodes

  -- turns are found
  mutual
    pub only : (s : Node) (loops : List Binding) (from k : ℕ) (t : Turn) → In t (trace setting loops from k s) → Found setting loops k (placed from s) t
    only (For name start comparison bound step body) loops from k t i =
        let head : Head = head_of name start comparison bound step in
        let r = of_flat (λ v. map (turn_in_loop from head v) (trace_all setting (loops ++ running name v ∷ []) 0 k body)) t (loop_values comparison (value_of setting loops start) (value_of setting loops bound) step) i in
        let v : ℤ = r.0 in
        let u = of_map (turn_in_loop from head v) t (trace_all setting (loops ++ running name v ∷ []) 0 k body) r.2 in
        let f = only_all body (loops ++ running name v ∷ []) 0 k u.0 u.1 in
        subst (λ w. Found setting loops k (map (in_loop from head) (placed_all 0 body)) w) u.2
        (numbered_map (in_loop from head) k (placed_all 0 body) u.0.number u.0.placed f.0, (r.1, f.1))
    only (If condition then_nodes else_nodes) loops from k t i =
        by (truth_of setting loops condition) refl i (λ u j. only_all then_nodes loops from k u j) (λ u j. only_all else_nodes loops (from + children_of_all then_nodes) (k + length (placed_all from then_nodes)) u j)
      where
        by : (b : Bool) → truth_of setting loops condition ≡ b → In t (cond b (map (turn_in_test true condition) (then_turns loops from k then_nodes)) (map (turn_in_test false condition) (else_turns loops from k then_nodes else_nodes)))
            → ((u : Turn) → In u (then_turns loops from k then_nodes) → Found setting loops k (placed_all from then_nodes) u)
            → ((u : Turn) → In u (else_turns loops from k then_nodes else_nodes) → Found setting loops (k + length (placed_all from then_nodes)) (placed_all (from + children_of_all then_nodes) else_nodes) u)
            → Found setting loops k (map (in_test true condition) (placed_all from then_nodes) ++ map (in_test false condition) (placed_all (from + children_of_all then_nodes) else_nodes)) t
        by true e i f g =
            let u = of_map (turn_in_test true condition) t (then_turns loops from k then_nodes) i in
            let found = f u.0 u.1 in
            found_left loops k (map (in_test true condition) (placed_all from then_nodes)) (map (in_test false condition) (placed_all (from + children_of_all then_nodes) else_nodes)) t
            (subst (λ w. Found setting loops k (map (in_test true condition) (placed_all from then_nodes)) w) u.2
            (numbered_map (in_test true condition) k (placed_all from then_nodes) u.0.number u.0.placed found.0, (e, found.1)))
        by false e i f g =
            let u = of_map (turn_in_test false condition) t (else_turns loops from k then_nodes else_nodes) i in
            let found = g u.0 u.1 in
            let place : ℕ = k + length (map (in_test true condition) (placed_all from then_nodes)) in
            let same : k + length (placed_all from then_nodes) ≡ place = omega (arith, length_map (in_test true condition) (placed_all from then_nodes)) in
            let ps : List Placed = placed_all (from + children_of_all then_nodes) else_nodes in
            found_right loops k (map (in_test true condition) (placed_all from then_nodes)) (map (in_test false condition) ps) t
            (subst (λ w. Found setting loops place (map (in_test false condition) ps) w) u.2
            (numbered_map (in_test false condition) place ps u.0.number u.0.placed (subst (λ m. Numbered m ps u.0.number u.0.placed) same found.0), (e, found.1)))
    only (Block nodes) loops from k t i = only_all nodes loops from k t i
    only (Assign a) loops from k t (inl e) =
        subst (λ w. Found setting loops k (record { betas = from ∷ []; rounds = []; assignment = a } ∷ []) w) e (inl (refl, refl), tt)
    only (Assign a) loops from k t (inr i) = absurd i

    pub only_all : (nodes : Nodes) (loops : List Binding) (from k : ℕ) (t : Turn) → In t (trace_all setting loops from k nodes) → Found setting loops k (placed_all from nodes) t
    only_all NoNodes loops from k t i = absurd i
    only_all (Then first rest) loops from k t i =
        by (in_append t (trace setting loops from k first) (trace_all setting loops (from + children first) (k + length (placed from first)) rest) i)
        (λ j. only first loops from k t j) (λ j. only_all rest loops (from + children first) (k + length (placed from first)) t j)
      where
        by : In t (trace setting loops from k first) ⊎ In t (trace_all setting loops (from + children first) (k + length (placed from first)) rest)
            → (In t (trace setting loops from k first) → Found setting loops k (placed from first) t)
            → (In t (trace_all setting loops (from + children first) (k + length (placed from first)) rest) → Found setting loops (k + length (placed from first)) (placed_all (from + children first) rest) t)
            → Found setting loops k (placed from first ++ placed_all (from + children first) rest) t
        by (inl j) f g = found_left loops k (placed from first) (placed_all (from + children first) rest) t (f j)
        by (inr j) f g = found_right loops k (placed from first) (placed_all (from + children first) rest) t (g j)

  -- what is found is a turn
  abbrev Comes : List Binding → ℕ → List Placed → List Turn → Type 0
  Comes loops k ps ts = (j : ℕ) (p : Placed) (x : List ℤ) → Numbered k ps j p → Reached setting loops p.rounds x → In (turn j p x) ts

  mutual
    pub each : (s : Node) (loops : List Binding) (from k : ℕ) → Comes loops k (placed from s) (trace setting loops from k s)
    each (For name start comparison bound step body) loops from k j p x n r =
        let q = of_numbered_map (in_loop from (head_of name start comparison bound step)) k (placed_all 0 body) j p n in
        subst (λ p. Reached setting loops p.rounds x → In (turn j p x) (trace setting loops from k (For name start comparison bound step body))) q.2
        (by x q.0 (λ v y s. each_all body (loops ++ running name v ∷ []) 0 k j q.0 y q.1 s)) r
      where
        by : (x : List ℤ) (q : Placed) → ((v : ℤ) (y : List ℤ) → Reached setting (loops ++ running name v ∷ []) q.rounds y → In (turn j q y) (trace_all setting (loops ++ running name v ∷ []) 0 k body))
            → Reached setting loops (in_loop from (head_of name start comparison bound step) q).rounds x
            → In (turn j (in_loop from (head_of name start comparison bound step) q) x) (trace setting loops from k (For name start comparison bound step body))
        by [] q rest h = absurd h
        by (v ∷ y) q rest h =
            let head : Head = head_of name start comparison bound step in
            in_flat (λ v. map (turn_in_loop from head v) (trace_all setting (loops ++ running name v ∷ []) 0 k body)) v (turn j (in_loop from head q) (v ∷ y))
            (loop_values comparison (value_of setting loops start) (value_of setting loops bound) step) h.0
            (in_map (turn_in_loop from head v) (turn j q y) (trace_all setting (loops ++ running name v ∷ []) 0 k body) (rest v y h.1))
    each (If condition then_nodes else_nodes) loops from k j p x n r =
        by (numbered_append j p k (map (in_test true condition) (placed_all from then_nodes)) (map (in_test false condition) (placed_all (from + children_of_all then_nodes) else_nodes)) n)
        (each_all then_nodes loops from k) (each_all else_nodes loops (from + children_of_all then_nodes) (k + length (placed_all from then_nodes)))
      where
        chosen : (truth : Bool) (q : Placed) → truth_of setting loops condition ≡ truth → In (turn j (in_test truth condition q) x) (cond truth (map (turn_in_test true condition) (then_turns loops from k then_nodes)) (map (turn_in_test false condition) (else_turns loops from k then_nodes else_nodes)))
            → In (turn j (in_test truth condition q) x) (cond (truth_of setting loops condition) (map (turn_in_test true condition) (then_turns loops from k then_nodes)) (map (turn_in_test false condition) (else_turns loops from k then_nodes else_nodes)))
        chosen truth q e i = subst (λ b. In (turn j (in_test truth condition q) x) (cond b (map (turn_in_test true condition) (then_turns loops from k then_nodes)) (map (turn_in_test false condition) (else_turns loops from k then_nodes else_nodes)))) (sym e) i

        by : Numbered k (map (in_test true condition) (placed_all from then_nodes)) j p
            ⊎ Numbered (k + length (map (in_test true condition) (placed_all from then_nodes))) (map (in_test false condition) (placed_all (from + children_of_all then_nodes) else_nodes)) j p
            → Comes loops k (placed_all from then_nodes) (then_turns loops from k then_nodes)
            → Comes loops (k + length (placed_all from then_nodes)) (placed_all (from + children_of_all then_nodes) else_nodes) (else_turns loops from k then_nodes else_nodes)
            → In (turn j p x) (cond (truth_of setting loops condition) (map (turn_in_test true condition) (then_turns loops from k then_nodes)) (map (turn_in_test false condition) (else_turns loops from k then_nodes else_nodes)))
        by (inl m) f g =
            let q = of_numbered_map (in_test true condition) k (placed_all from then_nodes) j p m in
            subst (λ p. Reached setting loops p.rounds x → In (turn j p x) (cond (truth_of setting loops condition) (map (turn_in_test true condition) (then_turns loops from k then_nodes)) (map (turn_in_test false condition) (else_turns loops from k then_nodes else_nodes)))) q.2
            (λ h. chosen true q.0 h.0 (in_map (turn_in_test true condition) (turn j q.0 x) (then_turns loops from k then_nodes) (f j q.0 x q.1 h.1))) r
        by (inr m) f g =
            let place : ℕ = k + length (map (in_test true condition) (placed_all from then_nodes)) in
            let same : place ≡ k + length (placed_all from then_nodes) = omega (arith, length_map (in_test true condition) (placed_all from then_nodes)) in
            let ps : List Placed = placed_all (from + children_of_all then_nodes) else_nodes in
            let q = of_numbered_map (in_test false condition) place ps j p m in
            subst (λ p. Reached setting loops p.rounds x → In (turn j p x) (cond (truth_of setting loops condition) (map (turn_in_test true condition) (then_turns loops from k then_nodes)) (map (turn_in_test false condition) (else_turns loops from k then_nodes else_nodes)))) q.2
            (λ h. chosen false q.0 h.0 (in_map (turn_in_test false condition) (turn j q.0 x) (else_turns loops from k then_nodes else_nodes) (g j q.0 x (subst (λ m. Numbered m ps j q.0) same q.1) h.1))) r
    each (Block nodes) loops from k j p x n r = each_all nodes loops from k j p x n r
    each (Assign a) loops from k j p x (inl e) r =
        subst (λ m. In (turn j p x) (turn m (record { betas = from ∷ []; rounds = []; assignment = a }) [] ∷ [])) (sym e.0)
        (subst (λ p. Reached setting loops p.rounds x → In (turn j p x) (turn j (record { betas = from ∷ []; rounds = []; assignment = a }) [] ∷ [])) e.1 (by x) r)
      where
        by : (x : List ℤ) → Reached setting loops [] x → In (turn j (record { betas = from ∷ []; rounds = []; assignment = a }) x) (turn j (record { betas = from ∷ []; rounds = []; assignment = a }) [] ∷ [])
        by [] h = inl refl
        by (v ∷ x) h = absurd h
    each (Assign a) loops from k j p x (inr n) r = absurd n

    pub each_all : (nodes : Nodes) (loops : List Binding) (from k : ℕ) → Comes loops k (placed_all from nodes) (trace_all setting loops from k nodes)
    each_all NoNodes loops from k j p x n r = absurd n
    each_all (Then first rest) loops from k j p x n r =
        by (numbered_append j p k (placed from first) (placed_all (from + children first) rest) n) (each first loops from k) (each_all rest loops (from + children first) (k + length (placed from first)))
      where
        by : Numbered k (placed from first) j p ⊎ Numbered (k + length (placed from first)) (placed_all (from + children first) rest) j p
            → Comes loops k (placed from first) (trace setting loops from k first)
            → Comes loops (k + length (placed from first)) (placed_all (from + children first) rest) (trace_all setting loops (from + children first) (k + length (placed from first)) rest)
            → In (turn j p x) (trace setting loops from k first ++ trace_all setting loops (from + children first) (k + length (placed from first)) rest)
        by (inl m) f g = in_left (turn j p x) (trace setting loops from k first) (trace_all setting loops (from + children first) (k + length (placed from first)) rest) (f j p x m r)
        by (inr m) f g = in_right (turn j p x) (trace setting loops from k first) (trace_all setting loops (from + children first) (k + length (placed from first)) rest) (g j p x m r)
