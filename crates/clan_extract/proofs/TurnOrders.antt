-- Each turn of a region has its stamp before those of all later turns.
use Rattle.std.proofs.Common.{◌≡◌, ◌⊎◌, inl, inr, ℕ, ◌+◌, ◌≤◌, List, [], ◌∷◌, ◌++◌, length, map, Bool, true, false, ◌&&◌, cond, refl, sym, ◌∙◌, ap, subst, arith, ℤ, pos, negsuc, ◌+ℤ◌, ◌*ℤ◌, ◌≤ℤ◌, ◌<ℤ◌}
use Rattle.std.specs.Prelude.{flat_map, int_le, nat_eq, unsigned_abs}
use Rattle.std.proofs.lemmas.Int.{ints}
use Rattle.row_core.proofs.Ring.{mul_add_z}
use Rattle.scop_core.specs.Order.{Before}
use Rattle.scop_core.specs.Sequences.{In}
use Rattle.scop_core.specs.Meaning.{interleaved}
use Rattle.clan_extract.specs.Regions.{Comparison, IsLess, IsLessOrEqual, IsGreater, IsGreaterOrEqual, IsEqual, IsUnequal, Node, For, If, Block, Assign, Nodes, NoNodes, Then}
use Rattle.clan_extract.specs.Execution.{Binding, Setting, value_of, truth_of, compare, loop_values, AsLongAs, Approaches}
use Rattle.clan_extract.specs.Forms.{is_affine}
use Rattle.clan_extract.specs.Placements.{Head, Placed, placed, placed_all, one_if_any, children, children_of_all, direction, directions}
use Rattle.clan_extract.specs.Scops.{is_lower_bound, is_upper_bound, has_bounds, is_head, is_condition, is_affine_node, are_affine_nodes}
use Rattle.clan_extract.proofs.Loops.{loops_run}
use Rattle.clan_extract.proofs.Forms.{both_true}
use Rattle.clan_extract.proofs.Members.{in_append, of_map, of_flat, Numbered}
use Rattle.clan_extract.proofs.Reaching.{running}
use Rattle.clan_extract.proofs.Traces.{Turn, turn_in_loop, turn_in_test, head_of, trace, trace_all, then_turns, else_turns, only_all}

-- each member is related to each later one
abbrev pub Pairwise : {X : Type 0} → (X → X → Type 0) → List X → Type 0
Pairwise R [] = Unit {0}
Pairwise R (x ∷ xs) = ((y : _) → In y xs → R x y) × Pairwise R xs

pub pairwise_append : {X : Type 0} (R : X → X → Type 0) (xs ys : List X) → Pairwise R xs → Pairwise R ys → ((x y : X) → In x xs → In y ys → R x y) → Pairwise R (xs ++ ys)
pairwise_append R [] ys h k r = k
pairwise_append R (x ∷ xs) ys h k r = (λ y i. by y (in_append y xs ys i), pairwise_append R xs ys h.1 k (λ a b i j. r a b (inr i) j))
  where
    by : (y : _) → In y xs ⊎ In y ys → R x y
    by y (inl i) = h.0 y i
    by y (inr i) = r x y (inl refl) i

pub pairwise_map : {X Y : Type 0} (R : X → X → Type 0) (S : Y → Y → Type 0) (f : X → Y) (xs : List X) → ((a b : X) → R a b → S (f a) (f b)) → Pairwise R xs → Pairwise S (map f xs)
pairwise_map R S f [] h k = tt
pairwise_map R S f (x ∷ xs) h k = (λ y i. (let r = of_map f y xs i in subst (λ z. S (f x) z) r.2 (h x r.0 (k.0 r.0 r.1))), pairwise_map R S f xs h k.1)

pub pairwise_flat : {X Y : Type 0} (Q : X → X → Type 0) (R : Y → Y → Type 0) (f : X → List Y) (xs : List X) → ((x : X) → Pairwise R (f x))
    → ((v w : X) → Q v w → (a b : Y) → In a (f v) → In b (f w) → R a b) → Pairwise Q xs → Pairwise R (flat_map f xs)
pairwise_flat Q R f [] each across h = tt
pairwise_flat Q R f (x ∷ xs) each across h =
    pairwise_append R (f x) (flat_map f xs) (each x) (pairwise_flat Q R f xs each across h.1)
    (λ a b i j. (let r = of_flat f b xs j in across x r.0 (h.0 r.0 r.1) a b i r.2))

-- values times the directions of their loops
abbrev pub signed : List ℤ → List ℤ → List ℤ
signed [] x = []
signed (d ∷ ds) [] = []
signed (d ∷ ds) (v ∷ x) = (d *ℤ v) ∷ signed ds x

-- the stamp of an assignment at these values
abbrev pub stamp_at : Placed → List ℤ → List ℤ
stamp_at p x = interleaved (map (λ b. pos b) p.betas) (signed (directions p.rounds) x)

abbrev pub stamp_of_turn : Turn → List ℤ
stamp_of_turn t = stamp_at t.placed t.values

abbrev pub Precede : Turn → Turn → Type 0
Precede t u = Before (stamp_of_turn t) (stamp_of_turn u)

-- the stamp begins with a number from a up to b
abbrev Within : ℕ → ℕ → List ℤ → Type 0
Within a b [] = ⊥
Within a b (z ∷ p) = (pos a ≤ℤ z) × (z <ℤ pos b)

widen : (a b c d : ℕ) (p : List ℤ) → c ≤ a → b ≤ d → Within a b p → Within c d p
widen a b c d [] l m h = absurd h
widen a b c d (z ∷ p) l m h = let low = h.0 in let high = h.1 in (omega (arith, ints), omega (arith, ints))

before_by_first : (a b c : ℕ) (p q : List ℤ) → Within a b p → Within b c q → Before p q
before_by_first a b c [] q h k = absurd h
before_by_first a b c (y ∷ p) [] h k = absurd k
before_by_first a b c (y ∷ p) (z ∷ q) h k = let high = h.1 in let low = k.0 in inl (omega (arith, ints))

some_one : (k : ℕ) (ps : List Placed) (j : ℕ) (p : Placed) → Numbered k ps j p → one_if_any ps ≡ 1
some_one k [] j p h = absurd h
some_one k (q ∷ ps) j p h = refl

-- the values of a loop rise in its direction
module _ (d s : ℤ) (h : pos 1 ≤ℤ (d *ℤ s)) (test : ℤ → Bool) where
  not_below : (v : ℤ) (xs : List ℤ) → AsLongAs test s v xs → (w : ℤ) → In w xs → (d *ℤ v) ≤ℤ (d *ℤ w)
  not_below v [] a w i = absurd i
  not_below v (x ∷ xs) a w (inl e) = let same : v ≡ w = sym a.0 ∙ e in omega (arith, ints, ap (λ z. d *ℤ z) same)
  not_below v (x ∷ xs) a w (inr i) = let rest = not_below (v +ℤ s) xs a.2 w i in omega (arith, ints, mul_add_z d v s)

  rise : (v : ℤ) (xs : List ℤ) → AsLongAs test s v xs → Pairwise (λ v w. (d *ℤ v) <ℤ (d *ℤ w)) xs
  rise v [] a = tt
  rise v (x ∷ xs) a = (λ w i. (let rest = not_below (v +ℤ s) xs a.2 w i in omega (arith, ints, mul_add_z d v s, ap (λ z. d *ℤ z) a.0)), rise (v +ℤ s) xs a.2)

approaches : (h : Head) (comparison : Comparison) → has_bounds h comparison ≡ true → Approaches comparison h.step × (pos 1 ≤ℤ (direction comparison *ℤ h.step))
approaches h IsLess e = let t = (both_true (is_lower_bound h.start && is_upper_bound h.bound) (int_le (pos 1) h.step) e).1 in (omega (arith, ints), omega (arith, ints))
approaches h IsLessOrEqual e = let t = (both_true (is_lower_bound h.start && is_upper_bound h.bound) (int_le (pos 1) h.step) e).1 in (omega (arith, ints), omega (arith, ints))
approaches h IsGreater e = let t = (both_true (is_upper_bound h.start && is_lower_bound h.bound) (int_le h.step (negsuc 0)) e).1 in (omega (arith, ints), omega (arith, ints))
approaches h IsGreaterOrEqual e = let t = (both_true (is_upper_bound h.start && is_lower_bound h.bound) (int_le h.step (negsuc 0)) e).1 in (omega (arith, ints), omega (arith, ints))
approaches h IsEqual e = absurd cc
approaches h IsUnequal e = absurd cc

values_rise : (h : Head) (a b : ℤ) → is_head h ≡ true → Pairwise (λ v w. (direction h.comparison *ℤ v) <ℤ (direction h.comparison *ℤ w)) (loop_values h.comparison a b h.step)
values_rise h a b e =
    let t = approaches h h.comparison (both_true (has_bounds h h.comparison) (cond (nat_eq (unsigned_abs h.step) 1) true (is_affine h.start)) e).0 in
    rise (direction h.comparison) h.step t.1 (λ v. compare h.comparison v b) a (loop_values h.comparison a b h.step) (loops_run h.comparison h.step t.0 a b)

module _ (setting : Setting) where
  -- the first numbers of stamps are those of the children
  mutual
    within : (s : Node) (loops : List Binding) (from k : ℕ) (t : Turn) → In t (trace setting loops from k s) → Within from (from + children s) (stamp_of_turn t)
    within (For name start comparison bound step body) loops from k t i =
        let head : Head = head_of name start comparison bound step in
        let r = of_flat (λ v. map (turn_in_loop from head v) (trace_all setting (loops ++ running name v ∷ []) 0 k body)) t (loop_values comparison (value_of setting loops start) (value_of setting loops bound) step) i in
        let u = of_map (turn_in_loop from head r.0) t (trace_all setting (loops ++ running name r.0 ∷ []) 0 k body) r.2 in
        let one : one_if_any (placed_all 0 body) ≡ 1 = some_one k (placed_all 0 body) u.0.number u.0.placed (only_all setting body (loops ++ running name r.0 ∷ []) 0 k u.0 u.1).0 in
        subst (λ w. Within from (from + one_if_any (placed_all 0 body)) (stamp_of_turn w)) u.2 (omega (arith, ints), omega (arith, ints, one))
    within (If condition then_nodes else_nodes) loops from k t i =
        by (truth_of setting loops condition) i (λ u j. within_all then_nodes loops from k u j) (λ u j. within_all else_nodes loops (from + children_of_all then_nodes) (k + length (placed_all from then_nodes)) u j)
      where
        by : (b : Bool) → In t (cond b (map (turn_in_test true condition) (then_turns setting loops from k then_nodes)) (map (turn_in_test false condition) (else_turns setting loops from k then_nodes else_nodes)))
            → ((u : Turn) → In u (then_turns setting loops from k then_nodes) → Within from (from + children_of_all then_nodes) (stamp_of_turn u))
            → ((u : Turn) → In u (else_turns setting loops from k then_nodes else_nodes) → Within (from + children_of_all then_nodes) (from + children_of_all then_nodes + children_of_all else_nodes) (stamp_of_turn u))
            → Within from (from + (children_of_all then_nodes + children_of_all else_nodes)) (stamp_of_turn t)
        by true i f g =
            let u = of_map (turn_in_test true condition) t (then_turns setting loops from k then_nodes) i in
            subst (λ w. Within from (from + (children_of_all then_nodes + children_of_all else_nodes)) (stamp_of_turn w)) u.2
            (widen from (from + children_of_all then_nodes) from (from + (children_of_all then_nodes + children_of_all else_nodes)) (stamp_of_turn u.0) (omega arith) (omega arith) (f u.0 u.1))
        by false i f g =
            let u = of_map (turn_in_test false condition) t (else_turns setting loops from k then_nodes else_nodes) i in
            subst (λ w. Within from (from + (children_of_all then_nodes + children_of_all else_nodes)) (stamp_of_turn w)) u.2
            (widen (from + children_of_all then_nodes) (from + children_of_all then_nodes + children_of_all else_nodes) from (from + (children_of_all then_nodes + children_of_all else_nodes)) (stamp_of_turn u.0) (omega arith) (omega arith) (g u.0 u.1))
    within (Block nodes) loops from k t i = within_all nodes loops from k t i
    within (Assign a) loops from k t (inl e) = subst (λ w. Within from (from + 1) (stamp_of_turn w)) e (omega (arith, ints), omega (arith, ints))
    within (Assign a) loops from k t (inr i) = absurd i

    within_all : (nodes : Nodes) (loops : List Binding) (from k : ℕ) (t : Turn) → In t (trace_all setting loops from k nodes) → Within from (from + children_of_all nodes) (stamp_of_turn t)
    within_all NoNodes loops from k t i = absurd i
    within_all (Then first rest) loops from k t i =
        by (in_append t (trace setting loops from k first) (trace_all setting loops (from + children first) (k + length (placed from first)) rest) i)
        (λ j. within first loops from k t j) (λ j. within_all rest loops (from + children first) (k + length (placed from first)) t j)
      where
        by : In t (trace setting loops from k first) ⊎ In t (trace_all setting loops (from + children first) (k + length (placed from first)) rest)
            → (In t (trace setting loops from k first) → Within from (from + children first) (stamp_of_turn t))
            → (In t (trace_all setting loops (from + children first) (k + length (placed from first)) rest) → Within (from + children first) (from + children first + children_of_all rest) (stamp_of_turn t))
            → Within from (from + (children first + children_of_all rest)) (stamp_of_turn t)
        by (inl j) f g = widen from (from + children first) from (from + (children first + children_of_all rest)) (stamp_of_turn t) (omega arith) (omega arith) (f j)
        by (inr j) f g = widen (from + children first) (from + children first + children_of_all rest) from (from + (children first + children_of_all rest)) (stamp_of_turn t) (omega arith) (omega arith) (g j)

  -- the turns of a node, in order
  mutual
    pub ordered : (s : Node) (loops : List Binding) (from k : ℕ) → is_affine_node s ≡ true → Pairwise Precede (trace setting loops from k s)
    ordered (For name start comparison bound step body) loops from k h =
        let head : Head = head_of name start comparison bound step in
        let e = both_true (is_head head) (are_affine_nodes body) h in
        pairwise_flat (λ v w. (direction comparison *ℤ v) <ℤ (direction comparison *ℤ w)) Precede
        (λ v. map (turn_in_loop from head v) (trace_all setting (loops ++ running name v ∷ []) 0 k body))
        (loop_values comparison (value_of setting loops start) (value_of setting loops bound) step)
        (λ v. pairwise_map Precede Precede (turn_in_loop from head v) (trace_all setting (loops ++ running name v ∷ []) 0 k body) (λ t u l. inr (refl, inr (refl, l))) (ordered_all body (loops ++ running name v ∷ []) 0 k e.1))
        (λ v w l t u i j. (
        let a = of_map (turn_in_loop from head v) t (trace_all setting (loops ++ running name v ∷ []) 0 k body) i in
        let b = of_map (turn_in_loop from head w) u (trace_all setting (loops ++ running name w ∷ []) 0 k body) j in
        subst (λ z. Precede z u) a.2 (subst (λ z. Precede (turn_in_loop from head v a.0) z) b.2 (inr (refl, inl l)))))
        (values_rise head (value_of setting loops start) (value_of setting loops bound) e.0)
    ordered (If condition then_nodes else_nodes) loops from k h =
        let e = both_true (is_condition condition) (are_affine_nodes then_nodes && are_affine_nodes else_nodes) h in
        let f = both_true (are_affine_nodes then_nodes) (are_affine_nodes else_nodes) e.1 in
        by (truth_of setting loops condition) (ordered_all then_nodes loops from k f.0) (ordered_all else_nodes loops (from + children_of_all then_nodes) (k + length (placed_all from then_nodes)) f.1)
      where
        by : (b : Bool) → Pairwise Precede (then_turns setting loops from k then_nodes) → Pairwise Precede (else_turns setting loops from k then_nodes else_nodes)
            → Pairwise Precede (cond b (map (turn_in_test true condition) (then_turns setting loops from k then_nodes)) (map (turn_in_test false condition) (else_turns setting loops from k then_nodes else_nodes)))
        by true f g = pairwise_map Precede Precede (turn_in_test true condition) (then_turns setting loops from k then_nodes) (λ t u l. l) f
        by false f g = pairwise_map Precede Precede (turn_in_test false condition) (else_turns setting loops from k then_nodes else_nodes) (λ t u l. l) g
    ordered (Block nodes) loops from k h = ordered_all nodes loops from k h
    ordered (Assign a) loops from k h = (λ y i. absurd i, tt)

    pub ordered_all : (nodes : Nodes) (loops : List Binding) (from k : ℕ) → are_affine_nodes nodes ≡ true → Pairwise Precede (trace_all setting loops from k nodes)
    ordered_all NoNodes loops from k h = tt
    ordered_all (Then first rest) loops from k h =
        let e = both_true (is_affine_node first) (are_affine_nodes rest) h in
        pairwise_append Precede (trace setting loops from k first) (trace_all setting loops (from + children first) (k + length (placed from first)) rest)
        (ordered first loops from k e.0) (ordered_all rest loops (from + children first) (k + length (placed from first)) e.1)
        (λ t u i j. before_by_first from (from + children first) (from + children first + children_of_all rest) (stamp_of_turn t) (stamp_of_turn u)
        (within first loops from k t i) (within_all rest loops (from + children first) (k + length (placed from first)) u j))
