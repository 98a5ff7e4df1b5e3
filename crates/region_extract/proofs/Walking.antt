-- A walk over the parser's trees of statements, by the walks over those right below.
use Rattle.std.proofs.Common.{◌≡◌, ◌∙◌, ◌+◌, ◌<◌, ◌≤◌, inl, inr, ℕ, List, [], ◌∷◌, ◌++◌, length, get_or, drop, Bool, true, false, Some, None, Ok, refl, ap, sym, subst, arith}
use Rattle.std.specs.Prelude.{ℤ, ◌&&◌, ◌||◌}
use Rattle.std.proofs.lemmas.List.{drop_all}
use Rattle.suite_base.proofs.LineCuts.{bool_tells}
use Rattle.scop_core.proofs.Assemblies.{item_drop}
use Rattle.scop_data.specs.declared.accesses.AccessKind.TheVariants.{Write}
use Rattle.c_lexer.specs.Pieces.{bytes_of}
use Rattle.c_parser.specs.declared.tree.Assign.{Assign as AssignTree}
use Rattle.c_parser.specs.declared.tree.Branch.{Branch as BranchTree, out-Branch}
use Rattle.c_parser.specs.declared.tree.Loop.{Loop as LoopTree, out-Loop}
use Rattle.c_parser.specs.declared.tree.Node.{Node as Tree, out-Node}
use Rattle.c_parser.specs.declared.tree.Node.TheVariants as node
use Rattle.clan_extract.specs.Regions.{Assign, Assignment, Block, Comparison, Condition, Expression, For, If, Node, Nodes, NoNodes, Reference, Then, array_references}
use Rattle.clan_extract.specs.Placements.{Head}
use Rattle.clan_extract.specs.Scops.{is_condition, references_read}
use Rattle.clan_rows.specs.Layers.{LayerData, condition_layer, crossed_layers, loop_layer}
use Rattle.clan_walk.specs.declared.turns.Direction.{Direction}
use Rattle.clan_walk.specs.Laws.{assignments, assignments_in}
use Rattle.clan_walk.specs.Walk.{State, around, assigned, direction_by, entered_branch, entered_loop, is_open, left_branch, left_loop, read, referred, walked, walked_all}
use Rattle.clan_walk.proofs.Kept.{walk_keeps_all, without_end}
use Rattle.region_trees.specs.Terms.{Element, Located, Term, order_of, sum_of, value_of}
use Rattle.region_trees.specs.Statements.{Assignment as AssignmentOf, Block as BlockOf, Branch, Loop, Next, NoStatements, Statement, Statements, assignment_of, branch_of, loop_of, statement_of, statements_of, step_of}
use Rattle.region_trees.specs.Layers.{branch_is, loop_is, node_layer, other_of, statement_is}
use Rattle.region_trees.specs.Regions.{bound_of, condition_of, is_bound, is_start, is_step, limit_of, node_of, nodes_of, passed, reference_of, references_of, result_map2, start_of}
use Rattle.region_forms.specs.Bounds.{IsHeadOf, IsLoop}
use Rattle.region_extract.specs.Walks.{EntersBranch, EntersLoop, Reads, ReadsUpdated, Refers, Walks, WalksAll, asks_layer, has_assignment, have_assignment}
use Rattle.region_extract.proofs.Apart.{IsIdle, walk_apart, with_layers}
use Rattle.region_extract.proofs.Results.{both_of, one_of, passed_of}

-- ---- lists of statements

pub walks_none : (s : State) → WalksAll NoStatements s s
walks_none s ns is = let nothing : NoNodes ≡ ns = cc in ap (λ (n : Nodes). walked_all n s) nothing

pub walks_next : (x : Statement) (xs : Statements) (a b c : State) → Walks x a b → WalksAll xs b c → WalksAll (Next x xs) a c
walks_next x xs a b c p q ns is =
    let made = both_of Then (node_of x) (nodes_of xs) ns is in
    q made.right made.right_is ∙ ap (walked_all made.right) (p made.left made.left_is) ∙ ap (λ n. walked_all n a) (sym made.made)

pub walks_one : (x : Statement) (a b : State) → Walks x a b → WalksAll (Next x NoStatements) a b
walks_one x a b p = walks_next x NoStatements a b b p (walks_none b)

pub walks_block : (xs : Statements) (a b : State) → WalksAll xs a b → Walks (BlockOf xs) a b
walks_block xs a b p n is =
    let made = one_of Block (nodes_of xs) n is in
    p made.of made.of_is ∙ ap (λ n. walked n a) (sym made.made)

module _ (source : List ℕ) (xs : List Tree) (a : State) where
  -- what walks over the others from b on, walks over all of them
  abbrev pub WalksRest : ℕ → State → Type 0
  WalksRest k b = (c : State) → WalksAll (statements_of source (drop k xs)) b c → WalksAll (statements_of source xs) a c

  pub statement_walked : (k : ℕ) (x : Tree) (b c : State) → k < length xs → x ≡ get_or xs k x → WalksRest k b → Walks (statement_of source x) b c → WalksRest (k + 1) c
  statement_walked k x b c within is p q d rest =
      p d (subst (λ ys. WalksAll (statements_of source ys) b d) (sym (item_drop xs k x within is))
      (walks_next (statement_of source x) (statements_of source (drop (k + 1) xs)) b c d q rest))

  pub statements_walked : (k : ℕ) (b : State) → length xs ≤ k → WalksRest k b → WalksAll (statements_of source xs) a b
  statements_walked k b all p = p b (subst (λ ys. WalksAll (statements_of source ys) b b) (sym (drop_all k xs all)) (walks_none b))

-- ---- where no statement asks for a layer

or_left : (a b : Bool) → (a || b) ≡ false → a ≡ false
or_left false b e = refl
or_left true b e = absurd (cc)

or_right : (a b : Bool) → (a || b) ≡ false → b ≡ false
or_right false b e = e
or_right true b e = absurd (cc)

mutual
  none_assigned : (x : Statement) (n : Node) → has_assignment x ≡ false → node_of x ≡ Ok n → assignments n ≡ 0
  none_assigned (Loop name at start comparison bound step step_at body) n e is =
      let made = both_of _ (result_map2 (λ (x : Expression) (y : Expression). (x, y)) (start_of comparison step start) (limit_of comparison bound))
      (result_map2 (λ (z : ℤ) (nodes : Nodes). (z, nodes)) (passed (is_step comparison) step_at (Some step)) (nodes_of body)) n is in
      let rest = both_of (λ (z : ℤ) (nodes : Nodes). (z, nodes)) (passed (is_step comparison) step_at (Some step)) (nodes_of body) made.right made.right_is in
      let here : n ≡ For name made.left.0 comparison made.left.1 rest.left rest.right =
      made.made ∙ ap (λ (r : ℤ × Nodes). For name made.left.0 comparison made.left.1 r.0 r.1) rest.made in
      ap assignments here ∙ none_in body rest.right e rest.right_is
  none_assigned (Branch condition then_statements else_statements) n e is =
      let made = both_of (λ (x : Condition). λ (branches : Nodes × Nodes). If x branches.0 branches.1) (passed is_condition condition.at (condition_of condition.term))
      (result_map2 (λ (t : Nodes) (e : Nodes). (t, e)) (nodes_of then_statements) (nodes_of else_statements)) n is in
      let branches = both_of (λ (t : Nodes) (e : Nodes). (t, e)) (nodes_of then_statements) (nodes_of else_statements) made.right made.right_is in
      let here : n ≡ If made.left branches.left branches.right = made.made ∙ ap (λ (b : Nodes × Nodes). If made.left b.0 b.1) branches.made in
      let t : assignments_in branches.left ≡ 0 = none_in then_statements branches.left (or_left (have_assignment then_statements) (have_assignment else_statements) e) branches.left_is in
      let o : assignments_in branches.right ≡ 0 = none_in else_statements branches.right (or_right (have_assignment then_statements) (have_assignment else_statements) e) branches.right_is in
      ap assignments here ∙ omega (arith, t, o)
  none_assigned (BlockOf xs) n e is =
      let made = one_of Block (nodes_of xs) n is in
      ap assignments made.made ∙ none_in xs made.of e made.of_is
  none_assigned (AssignmentOf text target updates right) n e is = absurd (cc)

  none_in : (xs : Statements) (ns : Nodes) → have_assignment xs ≡ false → nodes_of xs ≡ Ok ns → assignments_in ns ≡ 0
  none_in NoStatements ns e is = ap assignments_in (let nothing : ns ≡ NoNodes = cc in nothing)
  none_in (Next x xs) ns e is =
      let made = both_of Then (node_of x) (nodes_of xs) ns is in
      let f : assignments made.left ≡ 0 = none_assigned x made.left (or_left (has_assignment x) (have_assignment xs) e) made.left_is in
      let r : assignments_in made.right ≡ 0 = none_in xs made.right (or_right (has_assignment x) (have_assignment xs) e) made.right_is in
      ap assignments_in made.made ∙ omega (arith, f, r)

or_same : (b : Bool) → (b || false) ≡ b
or_same true = refl
or_same false = refl

-- of a statement alone that asks for no layer
idle_alone : (x : Statement) (ns : Nodes) (s : State) → nodes_of (Next x NoStatements) ≡ Ok ns → asks_layer x s ≡ false → IsIdle (assignments_in ns) s
idle_alone x ns s is e = by (is_open s) refl
  where
    by : (t : Bool) → is_open s ≡ t → IsIdle (assignments_in ns) s
    by false closed = inl closed
    by true opened =
        let none : has_assignment x ≡ false = ap (λ t. t && has_assignment x) (sym opened) ∙ e in
        inr (none_in (Next x NoStatements) ns (or_same (has_assignment x) ∙ none) is)

-- ---- loops

-- a loop whose body is idle is walked alike with any layer
idle_loop : (name : List ℕ) (direction : Direction) (l m : LayerData) (body : Nodes) (s : State) → IsIdle (assignments_in body) s
    → left_loop (walked_all body (entered_loop name direction l s)) ≡ with_layers s.layers (left_loop (walked_all body (entered_loop name direction m s)))
idle_loop name direction l m body s idle =
    let x : LayerData = crossed_layers (around s) l in
    let inside : State = entered_loop name direction m s in
    ap left_loop (walk_apart body (s.layers ++ x ∷ []) inside idle)
    ∙ ap (λ ls. with_layers ls (left_loop (walked_all body inside))) (without_end s.layers x)

idle_branch : (l m : LayerData) (body : Nodes) (s : State) → IsIdle (assignments_in body) s
    → left_branch (walked_all body (entered_branch l s)) ≡ with_layers s.layers (left_branch (walked_all body (entered_branch m s)))
idle_branch l m body s idle =
    let x : LayerData = crossed_layers (around s) l in
    let inside : State = entered_branch m s in
    ap left_branch (walk_apart body (s.layers ++ x ∷ []) inside idle)
    ∙ ap (λ ls. with_layers ls (walked_all body inside)) (without_end s.layers x)

-- the layer is the one that is asked for, or the body is idle
loop_alike : (name : List ℕ) (direction : Direction) (l m : LayerData) (x : Statement) (body : Nodes) (s : State) → nodes_of (Next x NoStatements) ≡ Ok body
    → (asks_layer x s ≡ true → l ≡ m) → left_loop (walked_all body (entered_loop name direction l s)) ≡ left_loop (walked_all body (entered_loop name direction m s))
loop_alike name direction l m x body s is same =
    elim (bool_tells (asks_layer x s)) [
      | inl e ↦ ap (λ k. left_loop (walked_all body (entered_loop name direction k s))) (same e)
      | inr e ↦ let idle = idle_alone x body s is e in idle_loop name direction l m body s idle ∙ sym (idle_loop name direction m m body s idle)
    ]

branch_alike : (l m : LayerData) (x : Statement) (body : Nodes) (s : State) → nodes_of (Next x NoStatements) ≡ Ok body → (asks_layer x s ≡ true → l ≡ m)
    → left_branch (walked_all body (entered_branch l s)) ≡ left_branch (walked_all body (entered_branch m s))
branch_alike l m x body s is same =
    elim (bool_tells (asks_layer x s)) [
      | inl e ↦ ap (λ k. left_branch (walked_all body (entered_branch k s))) (same e)
      | inr e ↦ let idle = idle_alone x body s is e in idle_branch l m body s idle ∙ sym (idle_branch m m body s idle)
    ]

walks_loop : (name : List ℕ) (at : ℕ) (start : Located) (comparison : Comparison) (bound : Located) (step : ℤ) (step_at : ℕ) (x : Statement)
    (l : LayerData) (s a b : State) → (asks_layer x s ≡ true → IsLoop s.parameters s.loops name start comparison bound step l)
    → a ≡ entered_loop name (direction_by comparison) l s → Walks x a b
    → Walks (Loop name at start comparison bound step step_at (Next x NoStatements)) s (left_loop b)
walks_loop name at start comparison bound step step_at x l s a b layer entered inside n is =
    let body : Statements = Next x NoStatements in
    let made = both_of _ (result_map2 (λ (x : Expression) (y : Expression). (x, y)) (start_of comparison step start) (limit_of comparison bound))
    (result_map2 (λ (z : ℤ) (nodes : Nodes). (z, nodes)) (passed (is_step comparison) step_at (Some step)) (nodes_of body)) n is in
    let ends = both_of (λ (x : Expression) (y : Expression). (x, y)) (start_of comparison step start) (limit_of comparison bound) made.left made.left_is in
    let rest = both_of (λ (z : ℤ) (nodes : Nodes). (z, nodes)) (passed (is_step comparison) step_at (Some step)) (nodes_of body) made.right made.right_is in
    let first = passed_of (is_start comparison step) start.at (bound_of start.term) ends.left ends.left_is in
    let last = passed_of (is_bound comparison) bound.at (bound_of bound.term) ends.right ends.right_is in
    let stepped = passed_of (is_step comparison) step_at (Some step) rest.left rest.left_is in
    let same : step ≡ rest.left = cc in
    let head : Head = record { name = name; start = ends.left; comparison = comparison; bound = ends.right; step = step } in
    let is_head : IsHeadOf name start comparison bound step head = record {
      name_is = refl;
      comparison_is = refl;
      step_is = refl;
      start_is = first.was;
      bound_is = last.was;
      starts = first.holds;
      bounds = last.holds;
      steps = subst (λ z. is_step comparison z ≡ true) (sym same) stepped.holds;
    } in
    let here : n ≡ For name ends.left comparison ends.right step rest.right = cc in
    let wanted : LayerData = loop_layer s.parameters s.loops head in
    ap left_loop (walks_one x a b inside rest.right rest.right_is ∙ ap (walked_all rest.right) entered)
    ∙ loop_alike name (direction_by comparison) l wanted x rest.right s rest.right_is (λ asked. layer asked head is_head)
    ∙ ap (λ n. walked n s) (sym here)

pub loop_walked : (source : List ℕ) (x : LoopTree) (s a b : State) → EntersLoop source x s a → Walks (statement_of source (out-Loop x).body) a b
    → Walks (loop_of source x) s (left_loop b)
loop_walked source x s a b enters p =
    let head = out-Loop x in
    subst (λ y. Walks y s (left_loop b)) (sym (loop_is source x))
    (walks_loop (bytes_of source head.name) head.name.from (sum_of source head.start) (order_of head.rel) (sum_of source head.bound) (step_of source head.step) head.step_at
    (statement_of source head.body) enters.layer s a b enters.is_layer enters.entered p)

-- ---- branches

-- one branch
walked_branch : (truth : Bool) (t : Term) (x : Statement) (c : Condition) (body : Nodes) (s a b : State) → condition_of t ≡ Some c → is_condition c ≡ true
    → nodes_of (Next x NoStatements) ≡ Ok body → EntersBranch truth t x s a → Walks x a b
    → left_branch b ≡ left_branch (walked_all body (entered_branch (condition_layer s.parameters s.loops truth c) s))
walked_branch truth t x c body s a b was holds is enters p =
    ap left_branch (walks_one x a b p body is ∙ ap (walked_all body) enters.entered)
    ∙ branch_alike enters.layer (condition_layer s.parameters s.loops truth c) x body s is (λ asked. enters.is_layer asked c was holds)

-- a branch that nothing stands in
left_entered : (l : LayerData) (s : State) → left_branch (entered_branch l s) ≡ s
left_entered l s = ap (λ layers. with_layers layers s) (without_end s.layers (crossed_layers (around s) l))

-- behind a branch names are as before
branch_keeps : (l : LayerData) (body : Nodes) (s : State)
    → ((left_branch (walked_all body (entered_branch l s))).parameters ≡ s.parameters) × ((left_branch (walked_all body (entered_branch l s))).loops ≡ s.loops)
branch_keeps l body s = let kept = walk_keeps_all body (entered_branch l s) in (kept.parameters, kept.loops)

walks_branch : (condition : Located) (x y : Statement) (s a b c d : State) → EntersBranch true condition.term x s a → Walks x a b
    → EntersBranch false condition.term y (left_branch b) c → Walks y c d → Walks (Branch condition (Next x NoStatements) (Next y NoStatements)) s (left_branch d)
walks_branch condition x y s a b c d enters p enters_other q n is =
    let made = both_of (λ (x : Condition). λ (branches : Nodes × Nodes). If x branches.0 branches.1) (passed is_condition condition.at (condition_of condition.term))
    (result_map2 (λ (t : Nodes) (e : Nodes). (t, e)) (nodes_of (Next x NoStatements)) (nodes_of (Next y NoStatements))) n is in
    let branches = both_of (λ (t : Nodes) (e : Nodes). (t, e)) (nodes_of (Next x NoStatements)) (nodes_of (Next y NoStatements)) made.right made.right_is in
    let tested = passed_of is_condition condition.at (condition_of condition.term) made.left made.left_is in
    let here : n ≡ If made.left branches.left branches.right = made.made ∙ ap (λ (b : Nodes × Nodes). If made.left b.0 b.1) branches.made in
    let l : LayerData = condition_layer s.parameters s.loops true made.left in
    let t : State = left_branch (walked_all branches.left (entered_branch l s)) in
    let then_is : left_branch b ≡ t = walked_branch true condition.term x made.left branches.left s a b tested.was tested.holds branches.left_is enters p in
    let names = branch_keeps l branches.left s in
    walked_branch false condition.term y made.left branches.right (left_branch b) c d tested.was tested.holds branches.right_is enters_other q
    ∙ ap (λ (u : State). left_branch (walked_all branches.right (entered_branch (condition_layer u.parameters u.loops false made.left) u))) then_is
    ∙ ap (λ ps. left_branch (walked_all branches.right (entered_branch (condition_layer ps t.loops false made.left) t))) names.0
    ∙ ap (λ ls. left_branch (walked_all branches.right (entered_branch (condition_layer s.parameters ls false made.left) t))) names.1
    ∙ ap (λ n. walked n s) (sym here)

-- without `else`
walks_then : (condition : Located) (x : Statement) (s a b : State) → EntersBranch true condition.term x s a → Walks x a b
    → Walks (Branch condition (Next x NoStatements) NoStatements) s (left_branch b)
walks_then condition x s a b enters p n is =
    let made = both_of (λ (x : Condition). λ (branches : Nodes × Nodes). If x branches.0 branches.1) (passed is_condition condition.at (condition_of condition.term))
    (result_map2 (λ (t : Nodes) (e : Nodes). (t, e)) (nodes_of (Next x NoStatements)) (nodes_of NoStatements)) n is in
    let branches = both_of (λ (t : Nodes) (e : Nodes). (t, e)) (nodes_of (Next x NoStatements)) (nodes_of NoStatements) made.right made.right_is in
    let tested = passed_of is_condition condition.at (condition_of condition.term) made.left made.left_is in
    let nothing : branches.right ≡ NoNodes = let e : Ok NoNodes ≡ Ok branches.right = branches.right_is in cc in
    let here : n ≡ If made.left branches.left NoNodes =
    made.made ∙ ap (λ (b : Nodes × Nodes). If made.left b.0 b.1) branches.made ∙ ap (If made.left branches.left) nothing in
    let t : State = left_branch (walked_all branches.left (entered_branch (condition_layer s.parameters s.loops true made.left) s)) in
    walked_branch true condition.term x made.left branches.left s a b tested.was tested.holds branches.left_is enters p
    ∙ sym (left_entered (condition_layer s.parameters s.loops false made.left) t) ∙ ap (λ n. walked n s) (sym here)

pub then_walked : (source : List ℕ) (x : BranchTree) (s a b : State) → (out-Branch x).other ≡ None
    → EntersBranch true (value_of source (out-Branch x).condition).term (statement_of source (out-Branch x).then) s a
    → Walks (statement_of source (out-Branch x).then) a b → Walks (branch_of source x) s (left_branch b)
then_walked source x s a b none enters p =
    let y = out-Branch x in
    subst (λ z. Walks z s (left_branch b))
    (sym (branch_is source x ∙ ap (λ o. Branch (value_of source y.condition) (Next (statement_of source y.then) NoStatements) (other_of source o)) none))
    (walks_then (value_of source y.condition) (statement_of source y.then) s a b enters p)

pub both_walked : (source : List ℕ) (x : BranchTree) (other : Tree) (s a b c d : State) → (out-Branch x).other ≡ Some other
    → EntersBranch true (value_of source (out-Branch x).condition).term (statement_of source (out-Branch x).then) s a
    → Walks (statement_of source (out-Branch x).then) a b
    → EntersBranch false (value_of source (out-Branch x).condition).term (statement_of source other) (left_branch b) c
    → Walks (statement_of source other) c d → Walks (branch_of source x) s (left_branch d)
both_walked source x other s a b c d some enters p enters_other q =
    let y = out-Branch x in
    subst (λ z. Walks z s (left_branch d))
    (sym (branch_is source x ∙ ap (λ o. Branch (value_of source y.condition) (Next (statement_of source y.then) NoStatements) (other_of source o)) some))
    (walks_branch (value_of source y.condition) (statement_of source y.then) (statement_of source other) s a b c d enters p enters_other q)

-- ---- assignments

pub walks_assignment : (text : List ℕ) (target : Element) (updates : Bool) (right : Located) (s a b c : State) → ReadsUpdated updates target s a
    → Reads right.term a b → Refers Write target b c → Walks (AssignmentOf text target updates right) s (assigned text c)
walks_assignment text target updates right s a b c updated p q n is =
    let made = both_of (λ (t : Reference). λ (rs : List Reference). Assign (record { text = text; target = t; updates = updates; right = rs }))
    (reference_of target.name target.subscripts) (references_of right.term) n is in
    ap (assigned text) (q made.left made.left_is ∙ ap (referred Write made.left) (p made.right made.right_is ∙ before updates a updated made.left made.left_is made.right))
    ∙ ap (λ n. walked n s) (sym made.made)
  where
    before : (updates : Bool) (a : State) → ReadsUpdated updates target s a → (r : Reference) → reference_of target.name target.subscripts ≡ Ok r → (rs : List Reference)
        → read (array_references a.parameters a.loops rs) a
        ≡ read (references_read s.parameters s.loops (record { text = text; target = r; updates = updates; right = rs })) s
    before true a updated r r_is rs = ap (λ (u : State). read (array_references u.parameters u.loops rs) u) (updated r r_is)
    before false a updated r r_is rs = ap (λ (u : State). read (array_references u.parameters u.loops rs) u) updated

pub walks_skipped : (text : List ℕ) (target : Element) (updates : Bool) (right : Located) (s t : State) → ((x : Assignment) → t ≡ walked (Assign x) s)
    → Walks (AssignmentOf text target updates right) s t
walks_skipped text target updates right s t p n is =
    let made = both_of (λ (t : Reference). λ (rs : List Reference). Assign (record { text = text; target = t; updates = updates; right = rs }))
    (reference_of target.name target.subscripts) (references_of right.term) n is in
    p (record { text = text; target = made.left; updates = updates; right = made.right }) ∙ ap (λ n. walked n s) (sym made.made)

-- ---- a statement, by its form

walked_form : (source : List ℕ) (x y : Tree) (t : Statement) (a b : State) → x ≡ y → node_layer source (out-Node y) ≡ t → Walks t a b → Walks (statement_of source x) a b
walked_form source x y t a b same is p = subst (λ u. Walks u a b) (sym (ap (statement_of source) same ∙ statement_is source y ∙ is)) p

pub for_walked : (source : List ℕ) (x : Tree) (l : LoopTree) (a b : State) → x ≡ node.For l → Walks (loop_of source l) a b → Walks (statement_of source x) a b
for_walked source x l a b same p = walked_form source x (node.For l) _ a b same (ap (node_layer source) (node.outs-For l)) p

pub if_walked : (source : List ℕ) (x : Tree) (y : BranchTree) (a b : State) → x ≡ node.If y → Walks (branch_of source y) a b → Walks (statement_of source x) a b
if_walked source x y a b same p = walked_form source x (node.If y) _ a b same (ap (node_layer source) (node.outs-If y)) p

pub block_walked : (source : List ℕ) (x : Tree) (xs : List Tree) (a b : State) → x ≡ node.Block xs → WalksAll (statements_of source xs) a b
    → Walks (statement_of source x) a b
block_walked source x xs a b same p = walked_form source x (node.Block xs) _ a b same (ap (node_layer source) (node.outs-Block xs)) (walks_block (statements_of source xs) a b p)

pub assign_walked : (source : List ℕ) (x : Tree) (y : AssignTree) (a b : State) → x ≡ node.Assign y → Walks (assignment_of source y) a b → Walks (statement_of source x) a b
assign_walked source x y a b same p = walked_form source x (node.Assign y) _ a b same (ap (node_layer source) (node.outs-Assign y)) p

pub empty_walked : (source : List ℕ) (x : Tree) (s : State) → x ≡ node.Empty → Walks (statement_of source x) s s
empty_walked source x s same = walked_form source x node.Empty _ s s same (ap (node_layer source) node.outs-Empty) (walks_block NoStatements s s (walks_none s))
