-- A region does to a memory what the steps of its turns do.
use Rattle.std.proofs.Common.{◌≡◌, inl, inr, ℕ, ◌+◌, List, [], ◌∷◌, ◌++◌, length, map, Bool, true, false, ◌&&◌, cond, refl, sym, ◌∙◌, ap, append_assoc, ℤ}
use Rattle.std.specs.Prelude.{flat_map, filter}
use Rattle.scop_core.specs.Sequences.{In, fold_steps}
use Rattle.scop_core.specs.Memory.{Cell, App, Memory, terms_at, Use, Event, store_each, cells_of, is_writing, is_read, is_maybe_written, step_of}
use Rattle.scop_core.specs.Meaning.{affine_at, use_at}
use Rattle.scop_data.specs.declared.accesses.AccessKind.{AccessKind}
use Rattle.scop_data.specs.declared.accesses.AccessKind.TheVariants.{Read, Write}
use Rattle.clan_extract.specs.Regions.{Expression, Reference, Assignment, Node, For, If, Block, Assign, Nodes, NoNodes, Then, is_array, array_references, number_in}
use Rattle.clan_extract.specs.Execution.{Binding, Setting, value_of, truth_of, loop_values, cell_of, assigned, run_node, run_nodes}
use Rattle.clan_extract.specs.Forms.{is_affine, form}
use Rattle.clan_extract.specs.Placements.{Head, Round, Loop, Test, placed, placed_all, children, children_of_all}
use Rattle.clan_extract.specs.Scops.{access, references_read, accesses, are_affine, have_affine_subscripts}
use Rattle.clan_extract.proofs.Forms.{both_true, names, values, form_has}
use Rattle.clan_extract.proofs.Reaching.{running}
use Rattle.clan_extract.proofs.Traces.{Turn, turn_in_loop, turn_in_test, head_of, trace, trace_all, then_turns, else_turns}

-- the loops that run at these values
abbrev pub bindings : List Round → List ℤ → List Binding
bindings [] x = []
bindings (Loop h ∷ rounds) [] = []
bindings (Loop h ∷ rounds) (v ∷ x) = running h.name v ∷ bindings rounds x
bindings (Test truth c ∷ rounds) x = bindings rounds x

-- what a turn inside running loops does
abbrev pub effect : Setting → List Binding → Turn → Memory → Memory
effect setting loops t m = assigned setting (loops ++ bindings t.placed.rounds t.values) t.placed.assignment m

pub append_nothing : {X : Type 0} (xs : List X) → xs ++ [] ≡ xs
append_nothing [] = refl
append_nothing (x ∷ xs) = ap (λ ys. x ∷ ys) (append_nothing xs)

-- folds over appended, mapped and flattened lists
fold_append : {X S : Type 0} (f : X → S → S) (xs ys : List X) (s : S) → fold_steps f (xs ++ ys) s ≡ fold_steps f ys (fold_steps f xs s)
fold_append f [] ys s = refl
fold_append f (x ∷ xs) ys s = fold_append f xs ys (f x s)

pub fold_map : {X Y S : Type 0} (f : Y → S → S) (g : X → Y) (h : X → S → S) (xs : List X) → ((x : X) (s : S) → In x xs → f (g x) s ≡ h x s) → (s : S) → fold_steps f (map g xs) s ≡ fold_steps h xs s
fold_map f g h [] e s = refl
fold_map f g h (x ∷ xs) e s =
    ap (λ t. fold_steps f (map g xs) t) (e x s (inl refl)) ∙ fold_map f g h xs (λ y t i. e y t (inr i)) (h x s)

fold_flat : {X Y S : Type 0} (f : Y → S → S) (g : X → List Y) (h : X → S → S) (xs : List X) → ((x : X) (s : S) → fold_steps f (g x) s ≡ h x s) → (s : S) → fold_steps f (flat_map g xs) s ≡ fold_steps h xs s
fold_flat f g h [] e s = refl
fold_flat f g h (x ∷ xs) e s =
    fold_append f (g x) (flat_map g xs) s ∙ ap (λ t. fold_steps f (flat_map g xs) t) (e x s) ∙ fold_flat f g h xs e (h x s)

module _ (setting : Setting) where
  in_loop_effect : (loops : List Binding) (from : ℕ) (head : Head) (v : ℤ) (t : Turn) (m : Memory)
      → effect setting loops (turn_in_loop from head v t) m ≡ effect setting (loops ++ running head.name v ∷ []) t m
  in_loop_effect loops from head v t m =
      ap (λ l. assigned setting l t.placed.assignment m) (sym (append_assoc loops (running head.name v ∷ []) (bindings t.placed.rounds t.values)))

  mutual
    pub runs : (s : Node) (loops : List Binding) (from k : ℕ) (m : Memory) → fold_steps (effect setting loops) (trace setting loops from k s) m ≡ run_node setting loops s m
    runs (For name start comparison bound step body) loops from k m =
        let head : Head = head_of name start comparison bound step in
        fold_flat (effect setting loops) (λ v. map (turn_in_loop from head v) (trace_all setting (loops ++ running name v ∷ []) 0 k body))
        (λ v l. run_nodes setting (loops ++ running name v ∷ []) body l) (loop_values comparison (value_of setting loops start) (value_of setting loops bound) step)
        (λ v l. fold_map (effect setting loops) (turn_in_loop from head v) (effect setting (loops ++ running name v ∷ [])) (trace_all setting (loops ++ running name v ∷ []) 0 k body)
        (λ t s i. in_loop_effect loops from head v t s) l ∙ runs_all body (loops ++ running name v ∷ []) 0 k l) m
    runs (If condition then_nodes else_nodes) loops from k m =
        by (truth_of setting loops condition) (runs_all then_nodes loops from k m) (runs_all else_nodes loops (from + children_of_all then_nodes) (k + length (placed_all from then_nodes)) m)
      where
        by : (b : Bool) → fold_steps (effect setting loops) (then_turns setting loops from k then_nodes) m ≡ run_nodes setting loops then_nodes m
            → fold_steps (effect setting loops) (else_turns setting loops from k then_nodes else_nodes) m ≡ run_nodes setting loops else_nodes m
            → fold_steps (effect setting loops) (cond b (map (turn_in_test true condition) (then_turns setting loops from k then_nodes)) (map (turn_in_test false condition) (else_turns setting loops from k then_nodes else_nodes))) m
            ≡ cond b (run_nodes setting loops then_nodes m) (run_nodes setting loops else_nodes m)
        by true f g = fold_map (effect setting loops) (turn_in_test true condition) (effect setting loops) (then_turns setting loops from k then_nodes) (λ t s i. refl) m ∙ f
        by false f g = fold_map (effect setting loops) (turn_in_test false condition) (effect setting loops) (else_turns setting loops from k then_nodes else_nodes) (λ t s i. refl) m ∙ g
    runs (Block nodes) loops from k m = runs_all nodes loops from k m
    runs (Assign a) loops from k m = ap (λ l. assigned setting l a m) (append_nothing loops)

    pub runs_all : (nodes : Nodes) (loops : List Binding) (from k : ℕ) (m : Memory) → fold_steps (effect setting loops) (trace_all setting loops from k nodes) m ≡ run_nodes setting loops nodes m
    runs_all NoNodes loops from k m = refl
    runs_all (Then first rest) loops from k m =
        fold_append (effect setting loops) (trace setting loops from k first) (trace_all setting loops (from + children first) (k + length (placed from first)) rest) m
        ∙ ap (λ l. fold_steps (effect setting loops) (trace_all setting loops (from + children first) (k + length (placed from first)) rest) l) (runs first loops from k m)
        ∙ runs_all rest loops (from + children first) (k + length (placed from first)) (run_node setting loops first m)

-- the step of an assignment inside running loops
module _ (setting : Setting) (loops : List Binding) where
  abbrev n : List ℤ
  n = setting.values

  abbrev x : List ℤ
  x = values loops

  subscript_has : (e : Expression) → is_affine e ≡ true → affine_at (form setting.parameters (names loops) e) x [] n ≡ value_of setting loops e
  subscript_has e h = ap (λ y. affine_at (form setting.parameters (names loops) e) y [] n) (sym (append_nothing x)) ∙ form_has setting loops [] e h

  subscripts_have : (es : List Expression) → are_affine es ≡ true
      → map (λ f. affine_at f x [] n) (map (λ e. form setting.parameters (names loops) e) es) ≡ map (λ e. value_of setting loops e) es
  subscripts_have [] h = refl
  subscripts_have (e ∷ es) h =
      let t = both_true (is_affine e) (are_affine es) h in
      ap (λ v. v ∷ map (λ f. affine_at f x [] n) (map (λ e. form setting.parameters (names loops) e) es)) (subscript_has e t.0)
      ∙ ap (λ vs. value_of setting loops e ∷ vs) (subscripts_have es t.1)

  abbrev cell : AccessKind → Reference → Cell
  cell kind r = (use_at x n (access setting.parameters setting.arrays (names loops) kind r)).cell

  cell_is : (kind : AccessKind) (r : Reference) → are_affine r.subscripts ≡ true → cell kind r ≡ cell_of setting loops r
  cell_is kind r h = ap (λ (vs : List ℤ). cell_with vs) (subscripts_have r.subscripts h)
    where
      cell_with : List ℤ → Cell
      cell_with vs = record { array = number_in setting.arrays r.name; subscripts = vs }

  cells_are : (rs : List Reference) → have_affine_subscripts rs ≡ true → map (λ r. cell Read r) rs ≡ map (λ r. cell_of setting loops r) rs
  cells_are [] h = refl
  cells_are (r ∷ rs) h =
      let t = both_true (are_affine r.subscripts) (have_affine_subscripts rs) h in
      ap (λ c. c ∷ map (λ r. cell Read r) rs) (cell_is Read r t.0) ∙ ap (λ cs. cell_of setting loops r ∷ cs) (cells_are rs t.1)

  abbrev uses : List Reference → Reference → List Use
  uses rs target = map (λ a. use_at x n a) (map (access setting.parameters setting.arrays (names loops) Read) rs ++ access setting.parameters setting.arrays (names loops) Write target ∷ [])

  written : (rs : List Reference) (target : Reference) → cells_of is_writing (uses rs target) ≡ cell Write target ∷ []
  written [] target = refl
  written (r ∷ rs) target = written rs target

  read : (rs : List Reference) (target : Reference) → cells_of is_read (uses rs target) ≡ map (λ r. cell Read r) rs
  read [] target = refl
  read (r ∷ rs) target = ap (λ cs. cell Read r ∷ cs) (read rs target)

  not_maybe : (rs : List Reference) (target : Reference) → cells_of is_maybe_written (uses rs target) ≡ []
  not_maybe [] target = refl
  not_maybe (r ∷ rs) target = not_maybe rs target

  -- the references that an assignment reads have affine subscripts
  filtered : (test : Reference → Bool) (rs : List Reference) → have_affine_subscripts rs ≡ true → have_affine_subscripts (filter test rs) ≡ true
  filtered test [] h = refl
  filtered test (r ∷ rs) h = by (test r) (both_true (are_affine r.subscripts) (have_affine_subscripts rs) h) (λ e. filtered test rs e)
    where
      by : (b : Bool) → (are_affine r.subscripts ≡ true) × (have_affine_subscripts rs ≡ true) → (have_affine_subscripts rs ≡ true → have_affine_subscripts (filter test rs) ≡ true)
          → have_affine_subscripts (cond b (r ∷ filter test rs) (filter test rs)) ≡ true
      by true t rest = ap (λ c. c && have_affine_subscripts (filter test rs)) t.0 ∙ rest t.1
      by false t rest = rest t.1

  reads_are_affine : (a : Assignment) → (are_affine a.target.subscripts && have_affine_subscripts a.right) ≡ true → have_affine_subscripts (references_read setting.parameters (names loops) a) ≡ true
  reads_are_affine a h =
      let t = both_true (are_affine a.target.subscripts) (have_affine_subscripts a.right) h in
      let right = filtered (λ r. is_array setting.parameters (names loops) r) a.right t.1 in
      by a.updates t.0 right
    where
      by : (b : Bool) → are_affine a.target.subscripts ≡ true → have_affine_subscripts (array_references setting.parameters (names loops) a.right) ≡ true
          → have_affine_subscripts (cond b (a.target ∷ []) [] ++ array_references setting.parameters (names loops) a.right) ≡ true
      by true t right = ap (λ c. c && have_affine_subscripts (array_references setting.parameters (names loops) a.right)) t ∙ right
      by false t right = right

  -- the event of an assignment, by its values
  abbrev pub event_of : Assignment → List (List ℕ) → List ℤ → Event
  event_of a ns ys = record {
    uses = map (λ b. use_at ys n b) (accesses setting.parameters setting.arrays ns a);
    text = a.text;
    names = ns;
    values = ys;
    parameters = n;
  }

  pub step_is : (a : Assignment) → (are_affine a.target.subscripts && have_affine_subscripts a.right) ≡ true → (m : Memory)
      → step_of (event_of a (names loops) x) m ≡ assigned setting loops a m
  step_is a h m =
      let rs : List Reference = references_read setting.parameters (names loops) a in
      let t = both_true (are_affine a.target.subscripts) (have_affine_subscripts a.right) h in
      let e : Event = event_of a (names loops) x in
      ap (λ cs. stores cs (cells_of is_read e.uses ++ cells_of is_maybe_written e.uses)) (written rs a.target)
      ∙ ap (λ cs. stores (cell Write a.target ∷ []) (cs ++ cells_of is_maybe_written e.uses)) (read rs a.target)
      ∙ ap (λ cs. stores (cell Write a.target ∷ []) (map (λ r. cell Read r) rs ++ cs)) (not_maybe rs a.target)
      ∙ ap (λ cs. stores (cell Write a.target ∷ []) cs) (append_nothing (map (λ r. cell Read r) rs))
      ∙ ap (λ cs. stores (cell Write a.target ∷ []) cs) (cells_are rs (reads_are_affine a h))
      ∙ ap (λ c. stores (c ∷ []) (map (λ r. cell_of setting loops r) rs)) (cell_is Write a.target t.0)
    where
      stores : List Cell → List Cell → Memory
      stores writes reads = store_each (λ w. App a.text (names loops) w x n (terms_at m reads)) 1 writes m
