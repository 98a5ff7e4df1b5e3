-- Whether an assignment stands in the parser's trees of statements.
use Rattle.std.proofs.Common.{◌≡◌, ◌∙◌, ◌+◌, ◌<◌, ◌≤◌, ℕ, List, length, get_or, drop, Bool, true, false, Some, None, refl, ap, sym}
use Rattle.std.specs.Prelude.{◌||◌}
use Rattle.std.proofs.lemmas.List.{drop_all}
use Rattle.scop_core.proofs.Assemblies.{item_drop}
use Rattle.c_parser.specs.declared.tree.Assign.{Assign}
use Rattle.c_parser.specs.declared.tree.Branch.{Branch, out-Branch}
use Rattle.c_parser.specs.declared.tree.Loop.{Loop, out-Loop}
use Rattle.c_parser.specs.declared.tree.Node.{Node, out-Node}
use Rattle.c_parser.specs.declared.tree.Node.TheVariants as node
use Rattle.region_trees.specs.Statements.{branch_of, loop_of, statement_of, statements_of}
use Rattle.region_trees.specs.Layers.{branch_is, loop_is, node_layer, other_of, statement_is}
use Rattle.region_extract.specs.Walks.{has_assignment, have_assignment}

or_nothing : (b : Bool) → (b || false) ≡ b
or_nothing true = refl
or_nothing false = refl

-- ---- a statement, by its form

by_form : (source : List ℕ) (x y : Node) → x ≡ y → has_assignment (statement_of source x) ≡ has_assignment (node_layer source (out-Node y))
by_form source x y same = ap (λ z. has_assignment (statement_of source z)) same ∙ ap has_assignment (statement_is source y)

pub of_for : (x : Node) (l : Loop) (source : List ℕ) → x ≡ node.For l → has_assignment (loop_of source l) ≡ has_assignment (statement_of source x)
of_for x l source same = sym (by_form source x (node.For l) same ∙ ap (λ z. has_assignment (node_layer source z)) (node.outs-For l))

pub of_if : (x : Node) (b : Branch) (source : List ℕ) → x ≡ node.If b → has_assignment (branch_of source b) ≡ has_assignment (statement_of source x)
of_if x b source same = sym (by_form source x (node.If b) same ∙ ap (λ z. has_assignment (node_layer source z)) (node.outs-If b))

pub of_block : (x : Node) (xs : List Node) (source : List ℕ) → x ≡ node.Block xs → have_assignment (statements_of source xs) ≡ has_assignment (statement_of source x)
of_block x xs source same = sym (by_form source x (node.Block xs) same ∙ ap (λ z. has_assignment (node_layer source z)) (node.outs-Block xs))

pub of_assign : (x : Node) (a : Assign) (source : List ℕ) → x ≡ node.Assign a → true ≡ has_assignment (statement_of source x)
of_assign x a source same = sym (by_form source x (node.Assign a) same ∙ ap (λ z. has_assignment (node_layer source z)) (node.outs-Assign a))

pub of_empty : (x : Node) (source : List ℕ) → x ≡ node.Empty → false ≡ has_assignment (statement_of source x)
of_empty x source same = sym (by_form source x node.Empty same ∙ ap (λ z. has_assignment (node_layer source z)) node.outs-Empty)

-- ---- loops and conditions

pub in_loop : (x : Loop) (source : List ℕ) → has_assignment (statement_of source (out-Loop x).body) ≡ has_assignment (loop_of source x)
in_loop x source = sym (ap has_assignment (loop_is source x) ∙ or_nothing (has_assignment (statement_of source (out-Loop x).body)))

-- in the first branch, and else in the other
branches : (x : Branch) (source : List ℕ)
    → has_assignment (branch_of source x) ≡ ((has_assignment (statement_of source (out-Branch x).then) || false) || have_assignment (other_of source (out-Branch x).other))
branches x source = ap has_assignment (branch_is source x)

pub in_then : (x : Branch) (source : List ℕ) → true ≡ has_assignment (statement_of source (out-Branch x).then) → true ≡ has_assignment (branch_of source x)
in_then x source some = sym (branches x source ∙ ap (λ b. (b || false) || have_assignment (other_of source (out-Branch x).other)) (sym some))

pub in_none : (x : Branch) (source : List ℕ) → false ≡ has_assignment (statement_of source (out-Branch x).then) → (out-Branch x).other ≡ None
    → false ≡ has_assignment (branch_of source x)
in_none x source absent none =
    sym (branches x source ∙ ap (λ b. (b || false) || have_assignment (other_of source (out-Branch x).other)) (sym absent)
    ∙ ap (λ o. have_assignment (other_of source o)) none)

pub in_other : (x : Branch) (other : Node) (source : List ℕ) → false ≡ has_assignment (statement_of source (out-Branch x).then) → (out-Branch x).other ≡ Some other
    → has_assignment (statement_of source other) ≡ has_assignment (branch_of source x)
in_other x other source absent some =
    sym (branches x source ∙ ap (λ b. (b || false) || have_assignment (other_of source (out-Branch x).other)) (sym absent)
    ∙ ap (λ o. have_assignment (other_of source o)) some ∙ or_nothing (has_assignment (statement_of source other)))

-- ---- lists

module _ (xs : List Node) where
  -- none stands in the first so many
  abbrev pub NoneBefore : ℕ → Type 0
  NoneBefore k = (source : List ℕ) → have_assignment (statements_of source xs) ≡ have_assignment (statements_of source (drop k xs))

  next_one : (k : ℕ) (x : Node) → k < length xs → x ≡ get_or xs k x → NoneBefore k → (source : List ℕ)
      → have_assignment (statements_of source xs) ≡ (has_assignment (statement_of source x) || have_assignment (statements_of source (drop (k + 1) xs)))
  next_one k x within is p source = p source ∙ ap (λ ys. have_assignment (statements_of source ys)) (item_drop xs k x within is)

  pub none_there : (k : ℕ) (x : Node) → k < length xs → x ≡ get_or xs k x → NoneBefore k → ((source : List ℕ) → false ≡ has_assignment (statement_of source x)) → NoneBefore (k + 1)
  none_there k x within is p absent source =
      next_one k x within is p source ∙ ap (λ b. b || have_assignment (statements_of source (drop (k + 1) xs))) (sym (absent source))

  pub some_there : (k : ℕ) (x : Node) → k < length xs → x ≡ get_or xs k x → NoneBefore k → ((source : List ℕ) → true ≡ has_assignment (statement_of source x))
      → (source : List ℕ) → true ≡ have_assignment (statements_of source xs)
  some_there k x within is p some source =
      sym (next_one k x within is p source ∙ ap (λ b. b || have_assignment (statements_of source (drop (k + 1) xs))) (sym (some source)))

  pub none_at_all : (k : ℕ) → length xs ≤ k → NoneBefore k → (source : List ℕ) → false ≡ have_assignment (statements_of source xs)
  none_at_all k all p source = sym (p source ∙ ap (λ ys. have_assignment (statements_of source ys)) (drop_all k xs all))
