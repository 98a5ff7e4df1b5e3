-- The names of statements are those of the statements and values right below them.
use Rattle.std.proofs.Common.{◌≡◌, ℕ, List, [], ◌∷◌, ◌++◌, refl, sym, ap, ◌∙◌, append_assoc}
use Rattle.std.specs.Prelude.{true, false, length, Some, None}
use Rattle.std.specs.List.{flat_map}
use Rattle.std.proofs.lemmas.List.{append-nil}
use Rattle.c_lexer.specs.declared.pieces.Piece.{Piece}
use Rattle.c_lexer.specs.Pieces.{bytes_of}
use Rattle.c_parser.specs.declared.tree.Target.{out-Target}
use Rattle.c_parser.specs.declared.tree.Assign.{Assign}
use Rattle.c_parser.specs.declared.tree.Node.{Node, out-Node}
use Rattle.c_parser.specs.declared.tree.Node.TheVariants as node
use Rattle.c_parser.specs.declared.tree.Branch.{Branch, out-Branch}
use Rattle.c_parser.specs.declared.tree.Loop.{Loop, out-Loop}
use Rattle.clan_extract.specs.Names.{ArrayOf}
use Rattle.region_trees.specs.Terms.{Element, sum_of, value_of}
use Rattle.region_trees.specs.Statements.{Next, NoStatements, statement_of}
use Rattle.region_trees.specs.Layers.{node_layer, statement_is, loop_is, branch_is, other_of, target_is, terms_by}
use Rattle.region_trees.specs.Occurrences.{occurrence, occurrences_left, loop_name, occurrences_of, occurrences_of_all, occurrences_in, occurrences_in_all}
use Rattle.region_names.specs.Walks.{head_name, scope_of, value_names, sum_names, subscript_names, assign_names, node_names, loop_names, branch_names, nodes_names}
use Rattle.region_names.proofs.ValueNames.{count_is}

-- a statement alone
one_statement : (source : List ℕ) (scope : List Piece) (x : Node)
    → occurrences_in_all (scope_of source scope) (Next (statement_of source x) NoStatements) ≡ node_names source scope x
unfolding node_names
one_statement source scope x = append-nil (occurrences_in (scope_of source scope) (statement_of source x))

module _ (source : List ℕ) (scope : List Piece) where
  pub nodes_names_are : (xs : List Node) → nodes_names source scope xs ≡ flat_map (node_names source scope) xs
  unfolding nodes_names node_names
  nodes_names_are [] = refl
  nodes_names_are (x ∷ xs) = ap (λ ys. occurrences_in (scope_of source scope) (statement_of source x) ++ ys) (nodes_names_are xs)

  -- a statement, by its form
  by_form : (x y : Node) → x ≡ y → node_names source scope x ≡ occurrences_in (scope_of source scope) (node_layer source (out-Node y))
  unfolding node_names
  by_form x y e =
      ap (occurrences_in (scope_of source scope)) (statement_is source x)
      ∙ ap (λ z. occurrences_in (scope_of source scope) (node_layer source (out-Node z))) e

  pub for_names : (x : Node) (l : Loop) → x ≡ node.For l → node_names source scope x ≡ loop_names source scope l
  unfolding loop_names
  for_names x l e = by_form x (node.For l) e ∙ ap (λ layer. occurrences_in (scope_of source scope) (node_layer source layer)) (node.outs-For l)

  pub if_names : (x : Node) (b : Branch) → x ≡ node.If b → node_names source scope x ≡ branch_names source scope b
  unfolding branch_names
  if_names x b e = by_form x (node.If b) e ∙ ap (λ layer. occurrences_in (scope_of source scope) (node_layer source layer)) (node.outs-If b)

  pub block_names : (x : Node) (xs : List Node) → x ≡ node.Block xs → node_names source scope x ≡ nodes_names source scope xs
  unfolding nodes_names
  block_names x xs e = by_form x (node.Block xs) e ∙ ap (λ layer. occurrences_in (scope_of source scope) (node_layer source layer)) (node.outs-Block xs)

  pub assignment_names : (x : Node) (a : Assign) → x ≡ node.Assign a → node_names source scope x ≡ assign_names source scope a
  unfolding assign_names
  assignment_names x a e = by_form x (node.Assign a) e ∙ ap (λ layer. occurrences_in (scope_of source scope) (node_layer source layer)) (node.outs-Assign a)

  pub empty_names : (x : Node) → x ≡ node.Empty → node_names source scope x ≡ []
  empty_names x e = by_form x node.Empty e ∙ ap (λ layer. occurrences_in (scope_of source scope) (node_layer source layer)) node.outs-Empty

  pub loop_names_are : (x : Loop) → loop_names source scope x
      ≡ loop_name (scope_of source scope) (bytes_of source (out-Loop x).name) (out-Loop x).name.from
      ∷ (sum_names source scope true (out-Loop x).start
      ++ (sum_names source scope true (out-Loop x).bound ++ node_names source ((out-Loop x).name ∷ scope) (out-Loop x).body))
  unfolding loop_names sum_names
  loop_names_are x =
      ap (occurrences_in (scope_of source scope)) (loop_is source x)
      ∙ ap (λ ys. loop_name (scope_of source scope) (bytes_of source (out-Loop x).name) (out-Loop x).name.from
      ∷ (occurrences_of true (scope_of source scope) (sum_of source (out-Loop x).start).term ++ (occurrences_of true (scope_of source scope) (sum_of source (out-Loop x).bound).term ++ ys)))
      (one_statement source ((out-Loop x).name ∷ scope) (out-Loop x).body)

  -- the parts of a loop, where the scope inside is known
  pub loop_parts : (x : Loop) (inside : List Piece) → inside ≡ (out-Loop x).name ∷ scope → loop_names source scope x
      ≡ ((head_name source scope (out-Loop x).name ∷ sum_names source scope true (out-Loop x).start) ++ sum_names source scope true (out-Loop x).bound)
      ++ node_names source inside (out-Loop x).body
  loop_parts x inside e =
      loop_names_are x
      ∙ ap (λ ys. head_name source scope (out-Loop x).name ∷ ys)
      (sym (append_assoc (sum_names source scope true (out-Loop x).start) (sum_names source scope true (out-Loop x).bound)
      (node_names source ((out-Loop x).name ∷ scope) (out-Loop x).body)))
      ∙ ap (λ pieces. ((head_name source scope (out-Loop x).name ∷ sum_names source scope true (out-Loop x).start) ++ sum_names source scope true (out-Loop x).bound)
      ++ node_names source pieces (out-Loop x).body) (sym e)

  pub branch_alone : (x : Branch) → (out-Branch x).other ≡ None → branch_names source scope x
      ≡ value_names source scope true (out-Branch x).condition ++ node_names source scope (out-Branch x).then
  unfolding branch_names value_names
  branch_alone x e =
      ap (occurrences_in (scope_of source scope)) (branch_is source x)
      ∙ ap (λ other. occurrences_of true (scope_of source scope) (value_of source (out-Branch x).condition).term
      ++ (occurrences_in_all (scope_of source scope) (Next (statement_of source (out-Branch x).then) NoStatements) ++ occurrences_in_all (scope_of source scope) (other_of source other))) e
      ∙ ap (λ ys. occurrences_of true (scope_of source scope) (value_of source (out-Branch x).condition).term ++ ys)
      (append-nil (occurrences_in_all (scope_of source scope) (Next (statement_of source (out-Branch x).then) NoStatements)) ∙ one_statement source scope (out-Branch x).then)

  pub branch_and_other : (x : Branch) (other : Node) → (out-Branch x).other ≡ Some other → branch_names source scope x
      ≡ value_names source scope true (out-Branch x).condition
      ++ (node_names source scope (out-Branch x).then ++ node_names source scope other)
  unfolding branch_names value_names
  branch_and_other x other e =
      ap (occurrences_in (scope_of source scope)) (branch_is source x)
      ∙ ap (λ o. occurrences_of true (scope_of source scope) (value_of source (out-Branch x).condition).term
      ++ (occurrences_in_all (scope_of source scope) (Next (statement_of source (out-Branch x).then) NoStatements) ++ occurrences_in_all (scope_of source scope) (other_of source o))) e
      ∙ ap (λ ys. occurrences_of true (scope_of source scope) (value_of source (out-Branch x).condition).term
      ++ (ys ++ occurrences_in_all (scope_of source scope) (Next (statement_of source other) NoStatements))) (one_statement source scope (out-Branch x).then)
      ∙ ap (λ ys. occurrences_of true (scope_of source scope) (value_of source (out-Branch x).condition).term ++ (node_names source scope (out-Branch x).then ++ ys))
      (one_statement source scope other)

  pub assign_names_are : (a : Assign) → assign_names source scope a
      ≡ occurrence (bytes_of source (out-Target a.target).name) (Some (ArrayOf (length (out-Target a.target).subscripts))) (out-Target a.target).name.from
      ∷ (subscript_names source scope a.target ++ value_names source scope false a.value)
  unfolding assign_names subscript_names value_names
  assign_names_are a =
      ap (λ (e : Element). occurrences_left (scope_of source scope) e ++ occurrences_of false (scope_of source scope) (value_of source a.value).term) (target_is source a.target)
      ∙ ap (λ n. occurrence (bytes_of source (out-Target a.target).name) (Some (ArrayOf n)) (out-Target a.target).name.from
      ∷ (occurrences_of_all true (scope_of source scope) (terms_by (sum_of source) (out-Target a.target).subscripts) ++ occurrences_of false (scope_of source scope) (value_of source a.value).term))
      (count_is (sum_of source) (out-Target a.target).subscripts)
      ∙ ap (λ (e : Element). occurrence (bytes_of source (out-Target a.target).name) (Some (ArrayOf (length (out-Target a.target).subscripts))) (out-Target a.target).name.from
      ∷ (occurrences_of_all true (scope_of source scope) e.subscripts ++ occurrences_of false (scope_of source scope) (value_of source a.value).term)) (sym (target_is source a.target))
