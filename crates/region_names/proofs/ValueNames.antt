-- The names of a value are those of the values right below it.
use Rattle.std.proofs.Common.{◌≡◌, ℕ, suc, List, [], ◌∷◌, ◌++◌, refl, sym, ap, ◌∙◌, append_assoc}
use Rattle.std.specs.Prelude.{Bool, true, cond, length, Some, None}
use Rattle.std.specs.List.{flat_map}
use Rattle.std.proofs.lemmas.List.{append-nil}
use Rattle.c_lexer.specs.declared.pieces.Piece.{Piece}
use Rattle.c_lexer.specs.Symbols.{operator_names}
use Rattle.c_lexer.specs.Pieces.{bytes_of}
use Rattle.c_parser.specs.declared.tree.UnarySign.{UnarySign}
use Rattle.c_parser.specs.declared.tree.EqualSign.{EqualSign}
use Rattle.c_parser.specs.declared.tree.Rel.{Rel}
use Rattle.c_parser.specs.declared.tree.SumSign.{SumSign}
use Rattle.c_parser.specs.declared.tree.ProductSign.{ProductSign}
use Rattle.c_parser.specs.declared.tree.Sum.{Sum, out-Sum}
use Rattle.c_parser.specs.declared.tree.Value.{Value, out-Value}
use Rattle.c_parser.specs.declared.tree.Target.{Target, out-Target}
use Rattle.c_parser.specs.declared.tree.Product.{Product, out-Product}
use Rattle.c_parser.specs.declared.tree.Unary.{Unary, out-Unary}
use Rattle.c_parser.specs.declared.tree.Primary.{Primary, out-Primary}
use Rattle.c_parser.specs.declared.tree.Compare.{Compare, out-Compare}
use Rattle.c_parser.specs.declared.tree.Equal.{Equal, out-Equal}
use Rattle.c_parser.specs.declared.tree.And.{And, out-And}
use Rattle.c_parser.specs.declared.tree.Or.{Or, out-Or}
use Rattle.c_parser.specs.declared.tree.Arms.{Arms, out-Arms}
use Rattle.c_parser.specs.declared.tree.Primary.TheVariants as pri
use Rattle.clan_extract.specs.Names.{Function}
use Rattle.clan_extract.specs.Regions.{is_among}
use Rattle.region_trees.specs.Terms.{Operation, Conjunction, Disjunction, Term, Joined, Located, Element, Pair, of_rel, of_equal, of_sum, of_product, all_signed, sum_of, value_of, product_of, unary_of, primary_of, compare_of, equal_of, and_of, or_of}
use Rattle.region_trees.specs.Layers.{joined_by, all_by, some_by, terms_by, term_of_sum, with_arms, primary_layer, sum_is, product_is, unary_is, primary_is, target_is, compare_is, equal_is, and_is, or_is, arms_is, value_is}
use Rattle.region_trees.specs.Occurrences.{count, occurrence, role_with, occurrences_of, occurrences_of_all}
use Rattle.region_names.specs.Walks.{scope_of, value_names, or_names, and_names, equal_names, compare_names, sum_names, product_names, primary_names, argument_names, subscript_names}

same_each : {A B : Type 0} (f g : A → List B) → ((x : A) → f x ≡ g x) → (xs : List A) → flat_map f xs ≡ flat_map g xs
same_each f g h [] = refl
same_each f g h (x ∷ xs) = ap (λ ys. ys ++ flat_map f xs) (h x) ∙ ap (λ ys. g x ++ ys) (same_each f g h xs)

pub count_is : {X : Type 0} (says : X → Located) (xs : List X) → count (terms_by says xs) ≡ length xs
count_is says [] = refl
count_is says (x ∷ xs) = ap (λ n. suc n) (count_is says xs)

module _ (scope : List (List ℕ)) (control : Bool) where
  joined_names : {S X : Type 0} (of : S → Operation) (says : X → Term) (left : Term) (xs : List (S × X))
      → occurrences_of control scope (joined_by of says left xs)
      ≡ occurrences_of control scope left ++ flat_map (λ (x : S × X). occurrences_of control scope (says x.1)) xs
  joined_names {S} {X} of says left [] = sym (append-nil (occurrences_of control scope left))
  joined_names {S} {X} of says left (x ∷ xs) =
      joined_names of says (Joined (of x.0) left (says x.1)) xs
      ∙ append_assoc (occurrences_of control scope left) (occurrences_of control scope (says x.1))
      (flat_map (λ (x : S × X). occurrences_of control scope (says x.1)) xs)

  all_names : {X : Type 0} (operation : Operation) (says : X → Term) (left : Term) (xs : List X)
      → occurrences_of control scope (all_by operation says left xs)
      ≡ occurrences_of control scope left ++ flat_map (λ (x : X). occurrences_of control scope (says x)) xs
  all_names {X} operation says left [] = sym (append-nil (occurrences_of control scope left))
  all_names {X} operation says left (x ∷ xs) =
      all_names operation says (Joined operation left (says x)) xs
      ∙ append_assoc (occurrences_of control scope left) (occurrences_of control scope (says x))
      (flat_map (λ (x : X). occurrences_of control scope (says x)) xs)

  some_names : {X : Type 0} (operation : Operation) (says : X → Term) (xs : List X)
      → occurrences_of control scope (some_by operation says xs) ≡ flat_map (λ (x : X). occurrences_of control scope (says x)) xs
  some_names operation says [] = refl
  some_names operation says (x ∷ xs) = all_names operation says (says x) xs

  terms_names : {X : Type 0} (says : X → Located) (xs : List X)
      → occurrences_of_all control scope (terms_by says xs) ≡ flat_map (λ (x : X). occurrences_of control scope (says x).term) xs
  terms_names says [] = refl
  terms_names says (x ∷ xs) = ap (λ ys. occurrences_of control scope (says x).term ++ ys) (terms_names says xs)

  signed_names : (signs : List UnarySign) (of : Term) → occurrences_of control scope (all_signed signs of) ≡ occurrences_of control scope of
  signed_names [] of = refl
  signed_names (sign ∷ signs) of = signed_names signs of

module _ (source : List ℕ) (scope : List Piece) (control : Bool) where
  pub or_names_are : (x : Or) → or_names source scope control x ≡ flat_map (and_names source scope control) (out-Or x).items
  unfolding or_names and_names
  or_names_are x = ap (occurrences_of control (scope_of source scope)) (or_is source x) ∙ some_names (scope_of source scope) control Disjunction (and_of source) (out-Or x).items

  pub and_names_are : (x : And) → and_names source scope control x ≡ flat_map (equal_names source scope control) (out-And x).items
  unfolding and_names equal_names
  and_names_are x = ap (occurrences_of control (scope_of source scope)) (and_is source x) ∙ some_names (scope_of source scope) control Conjunction (equal_of source) (out-And x).items

  pub equal_names_are : (x : Equal) → equal_names source scope control x
      ≡ compare_names source scope control (out-Equal x).first ++ flat_map (λ (p : EqualSign × Compare). compare_names source scope control p.1) (out-Equal x).rest
  unfolding equal_names compare_names
  equal_names_are x =
      ap (occurrences_of control (scope_of source scope)) (equal_is source x)
      ∙ joined_names (scope_of source scope) control of_equal (compare_of source) (compare_of source (out-Equal x).first) (out-Equal x).rest

  pub compare_names_are : (x : Compare) → compare_names source scope control x
      ≡ sum_names source scope control (out-Compare x).first ++ flat_map (λ (p : Rel × Sum). sum_names source scope control p.1) (out-Compare x).rest
  unfolding compare_names sum_names
  compare_names_are x =
      ap (occurrences_of control (scope_of source scope)) (compare_is source x)
      ∙ joined_names (scope_of source scope) control of_rel (term_of_sum source) (term_of_sum source (out-Compare x).first) (out-Compare x).rest

  pub sum_names_are : (x : Sum) → sum_names source scope control x
      ≡ product_names source scope control (out-Sum x).first ++ flat_map (λ (p : SumSign × Product). product_names source scope control p.1) (out-Sum x).rest
  unfolding sum_names product_names
  sum_names_are x =
      ap (λ (l : Located). occurrences_of control (scope_of source scope) l.term) (sum_is source x)
      ∙ joined_names (scope_of source scope) control of_sum (product_of source) (product_of source (out-Sum x).first) (out-Sum x).rest

  -- the operand behind its signs
  behind_signs : (x : Unary) → occurrences_of control (scope_of source scope) (unary_of source x) ≡ primary_names source scope control (out-Unary x).primary
  unfolding primary_names
  behind_signs x =
      ap (occurrences_of control (scope_of source scope)) (unary_is source x)
      ∙ signed_names (scope_of source scope) control (out-Unary x).signs (primary_of source (out-Unary x).primary)

  pub product_names_are : (x : Product) → product_names source scope control x
      ≡ primary_names source scope control (out-Unary (out-Product x).first).primary
      ++ flat_map (λ (p : ProductSign × Unary). primary_names source scope control (out-Unary p.1).primary) (out-Product x).rest
  unfolding product_names
  product_names_are x =
      ap (occurrences_of control (scope_of source scope)) (product_is source x)
      ∙ joined_names (scope_of source scope) control of_product (unary_of source) (unary_of source (out-Product x).first) (out-Product x).rest
      ∙ ap (λ ys. ys ++ flat_map (λ (p : ProductSign × Unary). occurrences_of control (scope_of source scope) (unary_of source p.1)) (out-Product x).rest) (behind_signs (out-Product x).first)
      ∙ ap (λ ys. primary_names source scope control (out-Unary (out-Product x).first).primary ++ ys)
      (same_each (λ (p : ProductSign × Unary). occurrences_of control (scope_of source scope) (unary_of source p.1)) (λ (p : ProductSign × Unary). primary_names source scope control (out-Unary p.1).primary)
      (λ (p : ProductSign × Unary). behind_signs p.1) (out-Product x).rest)

  pub argument_names_are : (xs : List Value) → argument_names source scope control xs ≡ flat_map (value_names source scope control) xs
  unfolding argument_names value_names
  argument_names_are xs = terms_names (scope_of source scope) control (value_of source) xs

  -- without arms, and with them
  pub test_alone : (x : Value) → (out-Value x).arms ≡ None → value_names source scope control x ≡ or_names source scope control (out-Value x).test
  unfolding value_names or_names
  test_alone x e =
      ap (λ (l : Located). occurrences_of control (scope_of source scope) l.term) (value_is source x)
      ∙ ap (λ arms. occurrences_of control (scope_of source scope) (with_arms source (or_of source (out-Value x).test) arms)) e

  pub test_and_arms : (x : Value) (arms : Arms) → (out-Value x).arms ≡ Some arms → value_names source scope control x
      ≡ or_names source scope control (out-Value x).test
      ++ (value_names source scope control (out-Arms arms).yes ++ value_names source scope control (out-Arms arms).no)
  unfolding value_names or_names
  test_and_arms x arms e =
      ap (λ (l : Located). occurrences_of control (scope_of source scope) l.term) (value_is source x)
      ∙ ap (λ a. occurrences_of control (scope_of source scope) (with_arms source (or_of source (out-Value x).test) a)) e
      ∙ ap (λ (a : Pair). occurrences_of control (scope_of source scope) (or_of source (out-Value x).test)
      ++ (occurrences_of control (scope_of source scope) a.yes ++ occurrences_of control (scope_of source scope) a.no)) (arms_is source arms)

  -- an operand, by its form
  by_form : (x y : Primary) → x ≡ y → primary_names source scope control x ≡ occurrences_of control (scope_of source scope) (primary_layer source (out-Primary y))
  unfolding primary_names
  by_form x y e =
      ap (occurrences_of control (scope_of source scope)) (primary_is source x)
      ∙ ap (λ z. occurrences_of control (scope_of source scope) (primary_layer source (out-Primary z))) e

  pub integer_names : (x : Primary) (piece : Piece) → x ≡ pri.Integer piece → primary_names source scope control x ≡ []
  integer_names x piece e = by_form x (pri.Integer piece) e ∙ ap (λ l. occurrences_of control (scope_of source scope) (primary_layer source l)) (pri.outs-Integer piece)

  pub literal_names : (x : Primary) (piece : Piece) → x ≡ pri.Literal piece → primary_names source scope control x ≡ []
  literal_names x piece e = by_form x (pri.Literal piece) e ∙ ap (λ l. occurrences_of control (scope_of source scope) (primary_layer source l)) (pri.outs-Literal piece)

  pub bracket_names : (x : Primary) (v : Value) → x ≡ pri.Bracket v
      → primary_names source scope control x ≡ value_names source scope control v
  unfolding value_names
  bracket_names x v e = by_form x (pri.Bracket v) e ∙ ap (λ l. occurrences_of control (scope_of source scope) (primary_layer source l)) (pri.outs-Bracket v)

  pub call_names : (x : Primary) (piece : Piece) (values : List Value) → x ≡ pri.Call piece values
      → primary_names source scope control x
      ≡ cond (is_among (bytes_of source piece) operator_names) [] (occurrence (bytes_of source piece) (Some Function) piece.from ∷ [])
      ++ argument_names source scope control values
  unfolding argument_names
  call_names x piece values e = by_form x (pri.Call piece values) e ∙ ap (λ l. occurrences_of control (scope_of source scope) (primary_layer source l)) (pri.outs-Call piece values)

  pub target_names : (x : Primary) (t : Target) → x ≡ pri.Target t
      → primary_names source scope control x
      ≡ occurrence (bytes_of source (out-Target t).name) (role_with control (scope_of source scope) (bytes_of source (out-Target t).name) (length (out-Target t).subscripts))
      (out-Target t).name.from ∷ subscript_names source scope t
  unfolding subscript_names
  target_names x t e =
      by_form x (pri.Target t) e ∙ ap (λ l. occurrences_of control (scope_of source scope) (primary_layer source l)) (pri.outs-Target t)
      ∙ ap (λ (e : Element). occurrence e.name (role_with control (scope_of source scope) e.name (count e.subscripts)) e.at ∷ occurrences_of_all true (scope_of source scope) e.subscripts) (target_is source t)
      ∙ ap (λ n. occurrence (bytes_of source (out-Target t).name) (role_with control (scope_of source scope) (bytes_of source (out-Target t).name) n) (out-Target t).name.from
      ∷ occurrences_of_all true (scope_of source scope) (terms_by (sum_of source) (out-Target t).subscripts)) (count_is (sum_of source) (out-Target t).subscripts)
      ∙ ap (λ (e : Element). occurrence (bytes_of source (out-Target t).name) (role_with control (scope_of source scope) (bytes_of source (out-Target t).name) (length (out-Target t).subscripts)) (out-Target t).name.from
      ∷ occurrences_of_all true (scope_of source scope) e.subscripts) (sym (target_is source t))

module _ (source : List ℕ) (scope : List Piece) where
  pub subscript_names_are : (x : Target) → subscript_names source scope x ≡ flat_map (sum_names source scope true) (out-Target x).subscripts
  unfolding subscript_names sum_names
  subscript_names_are x =
      ap (λ (e : Element). occurrences_of_all true (scope_of source scope) e.subscripts) (target_is source x) ∙ terms_names (scope_of source scope) true (sum_of source) (out-Target x).subscripts
