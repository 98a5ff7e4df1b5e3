-- The terms of the parser's trees: operands one after the other, and sums that stand alone.
use Rattle.std.proofs.Common.{◌≡◌, ◌∙◌, ℕ, List, [], ◌∷◌, ◌++◌, length, get_or, ◌<◌, ◌≤◌, Some, None, Result, Ok, Err, refl, ap, sym, subst, arith}
use Rattle.std.specs.Prelude.{IfOk}
use Rattle.c_parser.specs.declared.tree.Primary.TheVariants as pri
use Rattle.c_parser.specs.declared.tree.EqualSign.{EqualSign}
use Rattle.c_parser.specs.declared.tree.Rel.{Rel}
use Rattle.c_parser.specs.declared.tree.Value.{Value, out-Value}
use Rattle.c_parser.specs.declared.tree.Compare.{Compare, out-Compare}
use Rattle.c_parser.specs.declared.tree.Equal.{Equal, out-Equal}
use Rattle.c_parser.specs.declared.tree.And.{And, out-And}
use Rattle.c_parser.specs.declared.tree.Or.{Or, out-Or}
use Rattle.c_parser.specs.declared.tree.Arms.{Arms}
use Rattle.region_trees.specs.Terms.{Operation, Bracket, Conjunction, Disjunction, Term, Literal, Joined, Choice, of_rel, of_equal, value_of, or_of, and_of, equal_of, compare_of, primary_of}
use Rattle.region_trees.specs.Layers.{joined_by, all_by, some_by, term_of_sum, with_arms, value_is, or_is, and_is, equal_is, compare_is, primary_is, primary_layer}

-- ---- operands one after the other

-- one operand more
pub joined_more : {S X : Type 0} (of : S → Operation) (says : X → Term) (left : Term) (xs : List (S × X)) (x : S × X)
    → joined_by of says left (xs ++ x ∷ []) ≡ Joined (of x.0) (joined_by of says left xs) (says x.1)
joined_more of says left [] x = refl
joined_more of says left (y ∷ xs) x = joined_more of says (Joined (of y.0) left (says y.1)) xs x

pub all_more : {X : Type 0} (operation : Operation) (says : X → Term) (left : Term) (xs : List X) (x : X)
    → all_by operation says left (xs ++ x ∷ []) ≡ Joined operation (all_by operation says left xs) (says x)
all_more operation says left [] x = refl
all_more operation says left (y ∷ xs) x = all_more operation says (Joined operation left (says y)) xs x

-- what holds of every term that such a sign joins, holds of operands of which there is more than one
pub joined_ends : {S X : Type 0} (P : Term → Type 0) (of : S → Operation) (says : X → Term) (left : Term) (x : S × X) (xs : List (S × X))
    → ((s : S) (l r : Term) → P (Joined (of s) l r)) → P (joined_by of says left (x ∷ xs))
joined_ends P of says left x [] h = h x.0 left (says x.1)
joined_ends P of says left x (y ∷ xs) h = joined_ends P of says (Joined (of x.0) left (says x.1)) y xs h

pub all_ends : {X : Type 0} (P : Term → Type 0) (operation : Operation) (says : X → Term) (left : Term) (x : X) (xs : List X)
    → ((l r : Term) → P (Joined operation l r)) → P (all_by operation says left (x ∷ xs))
all_ends P operation says left x [] h = h left (says x)
all_ends P operation says left x (y ∷ xs) h = all_ends P operation says (Joined operation left (says x)) y xs h

-- of a list that is not one item alone: no item, or more than one
pub some_ends : {X : Type 0} (P : Term → Type 0) (operation : Operation) (says : X → Term) (xs : List X) → P Literal → ((l r : Term) → P (Joined operation l r))
    → ¬ (length xs ≡ 1) → P (some_by operation says xs)
some_ends P operation says [] p h many = p
some_ends P operation says (x ∷ []) p h many = absurd (many refl)
some_ends P operation says (x ∷ (y ∷ xs)) p h many = all_ends P operation says (says x) y xs h

-- ---- a value that is one sum alone, level by level

pub value_or : (source : List ℕ) (x : Value) → (out-Value x).arms ≡ None → (value_of source x).term ≡ or_of source (out-Value x).test
value_or source x none = ap (λ v. v.term) (value_is source x) ∙ ap (with_arms source (or_of source (out-Value x).test)) none

pub value_arms : (source : List ℕ) (x : Value) (arms : Arms) (P : Term → Type 0) → (out-Value x).arms ≡ Some arms → ((a b c : Term) → P (Choice a b c))
    → P (value_of source x).term
value_arms source x arms P some h =
    let e : (value_of source x).term ≡ with_arms source (or_of source (out-Value x).test) (Some arms) =
    ap (λ v. v.term) (value_is source x) ∙ ap (with_arms source (or_of source (out-Value x).test)) some in
    subst P (sym e) (h _ _ _)

pub or_and : (source : List ℕ) (x : Or) (y : And) → (out-Or x).items ≡ y ∷ [] → or_of source x ≡ and_of source y
or_and source x y e = or_is source x ∙ ap (some_by Disjunction (and_of source)) e

pub and_equal : (source : List ℕ) (x : And) (y : Equal) → (out-And x).items ≡ y ∷ [] → and_of source x ≡ equal_of source y
and_equal source x y e = and_is source x ∙ ap (some_by Conjunction (equal_of source)) e

pub equal_compare : (source : List ℕ) (x : Equal) → (out-Equal x).rest ≡ [] → equal_of source x ≡ compare_of source (out-Equal x).first
equal_compare source x e = equal_is source x ∙ ap (joined_by of_equal (compare_of source) (compare_of source (out-Equal x).first)) e

pub compare_sum : (source : List ℕ) (x : Compare) → (out-Compare x).rest ≡ [] → compare_of source x ≡ term_of_sum source (out-Compare x).first
compare_sum source x e = compare_is source x ∙ ap (joined_by of_rel (term_of_sum source) (term_of_sum source (out-Compare x).first)) e

-- ---- a value that is one sum alone, and one that is not

-- a list of one item
pub one_item : {X : Type 0} (xs : List X) (d : X) → length xs ≡ 1 → xs ≡ get_or xs 0 d ∷ []
one_item [] d e = absurd (omega (arith, e))
one_item (x ∷ []) d e = refl
one_item (x ∷ (y ∷ xs)) d e = absurd (omega (arith, e))

pub not_empty_head : {X : Type 0} (xs : List X) → ¬ (xs ≡ []) → (x : X) × (rest : List X) × (xs ≡ x ∷ rest)
not_empty_head [] h = absurd (h refl)
not_empty_head (x ∷ xs) h = (x, xs, refl)

module _ (source : List ℕ) (x : Value) (P : Term → Type 0) (none : (out-Value x).arms ≡ None) where
  -- not one item of what `||` joins
  pub ends_at_or : P Literal → ((l r : Term) → P (Joined Disjunction l r)) → ¬ (length (out-Or (out-Value x).test).items ≡ 1) → P (value_of source x).term
  ends_at_or p h many =
      subst P (sym (value_or source x none ∙ or_is source (out-Value x).test)) (some_ends P Disjunction (and_of source) (out-Or (out-Value x).test).items p h many)

  pub ends_at_and : (a : And) → (out-Or (out-Value x).test).items ≡ a ∷ [] → P Literal → ((l r : Term) → P (Joined Conjunction l r)) → ¬ (length (out-And a).items ≡ 1)
      → P (value_of source x).term
  ends_at_and a one p h many =
      subst P (sym (value_or source x none ∙ or_and source (out-Value x).test a one ∙ and_is source a)) (some_ends P Conjunction (equal_of source) (out-And a).items p h many)

  pub ends_at_equal : (a : And) (e : Equal) → (out-Or (out-Value x).test).items ≡ a ∷ [] → (out-And a).items ≡ e ∷ [] → ((s : EqualSign) (l r : Term) → P (Joined (of_equal s) l r))
      → ¬ ((out-Equal e).rest ≡ []) → P (value_of source x).term
  ends_at_equal a e one only h more =
      let first = not_empty_head (out-Equal e).rest more in
      subst P
      (sym (value_or source x none ∙ or_and source (out-Value x).test a one ∙ and_equal source a e only ∙ equal_is source e
      ∙ ap (joined_by of_equal (compare_of source) (compare_of source (out-Equal e).first)) first.2))
      (joined_ends P of_equal (compare_of source) (compare_of source (out-Equal e).first) first.0 first.1 h)

  pub ends_at_compare : (a : And) (e : Equal) → (out-Or (out-Value x).test).items ≡ a ∷ [] → (out-And a).items ≡ e ∷ [] → (out-Equal e).rest ≡ []
      → ((s : Rel) (l r : Term) → P (Joined (of_rel s) l r)) → ¬ ((out-Compare (out-Equal e).first).rest ≡ []) → P (value_of source x).term
  ends_at_compare a e one only alone h more =
      let c = (out-Equal e).first in
      let first = not_empty_head (out-Compare c).rest more in
      subst P
      (sym (value_or source x none ∙ or_and source (out-Value x).test a one ∙ and_equal source a e only ∙ equal_compare source e alone ∙ compare_is source c
      ∙ ap (joined_by of_rel (term_of_sum source) (term_of_sum source (out-Compare c).first)) first.2))
      (joined_ends P of_rel (term_of_sum source) (term_of_sum source (out-Compare c).first) first.0 first.1 h)

  pub ends_at_sum : (a : And) (e : Equal) → (out-Or (out-Value x).test).items ≡ a ∷ [] → (out-And a).items ≡ e ∷ [] → (out-Equal e).rest ≡ []
      → (out-Compare (out-Equal e).first).rest ≡ [] → P (term_of_sum source (out-Compare (out-Equal e).first).first) → P (value_of source x).term
  ends_at_sum a e one only alone lone p =
      subst P
      (sym (value_or source x none ∙ or_and source (out-Value x).test a one ∙ and_equal source a e only ∙ equal_compare source e alone
      ∙ compare_sum source (out-Equal e).first lone)) p

-- a bracket
pub bracket_is : (source : List ℕ) (v : Value) → primary_of source (pri.Bracket v) ≡ Bracket (value_of source v).term
bracket_is source v = primary_is source (pri.Bracket v) ∙ ap (primary_layer source) (pri.outs-Bracket v)

-- what holds of an answer
pub ok_map : {A E : Type 0} (r : Result A E) (P Q : A → Type 0) → ((a : A) → P a → Q a) → IfOk r P → IfOk r Q
ok_map (Ok a) P Q f p = f a p
ok_map (Err e) P Q f p = p

-- the one item of a list that was read from a slice
pub only_item : {X : Type 0} (xs ys : List X) (a : X) → ys ≡ xs → length ys ≡ 1 → a ≡ get_or ys 0 a → xs ≡ a ∷ []
only_item xs ys a same one here = sym same ∙ one_item ys a one ∙ ap (λ x. x ∷ []) (sym here)

-- ---- one comparison by an equality

pub lone_equal : (source : List ℕ) (x : Equal) (ys : List (EqualSign × Compare)) (r : EqualSign × Compare) → ys ≡ (out-Equal x).rest → 1 ≤ length ys → length ys < 2
    → r ≡ get_or ys 0 r → equal_of source x ≡ Joined (of_equal r.0) (compare_of source (out-Equal x).first) (compare_of source r.1)
lone_equal source x ys r same some few here =
    equal_is source x ∙ ap (joined_by of_equal (compare_of source) (compare_of source (out-Equal x).first)) (only_item (out-Equal x).rest ys r same (omega (arith, some, few)) here)

pub no_equal : (source : List ℕ) (x : Equal) (ys : List (EqualSign × Compare)) → ys ≡ (out-Equal x).rest → length ys < 1 → equal_of source x ≡ compare_of source (out-Equal x).first
no_equal source x [] same none = equal_compare source x (sym same)
no_equal source x (y ∷ ys) same none = absurd (omega (arith, none))

-- the first of some, whatever stands in for none
pub any_default : {X : Type 0} (xs : List X) (a b : X) → 1 ≤ length xs → get_or xs 0 a ≡ get_or xs 0 b
any_default [] a b some = absurd (omega (arith, some))
any_default (x ∷ xs) a b some = refl
