-- What the forms of the tree have by the forms right below them.
use Rattle.std.proofs.Common.{◌≡◌, refl, sym, ap, ◌∙◌, ℕ, List, [], ◌∷◌, Option, Some, None}
use Rattle.c_parser.specs.declared.tree.UnarySign.{UnarySign}
use Rattle.c_parser.specs.declared.tree.UnarySign.TheVariants as un
use Rattle.c_parser.specs.declared.tree.Sum.{Sum, out-Sum}
use Rattle.c_parser.specs.declared.tree.Value.{Value}
use Rattle.c_parser.specs.declared.tree.Product.{Product, out-Product}
use Rattle.c_parser.specs.declared.tree.Unary.{Unary, out-Unary}
use Rattle.c_parser.specs.declared.tree.Compare.{Compare, out-Compare}
use Rattle.c_parser.specs.declared.tree.Equal.{Equal, out-Equal}
use Rattle.c_parser.specs.declared.tree.And.{And, out-And}
use Rattle.c_parser.specs.declared.tree.Or.{Or, out-Or}
use Rattle.region_trees.specs.Terms.{Operation, Conjunction, Disjunction, Term, Joined, Located, of_rel, of_equal, of_sum, of_product, all_signed, sum_of, value_of, product_of, unary_of, primary_of, compare_of, equal_of, and_of, or_of}
use Rattle.region_trees.specs.Layers.{joined_by, all_by, some_by, term_of_sum, sum_is, product_is, unary_is, compare_is, equal_is, and_is, or_is}
use Rattle.region_rules.specs.declared.facts.Facts.{Facts}
use Rattle.region_rules.specs.Facts.{facts_of, signed, join, next_facts, all_facts}
use Rattle.region_rules.proofs.Joins.{signed_facts, joined_facts}

-- ---- operands

-- of the operands from the left, behind what stands before them
abbrev pub operands : {S X : Type 0} → (S → Operation) → (X → Facts) → Facts → List (S × X) → Facts
operands of says left [] = left
operands of says left (x ∷ xs) = operands of says (join (of x.0) left (says x.1)) xs

operands_are : {S X : Type 0} (of : S → Operation) (says : X → Term) (left : Term) (xs : List (S × X))
    → facts_of (joined_by of says left xs) ≡ operands of (λ x. facts_of (says x)) (facts_of left) xs
operands_are of says left [] = refl
operands_are of says left (x ∷ xs) =
    operands_are of says (Joined (of x.0) left (says x.1)) xs
    ∙ ap (λ f. operands of (λ x. facts_of (says x)) f xs) (joined_facts (of x.0) left (says x.1))

-- of one or more operands with `&&` or `||` between
abbrev pub items : {X : Type 0} → (X → Facts) → Option Facts → List X → Facts
items says before [] = all_facts before
items says before (x ∷ xs) = items says (Some (next_facts before (says x))) xs

abbrev IsJunction : Operation → Type 0
IsJunction operation = (left right : Facts) → join operation left right ≡ join Conjunction left right

items_behind : {X : Type 0} (operation : Operation) → IsJunction operation → (says : X → Term) (left : Term) (xs : List X)
    → facts_of (all_by operation says left xs) ≡ items (λ x. facts_of (says x)) (Some (facts_of left)) xs
items_behind operation is says left [] = refl
items_behind operation is says left (x ∷ xs) =
    items_behind operation is says (Joined operation left (says x)) xs
    ∙ ap (λ f. items (λ x. facts_of (says x)) (Some f) xs) (joined_facts operation left (says x) ∙ is (facts_of left) (facts_of (says x)))

items_are : {X : Type 0} (operation : Operation) → IsJunction operation → (says : X → Term) (xs : List X)
    → facts_of (some_by operation says xs) ≡ items (λ x. facts_of (says x)) None xs
items_are operation is says [] = refl
items_are operation is says (x ∷ xs) = items_behind operation is says (says x) xs

-- ---- signs

abbrev pub all_signs : List UnarySign → Facts → Facts
all_signs [] of = of
all_signs (sign ∷ signs) of = signed sign (all_signs signs of)

signs_are : (signs : List UnarySign) (of : Term) → facts_of (all_signed signs of) ≡ all_signs signs (facts_of of)
signs_are [] of = refl
signs_are (sign ∷ signs) of = signed_facts sign (all_signed signs of) ∙ ap (signed sign) (signs_are signs of)

-- the order of signs does not matter
two_signs : (a b : UnarySign) (of : Facts) → signed a (signed b of) ≡ signed b (signed a of)
two_signs un.Plus un.Plus of = refl
two_signs un.Plus un.Minus of = refl
two_signs un.Plus un.Not of = refl
two_signs un.Minus un.Plus of = refl
two_signs un.Minus un.Minus of = refl
two_signs un.Minus un.Not of = refl
two_signs un.Not un.Plus of = refl
two_signs un.Not un.Minus of = refl
two_signs un.Not un.Not of = refl

pub sign_first : (sign : UnarySign) (signs : List UnarySign) (of : Facts) → all_signs signs (signed sign of) ≡ all_signs (sign ∷ signs) of
sign_first sign [] of = refl
sign_first sign (s ∷ signs) of = ap (signed s) (sign_first sign signs of) ∙ two_signs s sign (all_signs signs of)

-- ---- the forms of the tree

abbrev pub sum_says : List ℕ → Sum → Facts
sum_says source s = facts_of (sum_of source s).term

abbrev pub value_says : List ℕ → Value → Facts
value_says source v = facts_of (value_of source v).term

abbrev pub product_says : List ℕ → Product → Facts
product_says source x = facts_of (product_of source x)

abbrev pub unary_says : List ℕ → Unary → Facts
unary_says source x = facts_of (unary_of source x)

abbrev pub compare_says : List ℕ → Compare → Facts
compare_says source x = facts_of (compare_of source x)

abbrev pub equal_says : List ℕ → Equal → Facts
equal_says source x = facts_of (equal_of source x)

abbrev pub and_says : List ℕ → And → Facts
and_says source x = facts_of (and_of source x)

pub sum_facts_are : (source : List ℕ) (x : Sum) → sum_says source x ≡ operands of_sum (product_says source) (product_says source (out-Sum x).first) (out-Sum x).rest
sum_facts_are source x =
    ap (λ (s : Located). facts_of s.term) (sum_is source x) ∙ operands_are of_sum (product_of source) (product_of source (out-Sum x).first) (out-Sum x).rest

pub product_facts_are : (source : List ℕ) (x : Product)
    → product_says source x ≡ operands of_product (unary_says source) (unary_says source (out-Product x).first) (out-Product x).rest
product_facts_are source x =
    ap facts_of (product_is source x) ∙ operands_are of_product (unary_of source) (unary_of source (out-Product x).first) (out-Product x).rest

pub compare_facts_are : (source : List ℕ) (x : Compare)
    → compare_says source x ≡ operands of_rel (sum_says source) (sum_says source (out-Compare x).first) (out-Compare x).rest
compare_facts_are source x =
    ap facts_of (compare_is source x) ∙ operands_are of_rel (term_of_sum source) (term_of_sum source (out-Compare x).first) (out-Compare x).rest

pub equal_facts_are : (source : List ℕ) (x : Equal)
    → equal_says source x ≡ operands of_equal (compare_says source) (compare_says source (out-Equal x).first) (out-Equal x).rest
equal_facts_are source x =
    ap facts_of (equal_is source x) ∙ operands_are of_equal (compare_of source) (compare_of source (out-Equal x).first) (out-Equal x).rest

pub and_facts_are : (source : List ℕ) (x : And) → and_says source x ≡ items (equal_says source) None (out-And x).items
and_facts_are source x = ap facts_of (and_is source x) ∙ items_are Conjunction (λ l r. refl) (equal_of source) (out-And x).items

pub or_facts_are : (source : List ℕ) (x : Or) → facts_of (or_of source x) ≡ items (and_says source) None (out-Or x).items
or_facts_are source x = ap facts_of (or_is source x) ∙ items_are Disjunction (λ l r. refl) (and_of source) (out-Or x).items

pub unary_facts_are : (source : List ℕ) (x : Unary) → unary_says source x ≡ all_signs (out-Unary x).signs (facts_of (primary_of source (out-Unary x).primary))
unary_facts_are source x = ap facts_of (unary_is source x) ∙ signs_are (out-Unary x).signs (primary_of source (out-Unary x).primary)

-- ---- from what loops show

pub by_sum : (source : List ℕ) (x : Sum) (f : Facts) → f ≡ operands of_sum (product_says source) (product_says source (out-Sum x).first) (out-Sum x).rest
    → f ≡ facts_of (sum_of source x).term
by_sum source x f e = e ∙ sym (sum_facts_are source x)

pub by_product : (source : List ℕ) (x : Product) (f : Facts)
    → f ≡ operands of_product (unary_says source) (unary_says source (out-Product x).first) (out-Product x).rest → f ≡ facts_of (product_of source x)
by_product source x f e = e ∙ sym (product_facts_are source x)

pub by_compare : (source : List ℕ) (x : Compare) (f : Facts)
    → f ≡ operands of_rel (sum_says source) (sum_says source (out-Compare x).first) (out-Compare x).rest → f ≡ facts_of (compare_of source x)
by_compare source x f e = e ∙ sym (compare_facts_are source x)

pub by_equal : (source : List ℕ) (x : Equal) (f : Facts)
    → f ≡ operands of_equal (compare_says source) (compare_says source (out-Equal x).first) (out-Equal x).rest → f ≡ facts_of (equal_of source x)
by_equal source x f e = e ∙ sym (equal_facts_are source x)

pub by_and : (source : List ℕ) (x : And) (f : Facts) → f ≡ items (equal_says source) None (out-And x).items → f ≡ facts_of (and_of source x)
by_and source x f e = e ∙ sym (and_facts_are source x)

pub by_or : (source : List ℕ) (x : Or) (f : Facts) → f ≡ items (and_says source) None (out-Or x).items → f ≡ facts_of (or_of source x)
by_or source x f e = e ∙ sym (or_facts_are source x)

pub by_unary : (source : List ℕ) (x : Unary) (f : Facts) → f ≡ all_signs (out-Unary x).signs (facts_of (primary_of source (out-Unary x).primary))
    → f ≡ facts_of (unary_of source x)
by_unary source x f e = e ∙ sym (unary_facts_are source x)
