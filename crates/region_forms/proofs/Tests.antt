-- The layers of conditions, by those of their parts.
use Rattle.std.proofs.Common.{◌≡◌, ◌∙◌, ℕ, ◌+◌, ◌<◌, ◌≤◌, suc, length, drop, get_or, arith, List, [], ◌∷◌, ◌++◌, Bool, true, false, not, Option, Some, None, refl, ap, sym, subst}
use Rattle.std.proofs.Math.Seq.{drop-cons}
use Rattle.std.specs.Prelude.{◌&&◌}
use Rattle.c_parser.specs.declared.tree.Rel.{Rel}
use Rattle.c_parser.specs.declared.tree.EqualSign.{EqualSign}
use Rattle.c_parser.specs.declared.tree.EqualSign.TheVariants as eq
use Rattle.c_parser.specs.declared.tree.SumSign.{SumSign}
use Rattle.c_parser.specs.declared.tree.SumSign.TheVariants as sm
use Rattle.c_parser.specs.declared.tree.ProductSign.{ProductSign}
use Rattle.c_parser.specs.declared.tree.ProductSign.TheVariants as pr
use Rattle.c_parser.specs.declared.tree.UnarySign.{UnarySign}
use Rattle.c_parser.specs.declared.tree.UnarySign.TheVariants as un
use Rattle.scop_data.specs.declared.affines.Affine.{Affine}
use Rattle.clan_extract.specs.Regions.{Comparison, IsEqual, IsUnequal, Condition, Compare, Both, Either, Opposite, Expression, Number, Name, Sum, Difference, Product, Negation, Remainder}
use Rattle.clan_extract.specs.Scops.{is_condition, is_equality, is_zero}
use Rattle.clan_rows.specs.Fitting.{checked_form}
use Rattle.clan_rows.specs.Layers.{LayerData, comparison_layer, condition_layer, crossed_layers, in_turn_layers, remainder_layer}
use Rattle.clan_rows.proofs.LayerLaws.{both_true_layer, both_false_layer, either_true_layer, either_false_layer, is_remainder, opposite_layer, compare_layer, remainder_compare_layer}
use Rattle.region_trees.specs.Terms.{Operation, Plus, Minus, Times, Divide, Modulo, Conjunction, Disjunction, Compares, Term, Integer, Literal, Named, Call, Bracket, Joined, Signed, Choice, Terms, NoTerms, More, all_signed, of_equal, of_product, of_rel, of_sum, order_of}
use Rattle.region_trees.specs.Regions.{combined, compared, condition_of, expression_of, first_some, integer_of, option_map, option_map2, plain, remainder_of, signed}
use Rattle.region_trees.specs.Layers.{all_by, joined_by, some_by}
use Rattle.region_forms.specs.Evaluations.{EvaluationData, IsValue, QuotientData}
use Rattle.region_forms.specs.Conditions.{AreSidesAt, AreTestsAt, IsTest, IsTestAt, IsThere, asked, behind, joined_layer, made_layer, turned}
use Rattle.region_forms.specs.declared.scopes.Scope.{Scope}
use Rattle.clan_rows.specs.declared.layers.Layer.{Layer}
use Rattle.clan_rows.specs.Contents.{said}
use Rattle.region_forms.proofs.Trees.{all_more, joined_ends}
use Rattle.region_forms.proofs.Values.{made_from, made_of}

false_is_not_true : false ≡ true → ⊥
false_is_not_true e = cc

both_hold : (a b : Bool) → (a && b) ≡ true → (a ≡ true) × (b ≡ true)
both_hold true b e = (refl, e)
both_hold false b e = absurd (false_is_not_true e)

-- ---- what is joined

pub test_both : (parameters loops : List (List ℕ)) (truth : Bool) (l r : Term) (a b : LayerData) → IsTest parameters loops truth (condition_of l) a
    → IsTest parameters loops truth (condition_of r) b → IsTest parameters loops truth (condition_of (Joined Conjunction l r)) (joined_layer truth (Some a) b)
test_both parameters loops true l r a b p q c is rules =
    let made = made_of Both (condition_of l) (condition_of r) c is in
    let fine = both_hold (is_condition made.left) (is_condition made.right) (subst (λ x. is_condition x ≡ true) made.made rules) in
    ap (λ x. crossed_layers x b) (p made.left made.left_is fine.0)
    ∙ ap (crossed_layers (condition_layer parameters loops true made.left)) (q made.right made.right_is fine.1)
    ∙ sym (both_true_layer parameters loops made.left made.right) ∙ ap (condition_layer parameters loops true) (sym made.made)
test_both parameters loops false l r a b p q c is rules =
    let made = made_of Both (condition_of l) (condition_of r) c is in
    let fine = both_hold (is_condition made.left) (is_condition made.right) (subst (λ x. is_condition x ≡ true) made.made rules) in
    ap (λ x. in_turn_layers x b) (p made.left made.left_is fine.0)
    ∙ ap (in_turn_layers (condition_layer parameters loops false made.left)) (q made.right made.right_is fine.1)
    ∙ sym (both_false_layer parameters loops made.left made.right) ∙ ap (condition_layer parameters loops false) (sym made.made)

pub test_either : (parameters loops : List (List ℕ)) (truth : Bool) (l r : Term) (a b : LayerData) → IsTest parameters loops truth (condition_of l) a
    → IsTest parameters loops truth (condition_of r) b → IsTest parameters loops truth (condition_of (Joined Disjunction l r)) (joined_layer (not truth) (Some a) b)
test_either parameters loops true l r a b p q c is rules =
    let made = made_of Either (condition_of l) (condition_of r) c is in
    let fine = both_hold (is_condition made.left) (is_condition made.right) (subst (λ x. is_condition x ≡ true) made.made rules) in
    ap (λ x. in_turn_layers x b) (p made.left made.left_is fine.0)
    ∙ ap (in_turn_layers (condition_layer parameters loops true made.left)) (q made.right made.right_is fine.1)
    ∙ sym (either_true_layer parameters loops made.left made.right) ∙ ap (condition_layer parameters loops true) (sym made.made)
test_either parameters loops false l r a b p q c is rules =
    let made = made_of Either (condition_of l) (condition_of r) c is in
    let fine = both_hold (is_condition made.left) (is_condition made.right) (subst (λ x. is_condition x ≡ true) made.made rules) in
    ap (λ x. crossed_layers x b) (p made.left made.left_is fine.0)
    ∙ ap (crossed_layers (condition_layer parameters loops false made.left)) (q made.right made.right_is fine.1)
    ∙ sym (either_false_layer parameters loops made.left made.right) ∙ ap (condition_layer parameters loops false) (sym made.made)

-- what is no condition asks nothing
pub test_nothing : (parameters loops : List (List ℕ)) (truth : Bool) (x : Option Condition) (l : LayerData) → x ≡ None → IsTest parameters loops truth x l
test_nothing parameters loops truth x l none c is rules = absurd (cc)

-- ---- signs

pub test_signs : (parameters loops : List (List ℕ)) (signs : List UnarySign) (truth : Bool) (t : Term) (l : LayerData)
    → IsTest parameters loops (turned truth signs) (condition_of t) l → IsTest parameters loops truth (condition_of (all_signed signs t)) l
test_signs parameters loops [] truth t l p c is rules = p c is rules
test_signs parameters loops (un.Plus ∷ signs) truth t l p c is rules = absurd (cc)
test_signs parameters loops (un.Minus ∷ signs) truth t l p c is rules = absurd (cc)
test_signs parameters loops (un.Not ∷ signs) truth t l p c is rules =
    let made = made_from Opposite (condition_of (all_signed signs t)) c is in
    test_signs parameters loops signs (not truth) t l p made.of made.of_is (subst (λ x. is_condition x ≡ true) made.made rules)
    ∙ sym (opposite_layer parameters loops truth made.of) ∙ ap (condition_layer parameters loops truth) (sym made.made)

-- the truth behind the signs up to one, and behind that one
pub turned_more : (truth : Bool) (signs : List UnarySign) (k : ℕ) (d x : UnarySign) → k < length signs → get_or signs k d ≡ x
    → turned (behind truth x) (drop (k + 1) signs) ≡ turned truth (drop k signs)
turned_more truth signs k d x within same =
    let next : k + 1 ≡ suc k = omega arith in
    ap (λ y. turned (behind truth y) (drop (k + 1) signs)) (sym same) ∙ ap (λ n. turned (behind truth (get_or signs k d)) (drop n signs)) next
    ∙ sym (ap (turned truth) (drop-cons signs k d within))

-- ---- operand by operand, in a loop

pub tests_either : {X : Type 0} (scope : Scope) (truth : Bool) (says : X → Term) (xs : List X) (x : Option LayerData) (y : X) (n : LayerData)
    → AreTestsAt scope truth Disjunction says xs x → IsTestAt scope truth (says y) n
    → AreTestsAt scope truth Disjunction says (xs ++ y ∷ []) (Some (joined_layer (not truth) x n))
tests_either scope truth says [] None y n p q = q
tests_either scope truth says [] (Some l) y n p q = absurd p
tests_either scope truth says (z ∷ zs) None y n p q = absurd p
tests_either scope truth says (z ∷ zs) (Some l) y n p q =
    subst (λ t. IsTestAt scope truth t (joined_layer (not truth) (Some l) n)) (sym (all_more Disjunction says (says z) zs y))
    (test_either scope.parameters.now scope.loops.now truth (all_by Disjunction says (says z) zs) (says y) l n p q)

pub tests_both : {X : Type 0} (scope : Scope) (truth : Bool) (says : X → Term) (xs : List X) (x : Option LayerData) (y : X) (n : LayerData)
    → AreTestsAt scope truth Conjunction says xs x → IsTestAt scope truth (says y) n
    → AreTestsAt scope truth Conjunction says (xs ++ y ∷ []) (Some (joined_layer truth x n))
tests_both scope truth says [] None y n p q = q
tests_both scope truth says [] (Some l) y n p q = absurd p
tests_both scope truth says (z ∷ zs) None y n p q = absurd p
tests_both scope truth says (z ∷ zs) (Some l) y n p q =
    subst (λ t. IsTestAt scope truth t (joined_layer truth (Some l) n)) (sym (all_more Conjunction says (says z) zs y))
    (test_both scope.parameters.now scope.loops.now truth (all_by Conjunction says (says z) zs) (says y) l n p q)

-- the layer of all operands, or of none
pub tests_all : {X : Type 0} (scope : Scope) (truth : Bool) (operation : Operation) (says : X → Term) (xs : List X) (x : Option Layer) (l : Layer)
    → AreTestsAt scope truth operation says xs (made_layer x) → IsThere x l → IsTestAt scope truth (some_by operation says xs) (said l)
tests_all scope truth operation says [] x l p q = test_nothing scope.parameters.now scope.loops.now truth None (said l) refl
tests_all scope truth operation says (y ∷ ys) None l p q = absurd p
tests_all scope truth operation says (y ∷ ys) (Some m) l p q = subst (λ k. IsTestAt scope truth (all_by operation says (says y) ys) (said k)) (sym q) p

-- ---- comparisons

-- the one of two that is there
first_of : {A B : Type 0} (x y : Option A) (a : A) → first_some x y ≡ Some a → (x ≡ Some a → B) → (x ≡ None → y ≡ Some a → B) → B
first_of None y a e f g = g refl e
first_of (Some b) y a e f g = f e

-- the layer by what was evaluated
abbrev pub sides_by : Comparison → Option QuotientData → Option Affine → Option Affine → LayerData
sides_by comparison (Some q) f g = remainder_layer comparison q.dividend q.divisor
sides_by comparison None f g = comparison_layer comparison f g

remainder_sides : (parameters loops : List (List ℕ)) (truth : Bool) (comparison : Comparison) (l r : Term) (v w : EvaluationData)
    → IsValue parameters loops l v → (c : Condition)
    → option_map2 (Compare comparison) (remainder_of l) (option_map Number (integer_of r)) ≡ Some c → is_condition c ≡ true
    → sides_by (asked truth comparison) v.quotient v.form w.form ≡ condition_layer parameters loops truth c
remainder_sides parameters loops truth comparison l r v w p c is rules =
    let made = made_of (Compare comparison) (remainder_of l) (option_map Number (integer_of r)) c is in
    let divided = p.remainder made.left made.left_is in
    let here : c ≡ Compare comparison (Remainder divided.dividend divided.divisor) made.right =
    made.made ∙ ap (λ e. Compare comparison e made.right) divided.remainder_is in
    let fine = both_hold (is_equality comparison && is_zero made.right) _ (subst (λ x. is_condition x ≡ true) here rules) in
    let zero = (both_hold (is_equality comparison) (is_zero made.right) fine.0).1 in
    ap (λ q. sides_by (asked truth comparison) q v.form w.form) divided.says
    ∙ sym (remainder_compare_layer parameters loops truth comparison divided.dividend divided.divisor made.right zero)
    ∙ ap (condition_layer parameters loops truth) (sym here)

-- no expression is a remainder
plain_whole : (name : List ℕ) (ts : Terms) (e : Expression) → plain name ts ≡ Some e → is_remainder e ≡ false
plain_whole name NoTerms e is = let same : Name name ≡ e = cc in subst (λ x. is_remainder x ≡ false) same refl
plain_whole name (More at first rest) e is = absurd (cc)

signed_whole : (sign : UnarySign) (x : Option Expression) (e : Expression) → ((y : Expression) → x ≡ Some y → is_remainder y ≡ false) → signed sign x ≡ Some e
    → is_remainder e ≡ false
signed_whole un.Plus x e h is = h e is
signed_whole un.Minus x e h is = subst (λ y. is_remainder y ≡ false) (sym (made_from Negation x e is).made) refl
signed_whole un.Not x e h is = absurd (cc)

combined_whole : (operation : Operation) (x y : Option Expression) (e : Expression) → combined operation x y ≡ Some e → is_remainder e ≡ false
combined_whole Plus x y e is = subst (λ y. is_remainder y ≡ false) (sym (made_of Sum x y e is).made) refl
combined_whole Minus x y e is = subst (λ y. is_remainder y ≡ false) (sym (made_of Difference x y e is).made) refl
combined_whole Times x y e is = subst (λ y. is_remainder y ≡ false) (sym (made_of Product x y e is).made) refl
combined_whole Divide x y e is = absurd (cc)
combined_whole Modulo x y e is = absurd (cc)
combined_whole Conjunction x y e is = absurd (cc)
combined_whole Disjunction x y e is = absurd (cc)
combined_whole (Compares comparison) x y e is = absurd (cc)

whole : (t : Term) (e : Expression) → expression_of t ≡ Some e → is_remainder e ≡ false
whole (Integer value) e is = let same : Number value ≡ e = cc in subst (λ x. is_remainder x ≡ false) same refl
whole Literal e is = absurd (cc)
whole (Named name at subscripts) e is = plain_whole name subscripts e is
whole (Call name at arguments) e is = absurd (cc)
whole (Bracket of) e is = whole of e is
whole (Signed sign of) e is = signed_whole sign (expression_of of) e (whole of) is
whole (Joined operation left right) e is = combined_whole operation (expression_of left) (expression_of right) e is
whole (Choice test one other) e is = absurd (cc)

expression_sides : (parameters loops : List (List ℕ)) (truth : Bool) (comparison : Comparison) (l r : Term) (v w : EvaluationData)
    → IsValue parameters loops l v → IsValue parameters loops r w → (c : Condition)
    → option_map2 (Compare comparison) (expression_of l) (expression_of r) ≡ Some c
    → sides_by (asked truth comparison) v.quotient v.form w.form ≡ condition_layer parameters loops truth c
expression_sides parameters loops truth comparison l r v w p q c is =
    let made = made_of (Compare comparison) (expression_of l) (expression_of r) c is in
    let left = p.expression made.left made.left_is in
    let right = q.expression made.right made.right_is in
    ap (λ x. sides_by (asked truth comparison) x v.form w.form) left.whole
    ∙ ap (λ x. comparison_layer (asked truth comparison) x w.form) left.form_is
    ∙ ap (comparison_layer (asked truth comparison) (checked_form parameters loops made.left)) right.form_is
    ∙ sym (compare_layer parameters loops truth comparison made.left made.right (whole l made.left made.left_is))
    ∙ ap (condition_layer parameters loops truth) (sym made.made)

pub test_sides : (parameters loops : List (List ℕ)) (truth : Bool) (comparison : Comparison) (l r : Term) (v w : EvaluationData)
    → IsValue parameters loops l v → IsValue parameters loops r w
    → IsTest parameters loops truth (compared comparison l r) (sides_by (asked truth comparison) v.quotient v.form w.form)
test_sides parameters loops truth comparison l r v w p q c is rules =
    first_of (option_map2 (Compare comparison) (remainder_of l) (option_map Number (integer_of r)))
    (option_map2 (Compare comparison) (expression_of l) (expression_of r)) c is
    (λ e. remainder_sides parameters loops truth comparison l r v w p c e rules)
    (λ none e. expression_sides parameters loops truth comparison l r v w p q c e)

-- ---- what is no condition

-- a comparison whose left side is one, or whose right side is one
left_compared : (c d : Comparison) (a b r : Term) → compared c (Joined (Compares d) a b) r ≡ None
left_compared c d a b r = refl

none_right : {A B C : Type 0} (f : A → B → C) (x : Option A) → option_map2 f x None ≡ None
none_right f None = refl
none_right f (Some a) = refl

right_compared : (c d : Comparison) (l a b : Term) → compared c l (Joined (Compares d) a b) ≡ None
right_compared c d l a b =
    ap (λ x. first_some x (option_map2 (Compare c) (expression_of l) None)) (none_right (Compare c) (remainder_of l)) ∙ none_right (Compare c) (expression_of l)

-- signs that compare
abbrev pub Comparing : {S : Type 0} → (S → Operation) → Type 0
Comparing {S} of = (s : S) → (c : Comparison) × (of s ≡ Compares c)

pub rels_compare : Comparing of_rel
rels_compare s = (order_of s, refl)

pub equals_compare : Comparing of_equal
equals_compare eq.Same = (IsEqual, refl)
equals_compare eq.Differ = (IsUnequal, refl)

twice_compared : (o p : Operation) (c d : Comparison) (a b r : Term) → o ≡ Compares c → p ≡ Compares d → condition_of (Joined o (Joined p a b) r) ≡ None
twice_compared o p c d a b r e f =
    ap (λ x. condition_of (Joined x (Joined p a b) r)) e ∙ ap (λ x. compared c (Joined x a b) r) f

-- more than one comparison in a row
pub many_compared : {S X : Type 0} (of : S → Operation) (says : X → Term) → Comparing of → (s : S) (a b : Term) (x : S × X) (xs : List (S × X))
    → condition_of (joined_by of says (Joined (of s) a b) (x ∷ xs)) ≡ None
many_compared of says h s a b x [] = twice_compared (of x.0) (of s) (h x.0).0 (h s).0 a b (says x.1) (h x.0).1 (h s).1
many_compared of says h s a b x (y ∷ xs) = many_compared of says h x.0 (Joined (of s) a b) (says x.1) y xs

pub two_compared : {S X : Type 0} (of : S → Operation) (says : X → Term) (left : Term) (xs : List (S × X)) → Comparing of → 2 ≤ length xs
    → condition_of (joined_by of says left xs) ≡ None
two_compared of says left [] h some = absurd (omega (arith, some))
two_compared of says left (x ∷ []) h some = absurd (omega (arith, some))
two_compared of says left (x ∷ (y ∷ xs)) h some = many_compared of says h x.0 left (says x.1) y xs

-- a side that compares
abbrev is_comparison : Term → Type 0
is_comparison t = (d : Comparison) × (a : Term) × (b : Term) × (t ≡ Joined (Compares d) a b)

comparison_by : (o : Operation) (c : Comparison) (l r : Term) → o ≡ Compares c → is_comparison (Joined o l r)
comparison_by o c l r e = (c, l, r, ap (λ x. Joined x l r) e)

rel_comparison : {X : Type 0} (says : X → Term) (left : Term) (xs : List (Rel × X)) → ¬ (xs ≡ []) → is_comparison (joined_by of_rel says left xs)
rel_comparison says left [] some = absurd (some refl)
rel_comparison says left (x ∷ xs) some = joined_ends is_comparison of_rel says left x xs (λ s l r. comparison_by (of_rel s) (order_of s) l r refl)

pub left_side : {X : Type 0} (sign : EqualSign) (says : X → Term) (left : Term) (xs : List (Rel × X)) (r : Term) → ¬ (xs ≡ [])
    → condition_of (Joined (of_equal sign) (joined_by of_rel says left xs) r) ≡ None
left_side sign says left xs r some =
    let side = rel_comparison says left xs some in
    let compares = equals_compare sign in
    ap (λ x. condition_of (Joined x (joined_by of_rel says left xs) r)) compares.1 ∙ ap (λ t. compared compares.0 t r) side.3

pub right_side : {X : Type 0} (sign : EqualSign) (says : X → Term) (left : Term) (xs : List (Rel × X)) (l : Term) → ¬ (xs ≡ [])
    → condition_of (Joined (of_equal sign) l (joined_by of_rel says left xs)) ≡ None
right_side sign says left xs l some =
    let side = rel_comparison says left xs some in
    let compares = equals_compare sign in
    ap (λ x. condition_of (Joined x l (joined_by of_rel says left xs))) compares.1 ∙ ap (λ t. compared compares.0 l t) side.3
    ∙ right_compared compares.0 side.0 l side.1 side.2

-- sums and products
abbrev NoCondition : Term → Type 0
NoCondition t = condition_of t ≡ None

sum_signs : (s : SumSign) (l r : Term) → NoCondition (Joined (of_sum s) l r)
sum_signs sm.Plus l r = refl
sum_signs sm.Minus l r = refl

product_signs : (s : ProductSign) (l r : Term) → NoCondition (Joined (of_product s) l r)
product_signs pr.Times l r = refl
product_signs pr.Divide l r = refl
product_signs pr.Remainder l r = refl

pub sum_is_none : {X : Type 0} (says : X → Term) (left : Term) (xs : List (SumSign × X)) → ¬ (xs ≡ []) → NoCondition (joined_by of_sum says left xs)
sum_is_none says left [] some = absurd (some refl)
sum_is_none says left (x ∷ xs) some = joined_ends NoCondition of_sum says left x xs sum_signs

pub product_is_none : {X : Type 0} (says : X → Term) (left : Term) (xs : List (ProductSign × X)) → ¬ (xs ≡ []) → NoCondition (joined_by of_product says left xs)
product_is_none says left [] some = absurd (some refl)
product_is_none says left (x ∷ xs) some = joined_ends NoCondition of_product says left x xs product_signs

-- a comparison of two sums by an equality
pub equal_sides : (scope : Scope) (truth : Bool) (sign : EqualSign) (c : Comparison) (l r : Term) (layer : LayerData) → of_equal sign ≡ Compares c
    → AreSidesAt scope truth c l r layer → IsTestAt scope truth (Joined (of_equal sign) l r) layer
equal_sides scope truth sign c l r layer e h = subst (λ o. IsTestAt scope truth (Joined o l r) layer) (sym e) h
