use Rattle.std.proofs.Common.{◌≡◌, ◌∙◌, ◌<◌, ◌≤◌, List, [], ◌∷◌, ◌++◌, Some, None, ap, refl, sym, subst, rules, get_or, length, take}
use Rattle.std.proofs.lemmas.List.{take_all, take_more}
use Rattle.std.proofs.Common.{ℕ, Bool}
use Rattle.c_parser.specs.declared.tree.And.{out-And}
use Rattle.c_parser.specs.declared.tree.Compare.{Compare, out-Compare}
use Rattle.c_parser.specs.declared.tree.EqualSign.{EqualSign}
use Rattle.c_parser.specs.declared.tree.Equal.{out-Equal}
use Rattle.c_parser.specs.declared.tree.Primary.{Primary}
use Rattle.c_parser.specs.declared.tree.Primary.TheVariants as pri
use Rattle.c_parser.specs.declared.tree.Product.{out-Product}
use Rattle.c_parser.specs.declared.tree.Sum.{out-Sum}
use Rattle.c_parser.specs.declared.tree.Unary.{Unary, out-Unary}
use Rattle.c_parser.specs.declared.tree.Or.{out-Or}
use Rattle.clan_rows.specs.Comparisons.{meaning_of}
use Rattle.clan_rows.specs.Contents.{said}
use Rattle.clan_rows.specs.Layers.{LayerData}
use Rattle.region_trees.specs.Regions.{condition_of}
use Rattle.region_trees.specs.Terms.{Compares, Conjunction, Disjunction, Joined, Located, Term, and_of, compare_of, equal_of, of_equal, of_rel, of_sum, primary_of, product_of, unary_of, value_of}
use Rattle.region_trees.specs.Layers.{and_is, compare_is, equal_is, joined_by, or_is, primary_is, primary_layer, product_is, sum_is, term_of_sum, unary_is}
use Rattle.region_forms.specs.declared.scopes.Scope.{Scope}
use Rattle.region_forms.specs.Conditions.{AreTestsAt, IsTest, IsTestAt, made_layer, turned}
use Rattle.region_forms.proofs.Tests.{equal_sides, equals_compare, left_side, product_is_none, rels_compare, right_side, sum_is_none, test_nothing, test_signs, tests_all, tests_both, tests_either, two_compared}
use Rattle.region_forms.proofs.Trees.{any_default, bracket_is, compare_sum, lone_equal, no_equal, ok_map}
use Rattle.region_forms.proofs.conditions.+conditions.Goals as goal

pub and_layer-loop-equal-preserved : goal.and_layer-loop-equal-preserved
and_layer-loop-equal-preserved t c =
    let scope = c.args.scope.now in
    let items = (out-And c.args.«and».now).items in
    let at = c.loop-equal.equal-index in
    let here = c.as_slice-equal-items.ensures in
    let more = take_more items at c.equal-item.result (subst (λ xs. at < length xs) here c.loop-equal-test.true)
    ∙ ap (λ y. take at items ++ y ∷ []) (ap (λ xs. get_or xs at c.equal-item.result) (sym here) ∙ sym c.equal-item.is) in
    subst (λ xs. AreTestsAt scope c.args.truth Conjunction (equal_of scope.source.now) xs (Some (said c.in_ok-joined.field-0))) (sym more)
    (subst (λ l. AreTestsAt scope c.args.truth Conjunction (equal_of scope.source.now) (take at items ++ c.equal-item.result ∷ []) (Some l)) (sym c.in_ok-joined.ensures)
    (tests_both scope c.args.truth (equal_of scope.source.now) (take at items) (made_layer c.loop-equal.layer) c.equal-item.result (said c.in_ok-next.next)
    c.loop-equal.invariant c.in_ok-next.ensures))

pub and_layer-returns : goal.and_layer-returns
and_layer-returns t c =
    let scope = c.args.scope.now in
    let items = (out-And c.args.«and».now).items in
    let at = c.loop-equal.equal-index in
    let all = take_all at items (subst (λ xs. length xs ≤ at) c.as_slice-equal-items.ensures c.loop-equal-test.false) in
    subst (λ x. IsTestAt scope c.args.truth x (said c.layer_or_none.result)) (sym (and_is scope.source.now c.args.«and».now))
    (tests_all scope c.args.truth Conjunction (equal_of scope.source.now) items c.loop-equal.layer c.layer_or_none.result
    (subst (λ xs. AreTestsAt scope c.args.truth Conjunction (equal_of scope.source.now) xs (made_layer c.loop-equal.layer)) all c.loop-equal.invariant)
    c.layer_or_none.ensures)

pub or_layer-loop-and-preserved : goal.or_layer-loop-and-preserved
or_layer-loop-and-preserved t c =
    let scope = c.args.scope.now in
    let items = (out-Or c.args.or.now).items in
    let at = c.loop-and.and-index in
    let here = c.as_slice-and-items.ensures in
    let more = take_more items at c.and-item.result (subst (λ xs. at < length xs) here c.loop-and-test.true)
    ∙ ap (λ y. take at items ++ y ∷ []) (ap (λ xs. get_or xs at c.and-item.result) (sym here) ∙ sym c.and-item.is) in
    subst (λ xs. AreTestsAt scope c.args.truth Disjunction (and_of scope.source.now) xs (Some (said c.in_ok-joined.field-0))) (sym more)
    (subst (λ l. AreTestsAt scope c.args.truth Disjunction (and_of scope.source.now) (take at items ++ c.and-item.result ∷ []) (Some l)) (sym c.in_ok-joined.ensures)
    (tests_either scope c.args.truth (and_of scope.source.now) (take at items) (made_layer c.loop-and.layer) c.and-item.result (said c.in_ok-next.next)
    c.loop-and.invariant c.in_ok-next.ensures))

pub or_layer-returns : goal.or_layer-returns
or_layer-returns t c =
    let scope = c.args.scope.now in
    let items = (out-Or c.args.or.now).items in
    let at = c.loop-and.and-index in
    let all = take_all at items (subst (λ xs. length xs ≤ at) c.as_slice-and-items.ensures c.loop-and-test.false) in
    subst (λ x. IsTestAt scope c.args.truth x (said c.layer_or_none.result)) (sym (or_is scope.source.now c.args.or.now))
    (tests_all scope c.args.truth Disjunction (and_of scope.source.now) items c.loop-and.layer c.layer_or_none.result
    (subst (λ xs. AreTestsAt scope c.args.truth Disjunction (and_of scope.source.now) xs (made_layer c.loop-and.layer)) all c.loop-and.invariant)
    c.layer_or_none.ensures)

pub compare_layer-returns-in_default : goal.compare_layer-returns-in_default
compare_layer-returns-in_default t c =
    let source = c.args.scope.now.source.now in
    let x = c.args.compare.now in
    let some = subst (λ xs. 2 ≤ length xs) c.as_slice.ensures c.in_default.len_at_least in
    test_nothing c.args.scope.now.parameters.now c.args.scope.now.loops.now c.args.truth _ _
    (ap condition_of (compare_is source x) ∙ two_compared of_rel (term_of_sum source) (term_of_sum source (out-Compare x).first) (out-Compare x).rest rels_compare some)

pub equal_layer-returns-then-not-is_empty : goal.equal_layer-returns-then-not-is_empty
equal_layer-returns-then-not-is_empty t c =
    let source = c.args.scope.now.source.now in
    let x = c.args.equal.now in
    let y = (out-Equal x).first in
    let r = c.index-right-0.result in
    let whole = lone_equal source x c.as_slice.result.now r c.as_slice.ensures c.in-len1.len_at_least c.in-len1.len_below c.index-right-0.is in
    test_nothing c.args.scope.now.parameters.now c.args.scope.now.loops.now c.args.truth _ _
    (ap condition_of whole ∙ ap (λ t. condition_of (Joined (of_equal r.0) t (compare_of source r.1))) (compare_is source y)
    ∙ left_side r.0 (term_of_sum source) (term_of_sum source (out-Compare y).first) (out-Compare y).rest (compare_of source r.1)
    (λ none. absurd (search (c.if-not-is_empty.ensures.1 none, rules))))

pub equal_layer-returns-then-not-is_empty-2 : goal.equal_layer-returns-then-not-is_empty-2
equal_layer-returns-then-not-is_empty-2 t c =
    let source = c.args.scope.now.source.now in
    let x = c.args.equal.now in
    let r = c.index-right-0.result in
    let whole = lone_equal source x c.as_slice.result.now r c.as_slice.ensures c.in-len1.len_at_least c.in-len1.len_below c.index-right-0.is in
    test_nothing c.args.scope.now.parameters.now c.args.scope.now.loops.now c.args.truth _ _
    (ap condition_of whole ∙ ap (λ t. condition_of (Joined (of_equal r.0) (compare_of source (out-Equal x).first) t)) (compare_is source r.1)
    ∙ right_side r.0 (term_of_sum source) (term_of_sum source (out-Compare r.1).first) (out-Compare r.1).rest (compare_of source (out-Equal x).first)
    (λ none. absurd (search (c.if-not-is_empty-2.ensures.1 (ap (λ (y : EqualSign × Compare). (out-Compare y.1).rest) (sym c.index-right-0.is) ∙ none), rules))))

pub equal_layer-returns-in-empty : goal.equal_layer-returns-in-empty
equal_layer-returns-in-empty t c =
    let source = c.args.scope.now.source.now in
    let same = no_equal source c.args.equal.now c.as_slice.result.now c.as_slice.ensures c.in-empty.len_below in
    ok_map c.compare_layer.result _ _ (λ l p. subst (λ t. IsTestAt c.args.scope.now c.args.truth t (said l)) (sym same) p) c.compare_layer.ensures

pub equal_layer-returns-else-not-is_empty-2 : goal.equal_layer-returns-else-not-is_empty-2
equal_layer-returns-else-not-is_empty-2 t c =
    let scope = c.args.scope.now in
    let source = scope.source.now in
    let x = c.args.equal.now in
    let y = (out-Equal x).first in
    let r = get_or c.as_slice.result.now 0 c.index-right-0.result in
    let whole = lone_equal source x c.as_slice.result.now c.index-right-0.result c.as_slice.ensures c.in-len1.len_at_least c.in-len1.len_below c.index-right-0.is
    ∙ ap (λ (z : EqualSign × Compare). Joined (of_equal z.0) (compare_of source y) (compare_of source z.1)) c.index-right-0.is in
    let sign = subst (λ (z : EqualSign × Compare). of_equal z.0 ≡ Compares (meaning_of c.equality.result))
    (any_default c.as_slice.result.now c.index-sign-0.result c.index-right-0.result c.in-len1.len_at_least) c.equality.ensures in
    let sums = ap (λ t. Joined (of_equal r.0) t (compare_of source r.1)) (compare_sum source y (c.if-not-is_empty.ensures.0 refl))
    ∙ ap (λ t. Joined (of_equal r.0) (term_of_sum source (out-Compare y).first) t) (compare_sum source r.1 (c.if-not-is_empty-2.ensures.0 refl)) in
    ok_map c.sides_layer.result _ _
    (λ l p. subst (λ t. IsTestAt scope c.args.truth t (said l)) (sym (whole ∙ sums)) (equal_sides scope c.args.truth r.0 _ _ _ (said l) sign p))
    c.sides_layer.ensures

pub equal_layer-returns-in_default : goal.equal_layer-returns-in_default
equal_layer-returns-in_default t c =
    let source = c.args.scope.now.source.now in
    let x = c.args.equal.now in
    let some = subst (λ xs. 2 ≤ length xs) c.as_slice.ensures c.in_default.len_at_least in
    test_nothing c.args.scope.now.parameters.now c.args.scope.now.loops.now c.args.truth _ _
    (ap condition_of (equal_is source x) ∙ two_compared of_equal (compare_of source) (compare_of source (out-Equal x).first) (out-Equal x).rest equals_compare some)

pub sum_layer-returns-then-not-is_empty : goal.sum_layer-returns-then-not-is_empty
sum_layer-returns-then-not-is_empty t c =
    let source = c.args.scope.now.source.now in
    let x = c.args.sum.now in
    test_nothing c.args.scope.now.parameters.now c.args.scope.now.loops.now c.args.truth _ _
    (ap (λ (l : Located). condition_of l.term) (sum_is source x)
    ∙ sum_is_none (product_of source) (product_of source (out-Sum x).first) (out-Sum x).rest (λ none. absurd (search (c.if-not-is_empty.ensures.1 none, rules))))

pub sum_layer-returns-then-not-is_empty-2 : goal.sum_layer-returns-then-not-is_empty-2
sum_layer-returns-then-not-is_empty-2 t c =
    let source = c.args.scope.now.source.now in
    let x = c.args.sum.now in
    let y = (out-Sum x).first in
    test_nothing c.args.scope.now.parameters.now c.args.scope.now.loops.now c.args.truth _ _
    (ap (λ (l : Located). condition_of l.term) (sum_is source x)
    ∙ ap (λ xs. condition_of (joined_by of_sum (product_of source) (product_of source y) xs)) (c.if-not-is_empty.ensures.0 refl)
    ∙ ap condition_of (product_is source y)
    ∙ product_is_none (unary_of source) (unary_of source (out-Product y).first) (out-Product y).rest (λ none. absurd (search (c.if-not-is_empty-2.ensures.1 none, rules))))

no_operand : (source : List ℕ) (scope : Scope) (truth : Bool) (x : Unary) (p : Primary) (t : Term) (l : LayerData) → source ≡ scope.source.now → (out-Unary x).primary ≡ p
    → primary_of source p ≡ t → condition_of t ≡ None → IsTestAt scope truth (unary_of scope.source.now x) l
no_operand source scope truth x p t l same is says none =
    subst (λ y. IsTestAt scope truth y l) (sym (unary_is scope.source.now x))
    (test_signs scope.parameters.now scope.loops.now (out-Unary x).signs truth (primary_of scope.source.now (out-Unary x).primary) l
    (test_nothing scope.parameters.now scope.loops.now (turned truth (out-Unary x).signs) _ l
    (ap (λ q. condition_of (primary_of scope.source.now q)) is ∙ ap (λ s. condition_of (primary_of s p)) (sym same) ∙ ap condition_of says ∙ none)))

pub unary_layer-returns-in-Bracket : goal.unary_layer-returns-in-Bracket
unary_layer-returns-in-Bracket t c =
    let scope = c.args.scope.now in
    let source = scope.source.now in
    let x = c.args.unary.now in
    let same = ap (primary_of source) c.in-Bracket.is ∙ bracket_is source c.in-Bracket.value in
    ok_map c.condition_layer.result _ _
    (λ l p. subst (λ t. IsTestAt scope c.args.truth t (said l)) (sym (unary_is source x))
    (test_signs scope.parameters.now scope.loops.now (out-Unary x).signs c.args.truth (primary_of source (out-Unary x).primary) (said l)
    (subst (λ t. IsTest scope.parameters.now scope.loops.now (turned c.args.truth (out-Unary x).signs) (condition_of t) (said l)) (sym same)
    (subst (λ b. IsTest scope.parameters.now scope.loops.now b (condition_of (value_of source c.in-Bracket.value).term) (said l))
    (c.turned-truth.ensures ∙ ap (turned c.args.truth) c.as_slice.ensures)
    (subst (λ v. IsTestAt scope c.turned-truth.result (value_of source v).term (said l)) c.get.ensures p)))))
    c.condition_layer.ensures

pub unary_layer-returns-in-Integer : goal.unary_layer-returns-in-Integer
unary_layer-returns-in-Integer t c =
    let source = c.args.scope.now.source.now in
    no_operand source c.args.scope.now c.args.truth c.args.unary.now _ _ _ refl c.in-Integer.is (primary_is source (pri.Integer _) ∙ ap (primary_layer source) (pri.outs-Integer _)) refl

pub unary_layer-returns-in-Literal : goal.unary_layer-returns-in-Literal
unary_layer-returns-in-Literal t c =
    let source = c.args.scope.now.source.now in
    no_operand source c.args.scope.now c.args.truth c.args.unary.now _ _ _ refl c.in-Literal.is (primary_is source (pri.Literal _) ∙ ap (primary_layer source) (pri.outs-Literal _)) refl

pub unary_layer-returns-in-Target : goal.unary_layer-returns-in-Target
unary_layer-returns-in-Target t c =
    let source = c.args.scope.now.source.now in
    no_operand source c.args.scope.now c.args.truth c.args.unary.now _ _ _ refl c.in-Target.is (primary_is source (pri.Target _) ∙ ap (primary_layer source) (pri.outs-Target _)) refl

pub unary_layer-returns-in-Call : goal.unary_layer-returns-in-Call
unary_layer-returns-in-Call t c =
    let source = c.args.scope.now.source.now in
    no_operand source c.args.scope.now c.args.truth c.args.unary.now _ _ _ refl c.in-Call.is (primary_is source (pri.Call _ _) ∙ ap (primary_layer source) (pri.outs-Call _ _)) refl
