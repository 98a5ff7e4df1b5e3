use Rattle.std.proofs.Common.{◌≡◌, ◌∙◌, ap, refl, sym, subst, rules, get_or, length, ◌<◌, ◌≤◌}
use Rattle.region_trees.specs.Terms.{primary_of, value_of}
use Rattle.region_trees.specs.Layers.{unary_is}
use Rattle.std.proofs.Common.{Option, Some, None, false}
use Rattle.std.specs.Option.{is_some}
use Rattle.c_parser.specs.declared.tree.And.{And, out-And}
use Rattle.c_parser.specs.declared.tree.Arms.{Arms}
use Rattle.c_parser.specs.declared.tree.Value.{Value}
use Rattle.c_parser.specs.declared.tree.EqualSign.{EqualSign}
use Rattle.c_parser.specs.declared.tree.EqualSign.TheVariants as eq
use Rattle.c_parser.specs.declared.tree.Rel.{Rel}
use Rattle.region_trees.specs.Terms.{Joined, Term, of_equal, of_rel}
use Rattle.region_forms.specs.declared.scopes.Scope.{Scope}
use Rattle.region_forms.specs.Evaluations.{EvaluationData, IsValueAt, Signs, nothing, told}
use Rattle.region_forms.proofs.Operands.{agree, product_all, product_more, sum_all, sum_more}
use Rattle.region_forms.proofs.Values.{SaysNothing, value_of_bracket, value_of_nothing}
use Rattle.region_forms.proofs.Trees.{bracket_is, ends_at_and, ends_at_compare, ends_at_equal, ends_at_or, ends_at_sum, ok_map, only_item}
use Rattle.region_forms.proofs.sums.+sums.Goals as goal

pub primary_value-returns-in-Bracket : goal.primary_value-returns-in-Bracket
primary_value-returns-in-Bracket t c =
    let source = c.args.scope.now.source.now in
    let same = ap (primary_of source) c.in-Bracket.is ∙ bracket_is source c.in-Bracket.value in
    ok_map c.value_value.result _ _
    (λ v p. subst (λ t. IsValueAt c.args.scope.now t (told v)) (sym same)
    (value_of_bracket _ _ _ _ (subst (λ x. IsValueAt c.args.scope.now (value_of source x).term (told v)) c.get.ensures p)))
    c.value_value.ensures

pub unary_value-returns : goal.unary_value-returns
unary_value-returns t c =
    let source = c.args.scope.now.source.now in
    ok_map c.signed.result _ _
    (λ v p. subst (λ t. IsValueAt c.args.scope.now t (told v)) (sym (unary_is source c.args.unary.now))
    (subst (λ signs. Signs signs (told c.in_ok-value.value) (told v)) c.as_slice.ensures p _ _ _ c.in_ok-value.ensures))
    c.signed.ensures

pub product_value-returns-in-Some : goal.product_value-returns-in-Some
product_value-returns-in-Some t c =
    ok_map c.multiple.result _ _
    (λ v p. subst (λ t. IsValueAt c.args.scope.now t (told v)) (sym (c.in-Some.ensures c.args.scope.now.source.now)) p)
    c.multiple.ensures

pub product_value-loop-sign-preserved : goal.product_value-loop-sign-preserved
product_value-loop-sign-preserved t c =
    let rest = c.as_slice-sign-items.ensures in
    product_more _ _ c.args.scope.now.source.now _ _ c.loop-sign.sign-index c.loop-sign-item.result c.loop-sign-item.result (told c.loop-sign.value) (told c.in_ok-next.next)
    (told c.in_ok-value-2.value) (subst (λ xs. c.loop-sign.sign-index < length xs) rest c.loop-sign-test.true)
    (ap (λ xs. get_or xs c.loop-sign.sign-index c.loop-sign-item.result) (sym rest) ∙ sym c.loop-sign-item.is) c.loop-sign.invariant c.in_ok-next.ensures c.in_ok-value-2.ensures

pub product_value-returns : goal.product_value-returns
product_value-returns t c =
    product_all _ _ c.args.scope.now.source.now c.args.product.now c.loop-sign.sign-index (told c.loop-sign.value)
    (subst (λ xs. length xs ≤ c.loop-sign.sign-index) c.as_slice-sign-items.ensures c.loop-sign-test.false) c.loop-sign.invariant

pub sum_value-summed-requires : goal.sum_value-summed-requires
sum_value-summed-requires t c =
    let next : IsValueAt c.args.scope.now _ (told c.in_ok-next.next) = c.in_ok-next.ensures in
    agree c.args.scope.now.parameters.now c.args.scope.now.loops.now c.loop-sign.value.form c.in_ok-next.next.form c.loop-sign.invariant.shape next.shape

pub sum_value-loop-sign-preserved : goal.sum_value-loop-sign-preserved
sum_value-loop-sign-preserved t c =
    let rest = c.as_slice-sign-items.ensures in
    sum_more _ _ c.args.scope.now.source.now _ _ c.loop-sign.sign-index c.loop-sign-item.result c.loop-sign-item.result (told c.loop-sign.value) (told c.in_ok-next.next)
    (told c.in_ok-value-2.value) (subst (λ xs. c.loop-sign.sign-index < length xs) rest c.loop-sign-test.true)
    (ap (λ xs. get_or xs c.loop-sign.sign-index c.loop-sign-item.result) (sym rest) ∙ sym c.loop-sign-item.is) c.loop-sign.invariant c.in_ok-next.ensures c.in_ok-value-2.ensures

pub sum_value-returns : goal.sum_value-returns
sum_value-returns t c =
    sum_all _ _ c.args.scope.now.source.now c.args.sum.now c.loop-sign.sign-index (told c.loop-sign.value)
    (subst (λ xs. length xs ≤ c.loop-sign.sign-index) c.as_slice-sign-items.ensures c.loop-sign-test.false) c.loop-sign.invariant

no_arms : (b : Option Arms) → false ≡ is_some b → b ≡ None
no_arms None e = refl
no_arms (Some a) e = absurd (cc)

nothing_of : (scope : Scope) (x : Value) (v : EvaluationData) → v ≡ nothing → SaysNothing (value_of scope.source.now x).term
    → IsValueAt scope (value_of scope.source.now x).term v
nothing_of scope x v e h = subst (IsValueAt scope _) (sym e) (value_of_nothing scope.parameters.now scope.loops.now _ h)

equal_nothing : (s : EqualSign) (l r : Term) → SaysNothing (Joined (of_equal s) l r)
equal_nothing eq.Same l r = record { no_expression = refl; no_integer = refl; no_remainder = refl }
equal_nothing eq.Differ l r = record { no_expression = refl; no_integer = refl; no_remainder = refl }

rel_nothing : (s : Rel) (l r : Term) → SaysNothing (Joined (of_rel s) l r)
rel_nothing s l r = record { no_expression = refl; no_integer = refl; no_remainder = refl }

pub value_value-returns-then-ands-ne1 : goal.value_value-returns-then-ands-ne1
value_value-returns-then-ands-ne1 t c =
    nothing_of c.args.scope.now c.args.value.now _ c.nothing-then-ands-ne1.ensures
    (ends_at_or c.args.scope.now.source.now c.args.value.now SaysNothing (no_arms _ c.if-is_some.ensures)
    (record { no_expression = refl; no_integer = refl; no_remainder = refl })
    (λ l r. record { no_expression = refl; no_integer = refl; no_remainder = refl })
    (λ e. c.if-ands-ne1.true (ap length c.as_slice-ands.ensures ∙ e)))

pub value_value-returns-then-equals-ne1 : goal.value_value-returns-then-equals-ne1
value_value-returns-then-equals-ne1 t c =
    let a = c.index-ands-0.result in
    let one = only_item _ c.as_slice-ands.result.now a c.as_slice-ands.ensures c.if-ands-ne1.false c.index-ands-0.is in
    nothing_of c.args.scope.now c.args.value.now _ c.nothing-then-equals-ne1.ensures
    (ends_at_and c.args.scope.now.source.now c.args.value.now SaysNothing (no_arms _ c.if-is_some.ensures) a one
    (record { no_expression = refl; no_integer = refl; no_remainder = refl })
    (λ l r. record { no_expression = refl; no_integer = refl; no_remainder = refl })
    (λ e. c.if-equals-ne1.true (ap length c.as_slice-equals.ensures ∙ ap (λ (x : And). length (out-And x).items) (sym c.index-ands-0.is) ∙ e)))

pub value_value-returns-then-not-is_empty : goal.value_value-returns-then-not-is_empty
value_value-returns-then-not-is_empty t c =
    let a = c.index-ands-0.result in
    let e = c.index-equals-0.result in
    let one = only_item _ c.as_slice-ands.result.now a c.as_slice-ands.ensures c.if-ands-ne1.false c.index-ands-0.is in
    let only = only_item _ c.as_slice-equals.result.now e (c.as_slice-equals.ensures ∙ ap (λ (x : And). (out-And x).items) (sym c.index-ands-0.is)) c.if-equals-ne1.false c.index-equals-0.is in
    nothing_of c.args.scope.now c.args.value.now _ c.nothing-then-not-is_empty.ensures
    (ends_at_equal c.args.scope.now.source.now c.args.value.now SaysNothing (no_arms _ c.if-is_some.ensures) a e one only equal_nothing
    (λ none. absurd (search (c.if-not-is_empty.ensures.1 none, rules))))

pub value_value-returns-then-not-is_empty-2 : goal.value_value-returns-then-not-is_empty-2
value_value-returns-then-not-is_empty-2 t c =
    let a = c.index-ands-0.result in
    let e = c.index-equals-0.result in
    let one = only_item _ c.as_slice-ands.result.now a c.as_slice-ands.ensures c.if-ands-ne1.false c.index-ands-0.is in
    let only = only_item _ c.as_slice-equals.result.now e (c.as_slice-equals.ensures ∙ ap (λ (x : And). (out-And x).items) (sym c.index-ands-0.is)) c.if-equals-ne1.false c.index-equals-0.is in
    nothing_of c.args.scope.now c.args.value.now _ c.nothing-then-not-is_empty-2.ensures
    (ends_at_compare c.args.scope.now.source.now c.args.value.now SaysNothing (no_arms _ c.if-is_some.ensures) a e one only (c.if-not-is_empty.ensures.0 refl) rel_nothing
    (λ none. absurd (search (c.if-not-is_empty-2.ensures.1 none, rules))))

pub value_value-returns : goal.value_value-returns
value_value-returns t c =
    let a = c.index-ands-0.result in
    let e = c.index-equals-0.result in
    let one = only_item _ c.as_slice-ands.result.now a c.as_slice-ands.ensures c.if-ands-ne1.false c.index-ands-0.is in
    let only = only_item _ c.as_slice-equals.result.now e (c.as_slice-equals.ensures ∙ ap (λ (x : And). (out-And x).items) (sym c.index-ands-0.is)) c.if-equals-ne1.false c.index-equals-0.is in
    ok_map c.sum_value.result _ _
    (λ v p. ends_at_sum c.args.scope.now.source.now c.args.value.now (λ t. IsValueAt c.args.scope.now t (told v)) (no_arms _ c.if-is_some.ensures) a e one only
    (c.if-not-is_empty.ensures.0 refl) (c.if-not-is_empty-2.ensures.0 refl) p)
    c.sum_value.ensures
