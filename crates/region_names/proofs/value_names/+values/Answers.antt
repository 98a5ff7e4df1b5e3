use Rattle.std.proofs.Common.{[], ◌∷◌, ◌++◌, refl, sym, ap, ◌∙◌}
use Rattle.std.specs.Prelude.{true}
use Rattle.c_parser.specs.declared.tree.EqualSign.{EqualSign}
use Rattle.c_parser.specs.declared.tree.Rel.{Rel}
use Rattle.c_parser.specs.declared.tree.SumSign.{SumSign}
use Rattle.c_parser.specs.declared.tree.ProductSign.{ProductSign}
use Rattle.c_parser.specs.declared.tree.Unary.{Unary, out-Unary}
use Rattle.c_parser.specs.declared.tree.Or.{out-Or}
use Rattle.c_parser.specs.declared.tree.And.{out-And}
use Rattle.c_parser.specs.declared.tree.Equal.{out-Equal}
use Rattle.c_parser.specs.declared.tree.Compare.{Compare, out-Compare}
use Rattle.c_parser.specs.declared.tree.Sum.{Sum, out-Sum}
use Rattle.c_parser.specs.declared.tree.Product.{Product, out-Product}
use Rattle.c_parser.specs.declared.tree.Target.{out-Target}
use Rattle.c_parser.specs.declared.tree.Value.{out-Value}
use Rattle.c_parser.specs.declared.tree.Arms.{out-Arms}
use Rattle.region_names.specs.Registers.{after}
use Rattle.region_names.specs.Walks.{element_name, function_name, arms_names, value_names, or_names, and_names, equal_names, compare_names, sum_names, product_names, primary_names, argument_names, subscript_names}
use Rattle.region_names.proofs.Telling.{told_more, list_told, rest_told, same_told, last_told}
use Rattle.region_names.proofs.ValueNames.{or_names_are, and_names_are, equal_names_are, compare_names_are, sum_names_are, product_names_are, argument_names_are, subscript_names_are, test_alone, test_and_arms, integer_names, literal_names, bracket_names, call_names, target_names}
use Rattle.region_names.proofs.value_names.+values.Goals as goal

pub tell_or-loop-item-preserved : goal.tell_or-loop-item-preserved
tell_or-loop-item-preserved t c =
    told_more (and_names c.args.source.now c.args.scope.now c.args.control) _ _ _ _ c.loop-item.item-index c.item-item.result c.loop-item-test.true c.item-item.is c.loop-item.invariant c.in_ok-tell_and.ensures

pub tell_or-returns : goal.tell_or-returns
tell_or-returns t c =
    list_told (and_names c.args.source.now c.args.scope.now c.args.control) c.args.register.now c.loop-item.register _ _ (out-Or c.args.or.now).items c.loop-item.item-index
    c.as_slice-item-items.ensures c.loop-item-test.false c.loop-item.invariant (or_names_are c.args.source.now c.args.scope.now c.args.control c.args.or.now)

pub tell_and-loop-item-preserved : goal.tell_and-loop-item-preserved
tell_and-loop-item-preserved t c =
    told_more (equal_names c.args.source.now c.args.scope.now c.args.control) _ _ _ _ c.loop-item.item-index c.item-item.result c.loop-item-test.true c.item-item.is c.loop-item.invariant c.in_ok-tell_equal.ensures

pub tell_and-returns : goal.tell_and-returns
tell_and-returns t c =
    list_told (equal_names c.args.source.now c.args.scope.now c.args.control) c.args.register.now c.loop-item.register _ _ (out-And c.args.and.now).items c.loop-item.item-index
    c.as_slice-item-items.ensures c.loop-item-test.false c.loop-item.invariant (and_names_are c.args.source.now c.args.scope.now c.args.control c.args.and.now)

pub tell_equal-loop-item-preserved : goal.tell_equal-loop-item-preserved
tell_equal-loop-item-preserved t c =
    told_more (λ (p : EqualSign × Compare). compare_names c.args.source.now c.args.scope.now c.args.control p.1) _ _ _ _ c.loop-item.item-index c.item-item.result c.loop-item-test.true c.item-item.is c.loop-item.invariant c.in_ok-tell_compare-2.ensures

pub tell_equal-returns : goal.tell_equal-returns
tell_equal-returns t c =
    rest_told (λ (p : EqualSign × Compare). compare_names c.args.source.now c.args.scope.now c.args.control p.1) c.args.register.now _ c.loop-item.register (compare_names c.args.source.now c.args.scope.now c.args.control (out-Equal c.args.equal.now).first) _ _ (out-Equal c.args.equal.now).rest c.loop-item.item-index
    c.in_ok-tell_compare.ensures c.as_slice-item-items.ensures c.loop-item-test.false c.loop-item.invariant (equal_names_are c.args.source.now c.args.scope.now c.args.control c.args.equal.now)

pub tell_compare-loop-item-preserved : goal.tell_compare-loop-item-preserved
tell_compare-loop-item-preserved t c =
    told_more (λ (p : Rel × Sum). sum_names c.args.source.now c.args.scope.now c.args.control p.1) _ _ _ _ c.loop-item.item-index c.item-item.result c.loop-item-test.true c.item-item.is c.loop-item.invariant c.in_ok-tell_sum-2.ensures

pub tell_compare-returns : goal.tell_compare-returns
tell_compare-returns t c =
    rest_told (λ (p : Rel × Sum). sum_names c.args.source.now c.args.scope.now c.args.control p.1) c.args.register.now _ c.loop-item.register (sum_names c.args.source.now c.args.scope.now c.args.control (out-Compare c.args.compare.now).first) _ _ (out-Compare c.args.compare.now).rest c.loop-item.item-index
    c.in_ok-tell_sum.ensures c.as_slice-item-items.ensures c.loop-item-test.false c.loop-item.invariant (compare_names_are c.args.source.now c.args.scope.now c.args.control c.args.compare.now)

pub tell_sum-loop-item-preserved : goal.tell_sum-loop-item-preserved
tell_sum-loop-item-preserved t c =
    told_more (λ (p : SumSign × Product). product_names c.args.source.now c.args.scope.now c.args.control p.1) _ _ _ _ c.loop-item.item-index c.item-item.result c.loop-item-test.true c.item-item.is c.loop-item.invariant c.in_ok-tell_product-2.ensures

pub tell_sum-returns : goal.tell_sum-returns
tell_sum-returns t c =
    rest_told (λ (p : SumSign × Product). product_names c.args.source.now c.args.scope.now c.args.control p.1) c.args.register.now _ c.loop-item.register (product_names c.args.source.now c.args.scope.now c.args.control (out-Sum c.args.sum.now).first) _ _ (out-Sum c.args.sum.now).rest c.loop-item.item-index
    c.in_ok-tell_product.ensures c.as_slice-item-items.ensures c.loop-item-test.false c.loop-item.invariant (sum_names_are c.args.source.now c.args.scope.now c.args.control c.args.sum.now)

pub tell_product-loop-item-preserved : goal.tell_product-loop-item-preserved
tell_product-loop-item-preserved t c =
    told_more (λ (p : ProductSign × Unary). primary_names c.args.source.now c.args.scope.now c.args.control (out-Unary p.1).primary) _ _ _ _ c.loop-item.item-index c.item-item.result c.loop-item-test.true c.item-item.is c.loop-item.invariant c.in_ok-tell_primary-2.ensures

pub tell_product-returns : goal.tell_product-returns
tell_product-returns t c =
    rest_told (λ (p : ProductSign × Unary). primary_names c.args.source.now c.args.scope.now c.args.control (out-Unary p.1).primary) c.args.register.now _ c.loop-item.register (primary_names c.args.source.now c.args.scope.now c.args.control (out-Unary (out-Product c.args.product.now).first).primary) _ _ (out-Product c.args.product.now).rest c.loop-item.item-index
    c.in_ok-tell_primary.ensures c.as_slice-item-items.ensures c.loop-item-test.false c.loop-item.invariant (product_names_are c.args.source.now c.args.scope.now c.args.control c.args.product.now)

pub tell_arguments-loop-item-preserved : goal.tell_arguments-loop-item-preserved
tell_arguments-loop-item-preserved t c =
    told_more (value_names c.args.source.now c.args.scope.now c.args.control) _ _ _ _ c.loop-item.item-index c.item-item.result c.loop-item-test.true c.item-item.is c.loop-item.invariant c.in_ok-tell_value.ensures

pub tell_arguments-returns : goal.tell_arguments-returns
tell_arguments-returns t c =
    list_told (value_names c.args.source.now c.args.scope.now c.args.control) c.args.register.now c.loop-item.register _ c.args.arguments.now c.args.arguments.now c.loop-item.item-index
    refl c.loop-item-test.false c.loop-item.invariant (argument_names_are c.args.source.now c.args.scope.now c.args.control c.args.arguments.now)

pub tell_subscripts-loop-item-preserved : goal.tell_subscripts-loop-item-preserved
tell_subscripts-loop-item-preserved t c =
    told_more (sum_names c.args.source.now c.args.scope.now true) _ _ _ _ c.loop-item.item-index c.item-item.result c.loop-item-test.true c.item-item.is
    c.loop-item.invariant c.in_ok-tell_sum.ensures

pub tell_subscripts-returns : goal.tell_subscripts-returns
tell_subscripts-returns t c =
    list_told (sum_names c.args.source.now c.args.scope.now true) c.args.register.now c.loop-item.register _ _ (out-Target c.args.target.now).subscripts
    c.loop-item.item-index c.as_slice-item-items.ensures c.loop-item-test.false c.loop-item.invariant (subscript_names_are c.args.source.now c.args.scope.now c.args.target.now)

pub tell_value-returns-in-None : goal.tell_value-returns-in-None
tell_value-returns-in-None t c = c.in_ok-tell_or.ensures ∙ ap (after c.args.register.now) (sym (test_alone c.args.source.now c.args.scope.now c.args.control c.args.value.now c.in-None.is))

pub tell_value-returns-in-Some : goal.tell_value-returns-in-Some
tell_value-returns-in-Some t c =
    last_told c.tell_arms.result c.args.register.now c.tell_or.new.register c.tell_arms.new.register (or_names c.args.source.now c.args.scope.now c.args.control (out-Value c.args.value.now).test)
    (arms_names c.args.source.now c.args.scope.now c.args.control c.get.result.now) (value_names c.args.source.now c.args.scope.now c.args.control c.args.value.now) c.in_ok-tell_or.ensures c.tell_arms.ensures
    (test_and_arms c.args.source.now c.args.scope.now c.args.control c.args.value.now c.in-Some.arms c.in-Some.is
    ∙ ap (λ a. or_names c.args.source.now c.args.scope.now c.args.control (out-Value c.args.value.now).test ++ arms_names c.args.source.now c.args.scope.now c.args.control a) (sym c.get.ensures))

pub tell_arms-returns : goal.tell_arms-returns
tell_arms-returns t c =
    last_told c.tell_value-2.result c.args.register.now c.tell_value.new.register c.tell_value-2.new.register
    (value_names c.args.source.now c.args.scope.now c.args.control (out-Arms c.args.arms.now).yes) (value_names c.args.source.now c.args.scope.now c.args.control (out-Arms c.args.arms.now).no) (arms_names c.args.source.now c.args.scope.now c.args.control c.args.arms.now)
    c.in_ok-tell_value.ensures c.tell_value-2.ensures refl

pub tell_primary-returns-in-Integer : goal.tell_primary-returns-in-Integer
tell_primary-returns-in-Integer t c = ap (after c.args.register.now) (sym (integer_names c.args.source.now c.args.scope.now c.args.control c.args.primary.now _ c.in-Integer.is))

pub tell_primary-returns-in-Literal : goal.tell_primary-returns-in-Literal
tell_primary-returns-in-Literal t c = ap (after c.args.register.now) (sym (literal_names c.args.source.now c.args.scope.now c.args.control c.args.primary.now _ c.in-Literal.is))

pub tell_primary-returns-in-Bracket : goal.tell_primary-returns-in-Bracket
tell_primary-returns-in-Bracket t c =
    same_told c.tell_value.result c.args.register.now c.tell_value.new.register (value_names c.args.source.now c.args.scope.now c.args.control c.get.result.now) (primary_names c.args.source.now c.args.scope.now c.args.control c.args.primary.now)
    (ap (value_names c.args.source.now c.args.scope.now c.args.control) c.get.ensures ∙ sym (bracket_names c.args.source.now c.args.scope.now c.args.control c.args.primary.now c.in-Bracket.value c.in-Bracket.is)) c.tell_value.ensures

pub tell_primary-returns-in_ok-tell_element-in-Target : goal.tell_primary-returns-in_ok-tell_element-in-Target
tell_primary-returns-in_ok-tell_element-in-Target t c =
    last_told c.tell_subscripts.result c.args.register.now c.tell_element.new.register c.tell_subscripts.new.register
    (element_name c.args.source.now c.args.scope.now c.args.control c.in-Target.target ∷ []) (subscript_names c.args.source.now c.args.scope.now c.in-Target.target)
    (primary_names c.args.source.now c.args.scope.now c.args.control c.args.primary.now) c.in_ok-tell_element-in-Target.ensures c.tell_subscripts.ensures
    (target_names c.args.source.now c.args.scope.now c.args.control c.args.primary.now c.in-Target.target c.in-Target.is)

pub tell_primary-returns-in_ok-tell_function-in-Call : goal.tell_primary-returns-in_ok-tell_function-in-Call
tell_primary-returns-in_ok-tell_function-in-Call t c =
    last_told c.tell_arguments.result c.args.register.now c.tell_function.new.register c.tell_arguments.new.register
    (function_name c.args.source.now c.in-Call.name) (argument_names c.args.source.now c.args.scope.now c.args.control c.as_slice.result.now) (primary_names c.args.source.now c.args.scope.now c.args.control c.args.primary.now)
    c.in_ok-tell_function-in-Call.ensures c.tell_arguments.ensures
    (call_names c.args.source.now c.args.scope.now c.args.control c.args.primary.now c.in-Call.name c.in-Call.arguments c.in-Call.is
    ∙ ap (λ xs. function_name c.args.source.now c.in-Call.name ++ argument_names c.args.source.now c.args.scope.now c.args.control xs) (sym c.as_slice.ensures))
