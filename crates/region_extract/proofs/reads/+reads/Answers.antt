use Rattle.std.proofs.Common.{ap, subst}
use Rattle.c_parser.specs.declared.tree.And.{out-And}
use Rattle.c_parser.specs.declared.tree.Compare.{out-Compare}
use Rattle.c_parser.specs.declared.tree.Equal.{out-Equal}
use Rattle.c_parser.specs.declared.tree.Or.{out-Or}
use Rattle.c_parser.specs.declared.tree.Product.{out-Product}
use Rattle.c_parser.specs.declared.tree.Sum.{out-Sum}
use Rattle.region_trees.specs.Layers.{and_is, compare_is, equal_is, or_is, product_is, sum_is, term_of_sum, terms_by}
use Rattle.region_trees.specs.Terms.{Conjunction, Disjunction, Located, and_of, arms_of, compare_of, equal_of, of_equal, of_product, of_rel, of_sum, product_of, unary_of, value_of}
use Rattle.region_extract.specs.Walks.{Reads, ReadsAll, ReadsBoth}
use Rattle.region_extract.proofs.Reading.{argument_read, arguments_read, arms_read, bracket_read, call_read, choice_read, integer_read, item_read, items_read, literal_read, on_ok, operand_read, operands_read, target_read, test_read, unary_read}
use Rattle.region_extract.proofs.reads.+reads.Goals as goal

pub read_or-loop-item-preserved : goal.read_or-loop-item-preserved
read_or-loop-item-preserved t c =
    item_read Disjunction (and_of c.args.source.now) _ c.loop-item.item-index c.item-item.result _ _ _ c.loop-item-test.true c.item-item.is c.loop-item.invariant c.in_ok-read_and.ensures

pub read_or-returns : goal.read_or-returns
read_or-returns t c =
    items_read Disjunction (and_of c.args.source.now) _ (out-Or c.args.or.now).items c.loop-item.item-index _ _ _ c.as_slice-item-items.ensures c.loop-item-test.false
    (or_is c.args.source.now c.args.or.now) c.loop-item.invariant

pub read_and-loop-item-preserved : goal.read_and-loop-item-preserved
read_and-loop-item-preserved t c =
    item_read Conjunction (equal_of c.args.source.now) _ c.loop-item.item-index c.item-item.result _ _ _ c.loop-item-test.true c.item-item.is c.loop-item.invariant c.in_ok-read_equal.ensures

pub read_and-returns : goal.read_and-returns
read_and-returns t c =
    items_read Conjunction (equal_of c.args.source.now) _ (out-And c.args.«and».now).items c.loop-item.item-index _ _ _ c.as_slice-item-items.ensures c.loop-item-test.false
    (and_is c.args.source.now c.args.«and».now) c.loop-item.invariant

pub read_equal-loop-item-preserved : goal.read_equal-loop-item-preserved
read_equal-loop-item-preserved t c =
    operand_read of_equal (compare_of c.args.source.now) _ _ c.loop-item.item-index c.item-item.result _ _ _ c.loop-item-test.true c.item-item.is c.loop-item.invariant
    c.in_ok-read_compare-2.ensures

pub read_equal-returns : goal.read_equal-returns
read_equal-returns t c =
    operands_read of_equal (compare_of c.args.source.now) _ _ (out-Equal c.args.equal.now).rest c.loop-item.item-index _ _ _ c.as_slice-item-items.ensures c.loop-item-test.false
    (equal_is c.args.source.now c.args.equal.now) c.loop-item.invariant

pub read_compare-loop-item-preserved : goal.read_compare-loop-item-preserved
read_compare-loop-item-preserved t c =
    operand_read of_rel (term_of_sum c.args.source.now) _ _ c.loop-item.item-index c.item-item.result _ _ _ c.loop-item-test.true c.item-item.is c.loop-item.invariant
    c.in_ok-read_sum-2.ensures

pub read_compare-returns : goal.read_compare-returns
read_compare-returns t c =
    operands_read of_rel (term_of_sum c.args.source.now) _ _ (out-Compare c.args.compare.now).rest c.loop-item.item-index _ _ _ c.as_slice-item-items.ensures c.loop-item-test.false
    (compare_is c.args.source.now c.args.compare.now) c.loop-item.invariant

pub read_sum-loop-item-preserved : goal.read_sum-loop-item-preserved
read_sum-loop-item-preserved t c =
    operand_read of_sum (product_of c.args.source.now) _ _ c.loop-item.item-index c.item-item.result _ _ _ c.loop-item-test.true c.item-item.is c.loop-item.invariant
    c.in_ok-read_product-2.ensures

pub read_sum-returns : goal.read_sum-returns
read_sum-returns t c =
    operands_read of_sum (product_of c.args.source.now) _ _ (out-Sum c.args.sum.now).rest c.loop-item.item-index _ _ _ c.as_slice-item-items.ensures c.loop-item-test.false
    (ap (λ (x : Located). x.term) (sum_is c.args.source.now c.args.sum.now)) c.loop-item.invariant

pub read_product-loop-item-preserved : goal.read_product-loop-item-preserved
read_product-loop-item-preserved t c =
    operand_read of_product (unary_of c.args.source.now) _ _ c.loop-item.item-index c.item-item.result _ _ _ c.loop-item-test.true c.item-item.is c.loop-item.invariant
    (unary_read c.args.source.now c.item-item.result.1 _ _ c.in_ok-read_primary-2.ensures)

pub read_product-returns : goal.read_product-returns
read_product-returns t c =
    operands_read of_product (unary_of c.args.source.now) _ _ (out-Product c.args.product.now).rest c.loop-item.item-index _ _ _ c.as_slice-item-items.ensures c.loop-item-test.false
    (product_is c.args.source.now c.args.product.now) c.loop-item.invariant

pub read_arguments-loop-item-preserved : goal.read_arguments-loop-item-preserved
read_arguments-loop-item-preserved t c =
    argument_read (value_of c.args.source.now) c.args.arguments.now _ c.loop-item.item-index c.item-item.result _ _ c.loop-item-test.true c.item-item.is c.loop-item.invariant
    c.in_ok-read_value.ensures

pub read_arguments-returns : goal.read_arguments-returns
read_arguments-returns t c = arguments_read (value_of c.args.source.now) c.args.arguments.now _ c.loop-item.item-index _ c.loop-item-test.false c.loop-item.invariant

pub read_value-returns-in-None : goal.read_value-returns-in-None
read_value-returns-in-None t c = test_read c.args.source.now c.args.value.now _ _ c.in-None.is c.in_ok-read_or.ensures

pub read_value-returns-in-Some : goal.read_value-returns-in-Some
read_value-returns-in-Some t c =
    on_ok c.read_arms.result
    (λ p. choice_read c.args.source.now c.args.value.now c.in-Some.arms _ c.read_or.new.place _ c.in-Some.is c.in_ok-read_or.ensures
    (subst (λ a. ReadsBoth (arms_of c.args.source.now a) c.read_or.new.place c.read_arms.new.place) c.get.ensures p))
    c.read_arms.ensures

pub read_arms-returns : goal.read_arms-returns
read_arms-returns t c =
    on_ok c.read_value-2.result (λ p. arms_read c.args.source.now c.args.arms.now _ c.read_value.new.place _ c.in_ok-read_value.ensures p) c.read_value-2.ensures

pub read_primary-returns-in-Integer : goal.read_primary-returns-in-Integer
read_primary-returns-in-Integer t c = integer_read c.args.source.now c.args.primary.now _ _ c.in-Integer.is

pub read_primary-returns-in-Literal : goal.read_primary-returns-in-Literal
read_primary-returns-in-Literal t c = literal_read c.args.source.now c.args.primary.now _ _ c.in-Literal.is

pub read_primary-returns-in-Target : goal.read_primary-returns-in-Target
read_primary-returns-in-Target t c =
    on_ok c.read_target.result (λ p. target_read c.args.source.now c.args.primary.now c.in-Target.target _ _ c.in-Target.is p) c.read_target.ensures

pub read_primary-returns-in-Call : goal.read_primary-returns-in-Call
read_primary-returns-in-Call t c =
    on_ok c.read_arguments.result
    (λ p. call_read c.args.source.now c.args.primary.now _ c.in-Call.arguments _ _ c.in-Call.is
    (subst (λ xs. ReadsAll (terms_by (value_of c.args.source.now) xs) c.args.place.now c.read_arguments.new.place) c.as_slice.ensures p))
    c.read_arguments.ensures

pub read_primary-returns-in-Bracket : goal.read_primary-returns-in-Bracket
read_primary-returns-in-Bracket t c =
    on_ok c.read_value.result
    (λ p. bracket_read c.args.source.now c.args.primary.now c.in-Bracket.value _ _ c.in-Bracket.is
    (subst (λ v. Reads (value_of c.args.source.now v).term c.args.place.now c.read_value.new.place) c.get.ensures p))
    c.read_value.ensures

pub read_product-loop-item-init : goal.read_product-loop-item-init
read_product-loop-item-init t c = unary_read c.args.source.now (out-Product c.args.product.now).first _ _ c.in_ok-read_primary.ensures
