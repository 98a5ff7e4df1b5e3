use Rattle.std.proofs.Common.{◌≡◌, drop}
use Rattle.region_trees.specs.Terms.{of_rel, of_equal, of_sum, of_product}
use Rattle.region_rules.proofs.Trees.{operands, items, all_signs, sum_says, product_says, unary_says, compare_says, equal_says, and_says, value_says}
use Rattle.region_rules.specs.declared.facts.Arguments.TheVariants as arg
use Rattle.region_rules.proofs.Calls.{collected}
use Rattle.region_rules.proofs.values.+values.Given as goal

abbrev pub invariant-or_facts-loop-item : goal.invariant-or_facts-loop-item
invariant-or_facts-loop-item l = items (and_says l.source) l.facts (drop l.item-index l.item-items) ≡ items (and_says l.source) l.initial.facts l.item-items

abbrev pub invariant-and_facts-loop-item : goal.invariant-and_facts-loop-item
invariant-and_facts-loop-item l = items (equal_says l.source) l.facts (drop l.item-index l.item-items) ≡ items (equal_says l.source) l.initial.facts l.item-items

abbrev pub invariant-equal_facts-loop-operand : goal.invariant-equal_facts-loop-operand
invariant-equal_facts-loop-operand l =
    operands of_equal (compare_says l.source) l.facts (drop l.operand-index l.operand-items)
    ≡ operands of_equal (compare_says l.source) l.initial.facts l.operand-items

abbrev pub invariant-compare_facts-loop-operand : goal.invariant-compare_facts-loop-operand
invariant-compare_facts-loop-operand l =
    operands of_rel (sum_says l.source) l.facts (drop l.operand-index l.operand-items)
    ≡ operands of_rel (sum_says l.source) l.initial.facts l.operand-items

abbrev pub invariant-sum_facts-loop-operand : goal.invariant-sum_facts-loop-operand
invariant-sum_facts-loop-operand l =
    operands of_sum (product_says l.source) l.facts (drop l.operand-index l.operand-items)
    ≡ operands of_sum (product_says l.source) l.initial.facts l.operand-items

abbrev pub invariant-product_facts-loop-operand : goal.invariant-product_facts-loop-operand
invariant-product_facts-loop-operand l =
    operands of_product (unary_says l.source) l.facts (drop l.operand-index l.operand-items)
    ≡ operands of_product (unary_says l.source) l.initial.facts l.operand-items

abbrev pub invariant-unary_facts-loop-sign : goal.invariant-unary_facts-loop-sign
invariant-unary_facts-loop-sign l = all_signs (drop l.sign-index l.sign-items) l.facts ≡ all_signs l.sign-items l.initial.facts

abbrev pub invariant-call_facts-loop-argument : goal.invariant-call_facts-loop-argument
invariant-call_facts-loop-argument l =
    collected (value_says l.source) l.seen (drop l.argument-index l.arguments) ≡ collected (value_says l.source) arg.None l.arguments
