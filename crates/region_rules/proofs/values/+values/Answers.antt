use Rattle.std.proofs.Common.{arith}
use Rattle.std.proofs.lemmas.Grind.{common_steps}
use Rattle.c_lexer.specs.Pieces.{bytes_of}
use Rattle.region_trees.specs.Terms.{value_of}
use Rattle.region_rules.proofs.Trees.{by_sum, by_product, by_compare, by_equal, by_and, by_or, by_unary, sign_first}
use Rattle.region_rules.proofs.Calls.{by_call}
use Rattle.region_rules.proofs.Primaries.{by_called, by_bracketed}
use Rattle.region_rules.proofs.values.+values.Goals as goal

pub sum_facts-returns : goal.sum_facts-returns
sum_facts-returns t c = by_sum c.args.source.now c.args.sum.now _ (grind (arith, common_steps))

pub product_facts-returns : goal.product_facts-returns
product_facts-returns t c = by_product c.args.source.now c.args.product.now _ (grind (arith, common_steps))

pub compare_facts-returns : goal.compare_facts-returns
compare_facts-returns t c = by_compare c.args.source.now c.args.compare.now _ (grind (arith, common_steps))

pub equal_facts-returns : goal.equal_facts-returns
equal_facts-returns t c = by_equal c.args.source.now c.args.equal.now _ (grind (arith, common_steps))

pub and_facts-returns : goal.and_facts-returns
and_facts-returns t c = by_and c.args.source.now c.args.and.now _ (grind (arith, common_steps))

pub or_facts-returns : goal.or_facts-returns
or_facts-returns t c = by_or c.args.source.now c.args.or.now _ (grind (arith, common_steps))

pub unary_facts-returns : goal.unary_facts-returns
unary_facts-returns t c = by_unary c.args.source.now c.args.unary.now _ (grind (arith, common_steps))

pub unary_facts-loop-sign-preserved : goal.unary_facts-loop-sign-preserved
unary_facts-loop-sign-preserved t c = grind (arith, common_steps, sign_first)

pub call_facts-returns : goal.call_facts-returns
call_facts-returns t c =
    by_call (value_of c.args.source.now) (bytes_of c.args.source.now c.args.name) c.args.name.from c.args.arguments.now _ (grind (arith, common_steps))

pub primary_facts-returns-in-Call : goal.primary_facts-returns-in-Call
primary_facts-returns-in-Call t c =
    by_called c.args.source.now c.args.primary.now _ _ _ _ c.in-Call.is c.as_slice.ensures c.call_facts.ensures

pub primary_facts-returns-in-Bracket : goal.primary_facts-returns-in-Bracket
primary_facts-returns-in-Bracket t c =
    by_bracketed c.args.source.now c.args.primary.now _ _ _ _ c.in-Bracket.is c.get.ensures c.value_facts.ensures c.bracketed.ensures
