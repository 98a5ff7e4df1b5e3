use Rattle.std.proofs.Common.{arith}
use Rattle.std.proofs.lemmas.Grind.{common_steps}
use Rattle.region_rules.proofs.Faults.{by_sum, by_product, by_compare, by_equal, by_and, by_or, by_unary, by_arguments}
use Rattle.region_rules.proofs.Primaries.{by_call_reads}
use Rattle.region_rules.proofs.references.+references.Goals as goal

pub sum_fault-returns : goal.sum_fault-returns
sum_fault-returns t c = by_sum c.args.source.now c.args.sum.now _ (grind (arith, common_steps))

pub product_fault-returns : goal.product_fault-returns
product_fault-returns t c = by_product c.args.source.now c.args.product.now _ (grind (arith, common_steps))

pub compare_fault-returns : goal.compare_fault-returns
compare_fault-returns t c = by_compare c.args.source.now c.args.compare.now _ (grind (arith, common_steps))

pub equal_fault-returns : goal.equal_fault-returns
equal_fault-returns t c = by_equal c.args.source.now c.args.equal.now _ (grind (arith, common_steps))

pub and_fault-returns : goal.and_fault-returns
and_fault-returns t c = by_and c.args.source.now c.args.and.now _ (grind (arith, common_steps))

pub or_fault-returns : goal.or_fault-returns
or_fault-returns t c = by_or c.args.source.now c.args.or.now _ (grind (arith, common_steps))

pub unary_fault-returns : goal.unary_fault-returns
unary_fault-returns t c = by_unary c.args.source.now c.args.unary.now _ (grind (arith, common_steps))

pub arguments_fault-returns : goal.arguments_fault-returns
arguments_fault-returns t c = by_arguments c.args.source.now c.args.arguments.now _ (grind (arith, common_steps))

pub primary_fault-returns-in-Call : goal.primary_fault-returns-in-Call
primary_fault-returns-in-Call t c =
    by_call_reads c.args.source.now c.args.primary.now _ _ _ _ c.in-Call.is c.as_slice.ensures c.arguments_fault.ensures
