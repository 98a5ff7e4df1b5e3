use Rattle.std.proofs.Common.{arith, true, false, refl}
use Rattle.std.proofs.lemmas.Grind.{common_steps}
use Rattle.region_trees.specs.Terms.{order_of}
use Rattle.region_rules.proofs.StatementFaults.{by_bound}
use Rattle.region_rules.proofs.statements.bound_fault.Goals as goal

pub returns-then-is_bound : goal.returns-then-is_bound
returns-then-is_bound c = by_bound c.args.source.now (order_of c.args.rel) c.args.bound.now true _ (grind (arith, common_steps)) refl

pub returns-else-is_bound : goal.returns-else-is_bound
returns-else-is_bound c = by_bound c.args.source.now (order_of c.args.rel) c.args.bound.now false _ (grind (arith, common_steps)) refl
