use Rattle.std.proofs.Common.{arith, true, false, refl}
use Rattle.std.proofs.lemmas.Grind.{common_steps}
use Rattle.region_trees.specs.Terms.{order_of}
use Rattle.region_trees.specs.Statements.{step_of}
use Rattle.region_rules.proofs.StatementFaults.{by_start}
use Rattle.region_rules.proofs.statements.start_fault.Goals as goal

pub returns-then-is_start : goal.returns-then-is_start
returns-then-is_start c =
    by_start c.args.source.now (order_of c.args.rel) (step_of c.args.source.now c.args.step) c.args.start.now true _ (grind (arith, common_steps)) refl

pub returns-else-is_start : goal.returns-else-is_start
returns-else-is_start c =
    by_start c.args.source.now (order_of c.args.rel) (step_of c.args.source.now c.args.step) c.args.start.now false _ (grind (arith, common_steps)) refl
