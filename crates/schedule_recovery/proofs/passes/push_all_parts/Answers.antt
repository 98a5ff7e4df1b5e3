use Rattle.suite_base.specs.Limits.{max_levels}
use Rattle.chlore_recover.specs.Orders.{vectors_of}
use Rattle.schedule_recovery.proofs.Agreements.{parts_start}
use Rattle.schedule_recovery.proofs.PassSteps.{pass_more}
use Rattle.schedule_recovery.proofs.passes.push_all_parts.Goals as goal

pub loop-size-preserved : goal.loop-size-preserved
loop-size-preserved c = pass_more c.loop-size.size c.args.first.now (vectors_of c.args.rest.now) c.loop-size.script _ _ c.loop-size-test.true c.in_ok-push_parts.ensures c.loop-size.invariant

pub loop-size-init : goal.loop-size-init
loop-size-init c = parts_start max_levels c.most_agreement.result c.min-size.result c.args.first.now (vectors_of c.args.rest.now) c.args.script.now c.most_agreement.ensures c.min-size.ensures
