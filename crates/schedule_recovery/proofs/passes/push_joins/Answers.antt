use Rattle.schedule_recovery.proofs.PassSteps.{join_more}
use Rattle.schedule_recovery.proofs.passes.push_joins.Goals as goal

pub loop-placed-preserved : goal.loop-placed-preserved
loop-placed-preserved c =
    join_more c.args.size c.agreement-common.result c.loop-placed.placed-index _ _ c.args.rest.now c.placed-item.result c.loop-placed.script _ _ c.loop-placed-test.true c.placed-item.is c.vector-next.ensures
    c.agreement-common.ensures.answer c.in_ok-push_join.ensures c.loop-placed.invariant
