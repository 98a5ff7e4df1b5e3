use Rattle.std.proofs.Common.{arith}
use Rattle.schedule_recovery.proofs.PassSteps.{part_more}
use Rattle.schedule_recovery.proofs.passes.push_parts.Goals as goal

pub loop-placed-preserved : goal.loop-placed-preserved
loop-placed-preserved c =
    let within = c.next_child-child.ensures.within in
    let child = c.loop-placed.invariant.child in
    record {
      script = part_more c.args.size c.loop-placed.child c.agreement-common.result c.next_child-child.result c.loop-placed.placed-index _ _ c.args.rest.now c.placed-item.result c.loop-placed.script _ _ c.loop-placed-test.true c.placed-item.is
          c.vector-next.ensures c.agreement-common.ensures.answer c.in_ok-push_part.ensures c.next_child-child.ensures.answer c.loop-placed.invariant.script;
      child = omega (arith, within, child);
    }
