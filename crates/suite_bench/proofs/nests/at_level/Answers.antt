use Rattle.elim_core.proofs.Beginnings.{begins_on}
use Rattle.suite_bench.proofs.nests.at_level.Goals as goal

pub loop-d-preserved : goal.loop-d-preserved
loop-d-preserved c = begins_on c.args.base.now c.loop-d.system c.push.new.system c.loop-d.invariant c.in_ok-push.ensures

pub returns : goal.returns
returns c = begins_on c.args.base.now c.loop-d.system c.push-2.new.system c.loop-d.invariant c.in_ok-push-2.ensures
