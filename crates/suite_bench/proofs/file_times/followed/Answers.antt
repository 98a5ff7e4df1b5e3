use Rattle.elim_core.proofs.Beginnings.{begins_on}
use Rattle.suite_bench.proofs.file_times.followed.Goals as goal

pub loop-k-preserved : goal.loop-k-preserved
loop-k-preserved c = begins_on c.args.base.now c.loop-k.made c.push_copy.new.made c.loop-k.invariant c.in_ok-push_copy.ensures
