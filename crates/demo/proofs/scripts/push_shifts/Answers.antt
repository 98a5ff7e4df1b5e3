use Rattle.demo.proofs.Appends.{next_shift}
use Rattle.demo.proofs.scripts.push_shifts.Goals as goal

pub loop-k-preserved : goal.loop-k-preserved
loop-k-preserved c = next_shift c.args.script.now c.loop-k.script c.push_shift.new.script c.loop-k.k c.loop-k.invariant c.in_ok-push_shift.ensures
