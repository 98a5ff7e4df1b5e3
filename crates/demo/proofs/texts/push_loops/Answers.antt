use Rattle.demo.proofs.Appends.{next_loop}
use Rattle.demo.proofs.texts.push_loops.Goals as goal

pub loop-k-preserved : goal.loop-k-preserved
loop-k-preserved c = next_loop c.args.text.now c.loop-k.text c.push_loop.new.text c.loop-k.k c.loop-k.invariant c.in_ok-push_loop.ensures
