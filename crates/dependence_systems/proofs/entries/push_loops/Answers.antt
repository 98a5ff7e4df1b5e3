use Rattle.dependence_systems.proofs.Pushes.{map_step}
use Rattle.dependence_systems.proofs.entries.push_loops.Goals as goal

pub loop-k-preserved : goal.loop-k-preserved
loop-k-preserved c = record {
  rest = map_step (λ level. record c.args.dep { level = level }) c.loop-k.list c.push_entry.new.list _ c.loop-k.k c.args.ends.now.common c.loop-k-test.true c.loop-k.invariant.rest c.in_ok-push_entry.ensures.entry;
  few = c.in_ok-push_entry.ensures.few;
}
