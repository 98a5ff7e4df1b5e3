use Rattle.dependence_systems.specs.Entries.{at_levels}
use Rattle.dependence_systems.proofs.Pushes.{range_step}
use Rattle.dependence_systems.proofs.entries.push_target_parts.Goals as goal

pub loop-k-preserved : goal.loop-k-preserved
loop-k-preserved c = record {
  rest = range_step (λ part. at_levels c.args.ends.now (record c.args.dep { target_part = part })) c.loop-k.list c.push_levels.new.list _ c.loop-k.k c.args.ends.now.target_parts c.loop-k-test.true c.loop-k.invariant.rest
      c.in_ok-push_levels.ensures.entries;
  few = c.in_ok-push_levels.ensures.few;
}
