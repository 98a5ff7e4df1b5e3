use Rattle.dependence_systems.specs.Entries.{at_target_parts}
use Rattle.dependence_systems.proofs.Pushes.{range_step}
use Rattle.dependence_systems.proofs.entries.push_parts.Goals as goal

pub loop-k-preserved : goal.loop-k-preserved
loop-k-preserved c = record {
  rest = range_step (λ part. at_target_parts c.args.ends.now (record c.args.dep { source_part = part })) c.loop-k.list c.push_target_parts.new.list _ c.loop-k.k c.args.ends.now.source_parts c.loop-k-test.true c.loop-k.invariant.rest
      c.in_ok-push_target_parts.ensures.entries;
  few = c.in_ok-push_target_parts.ensures.few;
}
