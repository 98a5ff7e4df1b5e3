use Rattle.std.proofs.Common.{sym, ◌∙◌}
use Rattle.schedule_recovery.proofs.Endings.{before_ends}
use Rattle.schedule_recovery.proofs.lookups.is_before.Goals as goal

pub returns-then-k-v : goal.returns-then-k-v
returns-then-k-v c = sym (before_ends c.args.u.now c.args.v.now c.loop-k.k c.loop-k-test.true c.if-k-v.true) ∙ c.loop-k.invariant
