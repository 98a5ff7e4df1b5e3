use Rattle.schedule_recovery.proofs.Endings.{agreement_ends}
use Rattle.schedule_recovery.proofs.lookups.agreement.Goals as goal

pub returns-then-k-v-clause-answer : goal.returns-then-k-v-clause-answer
returns-then-k-v-clause-answer c = agreement_ends c.args.u.now c.args.v.now c.loop-k.k _ c.if-k-v.true c.loop-k.invariant.so_far
