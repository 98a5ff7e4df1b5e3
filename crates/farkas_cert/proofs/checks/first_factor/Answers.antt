use Rattle.farkas_cert.proofs.Laws.{begins_past}
use Rattle.farkas_cert.proofs.checks.first_factor.Goals as goal

pub loop-i-preserved : goal.loop-i-preserved
loop-i-preserved c = begins_past _ _ _ c.loop-i.invariant c.loop-i-test.true c.index-multipliers-i.is (c.is_zero.ensures.answer.0 c.if-not-is_zero.false)
