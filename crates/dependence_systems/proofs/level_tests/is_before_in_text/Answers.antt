use Rattle.std.proofs.Common.{sym, ◌∙◌}
use Rattle.dependence_systems.proofs.LevelTests.{order_ends}
use Rattle.dependence_systems.proofs.level_tests.is_before_in_text.Goals as goal

pub returns-then-k-q : goal.returns-then-k-q
returns-then-k-q c = sym (order_ends c.args.p.now c.args.q.now c.loop-k.k c.if-k-q.true) ∙ c.loop-k.invariant
