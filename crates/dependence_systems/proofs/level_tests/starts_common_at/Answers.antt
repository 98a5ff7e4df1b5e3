use Rattle.std.proofs.Common.{sym}
use Rattle.dependence_systems.proofs.LevelTests.{ends_first, ends_second}
use Rattle.dependence_systems.proofs.level_tests.starts_common_at.Goals as goal

pub returns-then-k-p : goal.returns-then-k-p
returns-then-k-p c = sym (ends_first c.args.p.now c.args.q.now c.args.k c.if-k-p.true)

pub returns-then-k-q : goal.returns-then-k-q
returns-then-k-q c = sym (ends_second c.args.p.now c.args.q.now c.args.k c.if-k-q.true)
