use Rattle.scop_core.specs.LevelOrder.{common_loops}
use Rattle.dependence_systems.proofs.LevelTests.{common_step}
use Rattle.dependence_systems.proofs.level_tests.count_common.Goals as goal

pub loop-k-preserved : goal.loop-k-preserved
loop-k-preserved c =
    common_step c.args.p.now c.args.q.now c.loop-k.k (common_loops c.args.p.now c.args.q.now) c.if-not-starts_common_at.ensures c.loop-k.invariant
