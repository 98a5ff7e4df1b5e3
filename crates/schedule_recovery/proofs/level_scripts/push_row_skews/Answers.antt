use Rattle.std.proofs.Common.{pos, ◌∷◌, []}
use Rattle.schedule_recovery.proofs.LevelSteps.{skew_more}
use Rattle.schedule_recovery.proofs.level_scripts.push_row_skews.Goals as goal

pub loop-k-preserved : goal.loop-k-preserved
loop-k-preserved c =
    skew_more (pos c.args.number ∷ []) c.args.level c.loop-k.k c.args.sign c.index-factors-k.result c.args.factors.now c.loop-k.script _ _ c.loop-k-test.true c.index-factors-k.is c.in_ok-push_skew_where.ensures c.loop-k.invariant
