use Rattle.std.proofs.Common.{pos, ◌∷◌, []}
use Rattle.schedule_recovery.proofs.LevelSteps.{shift_more}
use Rattle.schedule_recovery.proofs.level_scripts.push_shifts.Goals as goal

pub loop-k-preserved : goal.loop-k-preserved
loop-k-preserved c =
    shift_more (pos c.args.number ∷ []) c.loop-k.k c.args.levels.now c.index-levels-k.result c.loop-k.script _ _ c.loop-k-test.true c.index-levels-k.is c.in_ok-push_shift_where.ensures c.loop-k.invariant
