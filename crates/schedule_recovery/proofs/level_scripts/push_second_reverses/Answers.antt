use Rattle.std.proofs.Common.{pos, ◌∷◌, [], length}
use Rattle.chlore_recover.specs.Recoverable.{rows_of}
use Rattle.schedule_recovery.proofs.LevelSteps.{second_more}
use Rattle.schedule_recovery.proofs.level_scripts.push_second_reverses.Goals as goal

pub loop-k-preserved : goal.loop-k-preserved
loop-k-preserved c =
    second_more (pos c.args.number ∷ []) c.loop-k.k (length c.args.levels.now) (rows_of c.args.levels.now) c.sign_at-sign.result c.loop-k.script _ _ c.loop-k-test.true c.sign_at-sign.ensures c.in_ok-push_reverse_where.ensures
    c.loop-k.invariant
