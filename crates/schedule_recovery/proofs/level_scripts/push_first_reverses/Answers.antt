use Rattle.std.proofs.Common.{pos, ◌∷◌, [], ap, ◌∙◌}
use Rattle.chlore_recover.specs.Triangles.{last_value}
use Rattle.schedule_recovery.proofs.LevelSteps.{reverse_more}
use Rattle.schedule_recovery.proofs.level_scripts.push_first_reverses.Goals as goal

pub loop-k-preserved : goal.loop-k-preserved
loop-k-preserved c =
    reverse_more (pos c.args.number ∷ []) c.loop-k.k c.args.levels.now c.index-levels-k.result c.last_value-sign.result c.loop-k.script _ _ c.loop-k-test.true c.index-levels-k.is
    (c.last_value-sign.ensures ∙ ap last_value c.iterators.ensures) c.in_ok-push_reverse_where.ensures c.loop-k.invariant
