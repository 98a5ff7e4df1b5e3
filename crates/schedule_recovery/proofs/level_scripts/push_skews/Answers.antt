use Rattle.std.proofs.Common.{pos, ◌∷◌, [], length, arith, ◌-◌}
use Rattle.chlore_recover.specs.Recoverable.{rows_of}
use Rattle.schedule_recovery.proofs.Skewing.{skews_start, skews_down}
use Rattle.schedule_recovery.proofs.level_scripts.push_skews.Goals as goal

pub loop-left-init : goal.loop-left-init
loop-left-init c = record { script = skews_start (pos c.args.number ∷ []) (length c.args.levels.now) (rows_of c.args.levels.now) c.args.script.now; within = omega arith }

pub loop-left-preserved : goal.loop-left-preserved
loop-left-preserved c =
    let within = c.loop-left.invariant.within in
    let some = c.loop-left-test.true in
    record {
      script = skews_down (pos c.args.number ∷ []) (length c.args.levels.now) c.loop-left.left (c.loop-left.left - 1) (rows_of c.args.levels.now) c.args.script.now c.loop-left.script _ (omega (arith, within, some)) (omega (arith, some)) c.loop-left.invariant.script c.in_ok-push_skews_at.ensures;
      within = omega (arith, within);
    }
