use Rattle.std.proofs.Common.{◌∙◌, arith}
use Rattle.schedule_recovery.proofs.RowEnds.{zero_test, place_before, place_here}
use Rattle.schedule_recovery.proofs.rows.last_place.Goals as goal

pub returns-then-not-is_zero : goal.returns-then-not-is_zero
returns-then-not-is_zero c =
    place_here c.loop-left.left c.index-row-left.result c.args.row.now c.loop-left-test.true c.loop-left.invariant.within c.index-row-left.is
    (zero_test c.is_zero.result c.index-row-left.result c.is_zero.ensures.answer ∙ c.if-not-is_zero.true) c.loop-left.invariant.so_far

pub loop-left-preserved : goal.loop-left-preserved
loop-left-preserved c =
    let l = c.loop-left.invariant.within in
    record {
      within = omega (arith, l);
      so_far = place_before c.loop-left.left c.index-row-left.result c.args.row.now c.loop-left-test.true l c.index-row-left.is
          (zero_test c.is_zero.result c.index-row-left.result c.is_zero.ensures.answer ∙ c.if-not-is_zero.false) c.loop-left.invariant.so_far;
    }
