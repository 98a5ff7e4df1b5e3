use Rattle.schedule_recovery.proofs.Falling.{between_all, between_up, between_down, put_between, same_test}
use Rattle.schedule_recovery.proofs.beta_orders.place_among.Goals as goal

pub loop-low-init : goal.loop-low-init
loop-low-init c = between_all c.args.item.now c.args.fallen.now

pub loop-low-preserved-then-is_before : goal.loop-low-preserved-then-is_before
loop-low-preserved-then-is_before c =
    between_up c.args.item.now c.index-fallen-middle.result c.args.fallen.now c.loop-low.low c.loop-low.high c.place_between-middle.result c.requires c.loop-low.invariant c.place_between-middle.ensures.from
    c.place_between-middle.ensures.below c.index-fallen-middle.is (same_test c.args.item.now c.index-fallen-middle.result _ _ _ _ c.vector.ensures c.vector-in-loop-low.ensures c.is_before.ensures c.if-is_before.true)

pub loop-low-preserved : goal.loop-low-preserved
loop-low-preserved c =
    between_down c.args.item.now c.index-fallen-middle.result c.args.fallen.now c.loop-low.low c.loop-low.high c.place_between-middle.result c.requires c.loop-low.invariant c.place_between-middle.ensures.from
    c.place_between-middle.ensures.below c.index-fallen-middle.is (same_test c.args.item.now c.index-fallen-middle.result _ _ _ _ c.vector.ensures c.vector-in-loop-low.ensures c.is_before.ensures c.if-is_before.false)

pub returns-clause-answer : goal.returns-clause-answer
returns-clause-answer c = put_between c.args.item.now c.args.fallen.now c.loop-low.low c.loop-low.high c.loop-low.invariant c.loop-low-test.false
