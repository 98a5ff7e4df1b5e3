use Rattle.std.proofs.Common.{◌≡◌, ◌+◌, ◌-◌, ◌++◌, ◌∷◌, [], arith}
use Rattle.elim_core.proofs.ColumnOrder.{down_pushed}
use Rattle.elim_core.proofs.orders.push_down.Goals as goal

pub loop-left-preserved : goal.loop-left-preserved
loop-left-preserved c =
    let e : c.push.new.self.items ≡ c.loop-left.columns.items ++ ((c.args.start + (c.loop-left.left - 1)) ∷ []) = c.in_ok-push.ensures.items in
    record { left = down_pushed c.loop-left.columns.items c.push.new.self.items _ c.args.start c.loop-left.left (c.loop-left.left - 1) (omega arith) e c.loop-left.invariant.left; range = omega (arith, c.loop-left.invariant.range) }
