use Rattle.std.proofs.Common.{◌≡◌, ◌++◌, length, reverse}
use Rattle.schedule_recovery.proofs.beta_orders.reversed.Given as goal

abbrev pub invariant-loop-item : goal.invariant-loop-item
invariant-loop-item l = l.made ++ reverse l.left ≡ reverse l.fn.fallen

abbrev pub decreases-loop-item : goal.decreases-loop-item
decreases-loop-item l = length l.left
