use Rattle.std.proofs.Common.{◌-◌}
use Rattle.schedule_recovery.proofs.Falling.{Between}
use Rattle.schedule_recovery.proofs.beta_orders.place_among.Given as goal

abbrev pub invariant-loop-low : goal.invariant-loop-low
invariant-loop-low l = Between l.item l.fallen l.low l.high

abbrev pub decreases-loop-low : goal.decreases-loop-low
decreases-loop-low l = l.high - l.low
