use Rattle.std.proofs.Common.{◌≡◌, drop, take, length, reverse}
use Rattle.chlore_recover.specs.Strategy.{ordered_from}
use Rattle.schedule_recovery.specs.Falling.{Falls}
use Rattle.schedule_recovery.proofs.beta_orders.in_beta_order.Given as goal

abbrev pub invariant-loop-vector : goal.invariant-loop-vector
invariant-loop-vector l = record {
  vectors : l.vectors ≡ take (length l.vectors) l.initial.vectors;
  placed : reverse l.fallen ≡ ordered_from (length l.vectors) (drop (length l.vectors) l.initial.vectors);
  falls : Falls l.fallen;
}

abbrev pub decreases-loop-vector : goal.decreases-loop-vector
decreases-loop-vector l = length l.vectors
