use Rattle.std.proofs.Common.{◌≡◌, take, map, pos}
use Rattle.schedule_recovery.proofs.prefixes.order_of.Given as goal

abbrev pub invariant-loop-number : goal.invariant-loop-number
invariant-loop-number l = l.made ≡ map (λ b. pos b) (take l.number-index l.numbers)
