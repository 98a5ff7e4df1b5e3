use Rattle.std.proofs.Common.{◌≡◌, take, map}
use Rattle.schedule_recovery.proofs.orders.places_in.Given as goal

abbrev pub invariant-loop-one : goal.invariant-loop-one
invariant-loop-one l = l.made ≡ map (λ e. e.0) (take l.one-index l.placed)
