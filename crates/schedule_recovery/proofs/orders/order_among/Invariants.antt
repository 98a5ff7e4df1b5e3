use Rattle.std.proofs.Common.{◌≡◌, take, map}
use Rattle.beta_tree.specs.Edits.{place_of}
use Rattle.schedule_recovery.proofs.orders.order_among.Given as goal

abbrev pub invariant-loop-one : goal.invariant-loop-one
invariant-loop-one l = l.made ≡ map (λ e. place_of e.0 l.places) (take l.one-index l.target)
