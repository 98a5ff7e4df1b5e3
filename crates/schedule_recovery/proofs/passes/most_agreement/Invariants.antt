use Rattle.std.proofs.Common.{◌≡◌, drop}
use Rattle.chlore_recover.specs.Orders.{vectors_of}
use Rattle.schedule_recovery.specs.Agreements.{most_from}
use Rattle.schedule_recovery.proofs.passes.most_agreement.Given as goal

abbrev pub invariant-loop-placed : goal.invariant-loop-placed
invariant-loop-placed l = most_from l.most l.vector (vectors_of (drop l.placed-index l.rest)) ≡ most_from 0 l.first (vectors_of l.rest)
