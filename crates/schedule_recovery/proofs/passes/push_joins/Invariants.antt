use Rattle.std.proofs.Common.{◌≡◌, ◌++◌, drop}
use Rattle.chlore_recover.specs.Orders.{vectors_of}
use Rattle.chlore_recover.specs.Strategy.{fuses_of_length}
use Rattle.schedule_recovery.proofs.passes.push_joins.Given as goal

abbrev pub invariant-loop-placed : goal.invariant-loop-placed
invariant-loop-placed l = l.script ++ fuses_of_length l.size l.vector (vectors_of (drop l.placed-index l.rest)) ≡ l.fn.script ++ fuses_of_length l.size l.first (vectors_of l.rest)
