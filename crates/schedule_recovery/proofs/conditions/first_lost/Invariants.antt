use Rattle.std.proofs.Common.{◌≡◌, ◌+◌, drop}
use Rattle.chlore_recover.specs.Refusals.{first_failing, can_be_recovered}
use Rattle.schedule_recovery.proofs.conditions.first_lost.Given as goal

abbrev pub invariant-loop-k : goal.invariant-loop-k
invariant-loop-k l = first_failing can_be_recovered (l.k + 1) (drop l.k l.statements) ≡ first_failing can_be_recovered 1 l.statements
