use Rattle.std.proofs.Common.{◌≡◌, ◌+◌, drop}
use Rattle.chlore_recover.specs.Refusals.{first_different}
use Rattle.schedule_recovery.proofs.conditions.first_different.Given as goal

abbrev pub invariant-loop-k : goal.invariant-loop-k
invariant-loop-k l = first_different (l.k + 1) (drop l.k l.original) (drop l.k l.target) ≡ first_different 1 l.original l.target
