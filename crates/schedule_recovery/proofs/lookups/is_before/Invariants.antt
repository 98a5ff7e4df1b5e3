use Rattle.std.proofs.Common.{◌≡◌, drop}
use Rattle.chlore_recover.specs.Strategy.{is_before}
use Rattle.schedule_recovery.proofs.lookups.is_before.Given as goal

abbrev pub invariant-loop-k : goal.invariant-loop-k
invariant-loop-k l = is_before (drop l.k l.u) (drop l.k l.v) ≡ is_before l.u l.v
