use Rattle.std.proofs.Common.{◌≡◌, drop}
use Rattle.chlore_recover.specs.Triangles.{differ}
use Rattle.schedule_recovery.proofs.lookups.differ.Given as goal

abbrev pub invariant-loop-k : goal.invariant-loop-k
invariant-loop-k l = differ (drop l.k l.list) ≡ differ l.list
