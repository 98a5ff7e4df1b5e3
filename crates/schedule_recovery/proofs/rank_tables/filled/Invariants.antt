use Rattle.std.proofs.Common.{◌≡◌, replicate}
use Rattle.schedule_recovery.proofs.rank_tables.filled.Given as goal

abbrev pub invariant-loop-k : goal.invariant-loop-k
invariant-loop-k l = l.made ≡ replicate l.k l.number
