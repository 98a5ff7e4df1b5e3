use Rattle.std.proofs.Common.{◌≤◌, length}
use Rattle.schedule_recovery.proofs.Ranks.{AreRanksFrom}
use Rattle.schedule_recovery.proofs.rank_tables.ranks_of.Given as goal

abbrev pub invariant-loop-left : goal.invariant-loop-left
invariant-loop-left l = record {
  within : l.left ≤ length l.places;
  ranks : AreRanksFrom l.left l.places l.ranks;
}

abbrev pub decreases-loop-left : goal.decreases-loop-left
decreases-loop-left l = l.left
