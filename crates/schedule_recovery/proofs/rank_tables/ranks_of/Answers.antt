use Rattle.schedule_recovery.proofs.Ranks.{ranks_none, ranks_set, ranks_keep}
use Rattle.schedule_recovery.proofs.rank_tables.ranks_of.Goals as goal
