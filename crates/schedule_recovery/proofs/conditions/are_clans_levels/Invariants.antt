use Rattle.std.proofs.Common.{◌≡◌, drop}
use Rattle.chlore_recover.specs.Refusals.{are_clans_levels}
use Rattle.schedule_recovery.proofs.conditions.are_clans_levels.Given as goal

abbrev pub invariant-loop-k : goal.invariant-loop-k
invariant-loop-k l = are_clans_levels l.k (drop l.k l.levels) ≡ are_clans_levels 0 l.levels
