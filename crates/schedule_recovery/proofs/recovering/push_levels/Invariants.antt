use Rattle.std.proofs.Common.{◌≡◌, ◌++◌, drop}
use Rattle.chlore_recover.specs.Strategy.{all_levels}
use Rattle.schedule_recovery.proofs.recovering.push_levels.Given as goal

abbrev pub invariant-loop-k : goal.invariant-loop-k
invariant-loop-k l = l.script ++ all_levels l.original l.target l.k (drop l.k l.placed) ≡ l.fn.script ++ all_levels l.original l.target 0 l.placed
