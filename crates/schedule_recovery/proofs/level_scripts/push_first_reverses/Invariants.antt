use Rattle.std.proofs.Common.{◌≡◌, ◌+◌, ◌++◌, drop, pos, ◌∷◌, []}
use Rattle.chlore_recover.specs.LevelScripts.{first_reverses}
use Rattle.chlore_recover.specs.Recoverable.{rows_of}
use Rattle.schedule_recovery.proofs.level_scripts.push_first_reverses.Given as goal

abbrev pub invariant-loop-k : goal.invariant-loop-k
invariant-loop-k l = l.script ++ first_reverses (pos l.number ∷ []) (l.k + 1) (rows_of (drop l.k l.levels)) ≡ l.fn.script ++ first_reverses (pos l.number ∷ []) 1 (rows_of l.levels)
