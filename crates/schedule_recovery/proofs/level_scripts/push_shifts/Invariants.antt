use Rattle.std.proofs.Common.{◌≡◌, ◌+◌, ◌++◌, drop, pos, ◌∷◌, []}
use Rattle.chlore_recover.specs.LevelScripts.{shifts}
use Rattle.schedule_recovery.proofs.level_scripts.push_shifts.Given as goal

abbrev pub invariant-loop-k : goal.invariant-loop-k
invariant-loop-k l = l.script ++ shifts (pos l.number ∷ []) (l.k + 1) (drop l.k l.levels) ≡ l.fn.script ++ shifts (pos l.number ∷ []) 1 l.levels
