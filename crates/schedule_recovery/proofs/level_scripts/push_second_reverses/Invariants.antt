use Rattle.std.proofs.Common.{◌≡◌, ◌-◌, ◌++◌, length, pos, ◌∷◌, []}
use Rattle.std.specs.List.{range_with_len}
use Rattle.chlore_recover.specs.LevelScripts.{second_reverses}
use Rattle.chlore_recover.specs.Recoverable.{rows_of}
use Rattle.schedule_recovery.proofs.level_scripts.push_second_reverses.Given as goal

abbrev pub invariant-loop-k : goal.invariant-loop-k
invariant-loop-k l = l.script ++ second_reverses (pos l.number ∷ []) (range_with_len l.k (length l.levels - l.k)) (rows_of l.levels)
    ≡ l.fn.script ++ second_reverses (pos l.number ∷ []) (range_with_len 0 (length l.levels)) (rows_of l.levels)
