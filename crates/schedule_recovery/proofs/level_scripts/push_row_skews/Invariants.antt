use Rattle.std.proofs.Common.{◌≡◌, ◌+◌, ◌++◌, drop, pos, ◌∷◌, []}
use Rattle.row_core.specs.Rows.{scale}
use Rattle.chlore_recover.specs.LevelScripts.{row_skews}
use Rattle.schedule_recovery.proofs.level_scripts.push_row_skews.Given as goal

abbrev pub invariant-loop-k : goal.invariant-loop-k
invariant-loop-k l = l.script ++ row_skews (pos l.number ∷ []) l.level (l.k + 1) (scale l.sign (drop l.k l.factors)) ≡ l.fn.script ++ row_skews (pos l.number ∷ []) l.level 1 (scale l.sign l.factors)
