use Rattle.std.proofs.Common.{◌≡◌, ◌≤◌, ◌+◌, ◌++◌, drop, length, pos, ◌∷◌, []}
use Rattle.chlore_recover.specs.LevelScripts.{skews}
use Rattle.chlore_recover.specs.Recoverable.{rows_of, triangle_of}
use Rattle.schedule_recovery.proofs.level_scripts.push_skews.Given as goal

abbrev pub invariant-loop-left : goal.invariant-loop-left
invariant-loop-left l = record {
  script : l.script ≡ l.fn.script ++ skews (pos l.number ∷ []) (l.left + 1) (drop l.left (triangle_of (length l.levels) (rows_of l.levels)));
  within : l.left ≤ length l.levels;
}

abbrev pub decreases-loop-left : goal.decreases-loop-left
decreases-loop-left l = l.left
