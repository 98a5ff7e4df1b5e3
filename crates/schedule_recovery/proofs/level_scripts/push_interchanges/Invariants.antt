use Rattle.std.proofs.Common.{◌≡◌, ◌++◌, drop, length, pos, ◌∷◌, []}
use Rattle.std.specs.List.{range_with_len}
use Rattle.chlore_recover.specs.LevelScripts.{interchanges}
use Rattle.schedule_recovery.specs.Steps.{HasAll}
use Rattle.schedule_recovery.proofs.level_scripts.push_interchanges.Given as goal

abbrev pub invariant-loop-k : goal.invariant-loop-k
invariant-loop-k l = record {
  script : l.script ++ interchanges (pos l.number ∷ []) l.k l.standing.items (drop l.k l.places)
      ≡ l.fn.script ++ interchanges (pos l.number ∷ []) 0 (range_with_len 0 (length l.places)) l.places;
  all : HasAll (length l.places) l.standing.items;
}
