use Rattle.std.proofs.Common.{◌≡◌, take, drop, map}
use Rattle.chlore_recover.specs.Triangles.{end_in_signs, last_place}
use Rattle.chlore_recover.specs.Recoverable.{rows_of}
use Rattle.schedule_recovery.proofs.conditions.ends_apart.Given as goal

abbrev pub invariant-loop-level : goal.invariant-loop-level
invariant-loop-level l = record {
  places : l.places ≡ map last_place (rows_of (take l.level-index l.levels));
  signs : end_in_signs (rows_of (drop l.level-index l.levels)) ≡ end_in_signs (rows_of l.levels);
}
