use Rattle.std.proofs.Common.{◌≡◌, take, map}
use Rattle.chlore_recover.specs.Triangles.{last_place}
use Rattle.chlore_recover.specs.Recoverable.{rows_of}
use Rattle.schedule_recovery.proofs.rows.last_places.Given as goal

abbrev pub invariant-loop-level : goal.invariant-loop-level
invariant-loop-level l = l.places ≡ map last_place (rows_of (take l.level-index l.levels))
