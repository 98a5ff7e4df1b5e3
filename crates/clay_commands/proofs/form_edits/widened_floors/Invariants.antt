use Rattle.std.proofs.Common.{◌≡◌, map, take}
use Rattle.clay_commands.specs.Drafts.{widened_floor}
use Rattle.clay_commands.proofs.form_edits.widened_floors.Given as goal

abbrev pub invariant-loop-floor : goal.invariant-loop-floor
invariant-loop-floor l = l.made ≡ map widened_floor (take l.floor-index l.floors)
