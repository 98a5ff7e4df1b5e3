use Rattle.std.proofs.Common.{◌≡◌, map, take}
use Rattle.scop_core.specs.AffineSums.{widened}
use Rattle.clay_commands.proofs.form_edits.widened_levels.Given as goal

abbrev pub invariant-loop-level : goal.invariant-loop-level
invariant-loop-level l = l.made ≡ map widened (take l.level-index l.levels)
