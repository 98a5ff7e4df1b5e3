use Rattle.std.proofs.Common.{◌≡◌, take, map, pos}
use Rattle.schedule_recovery.proofs.prefixes.prefix_with_room.Given as goal

abbrev pub invariant-loop-entry : goal.invariant-loop-entry
invariant-loop-entry l = l.made ≡ map (λ b. pos b) (take l.entry-index l.entries)
