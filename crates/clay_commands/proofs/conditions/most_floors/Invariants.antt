use Rattle.std.proofs.Common.{◌≡◌, drop, max, length}
use Rattle.clay_commands.specs.Refusals.{most_under}
use Rattle.clay_commands.proofs.conditions.most_floors.Given as goal

abbrev pub invariant-loop-leaf : goal.invariant-loop-leaf
invariant-loop-leaf l = max l.most (most_under l.prefix (λ s. length s.schedule.floors) (drop l.leaf-index l.leaves)) ≡ most_under l.prefix (λ s. length s.schedule.floors) l.leaves
