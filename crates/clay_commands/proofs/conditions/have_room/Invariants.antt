use Rattle.std.proofs.Common.{◌≡◌, drop, not}
use Rattle.clay_commands.specs.Refusals.{all_under, has_full_part}
use Rattle.clay_commands.proofs.conditions.have_room.Given as goal

abbrev pub invariant-loop-leaf : goal.invariant-loop-leaf
invariant-loop-leaf l = all_under l.prefix (λ s. not (has_full_part s)) (drop l.leaf-index l.leaves) ≡ all_under l.prefix (λ s. not (has_full_part s)) l.leaves
