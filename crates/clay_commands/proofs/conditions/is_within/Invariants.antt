use Rattle.std.proofs.Common.{◌≡◌, drop}
use Rattle.clay_commands.specs.Refusals.{is_within}
use Rattle.clay_commands.proofs.conditions.is_within.Given as goal

abbrev pub invariant-loop-leaf : goal.invariant-loop-leaf
invariant-loop-leaf l = is_within l.k l.prefix (drop l.leaf-index l.leaves) ≡ is_within l.k l.prefix l.leaves
