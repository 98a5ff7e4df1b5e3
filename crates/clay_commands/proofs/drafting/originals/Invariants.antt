use Rattle.std.proofs.Common.{◌≡◌, take, map}
use Rattle.clay_commands.specs.Soundness.{original_of}
use Rattle.clay_commands.proofs.drafting.originals.Given as goal

abbrev pub invariant-loop-leaf : goal.invariant-loop-leaf
invariant-loop-leaf l = l.of ≡ map original_of (take l.leaf-index l.leaves)
