use Rattle.std.proofs.Common.{◌≡◌, take, map}
use Rattle.clay_commands.specs.Soundness.{raw_of}
use Rattle.clay_commands.proofs.drafting.raw_statements.Given as goal

abbrev pub invariant-loop-leaf : goal.invariant-loop-leaf
invariant-loop-leaf l = l.made ≡ map (raw_of l.parameters) (take l.leaf-index l.leaves)
