use Rattle.std.proofs.Common.{◌≡◌, ◌++◌, take, drop}
use Rattle.clay_commands.specs.Steps.{joined}
use Rattle.clay_commands.proofs.vector_steps.join.Given as goal

abbrev pub invariant-loop-k : goal.invariant-loop-k
invariant-loop-k l = l.leaves.items ≡ joined (take l.k l.betas) (take l.k l.initial.leaves.items) ++ drop l.k l.initial.leaves.items
