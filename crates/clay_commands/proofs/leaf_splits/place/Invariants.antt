use Rattle.std.proofs.Common.{◌≡◌, ◌+◌, drop}
use Rattle.clay_commands.specs.Steps.{place_in}
use Rattle.clay_commands.proofs.leaf_splits.place.Given as goal

abbrev pub invariant-loop-k : goal.invariant-loop-k
invariant-loop-k l = l.k + place_in l.vector (drop l.k l.leaves) ≡ place_in l.vector l.leaves
