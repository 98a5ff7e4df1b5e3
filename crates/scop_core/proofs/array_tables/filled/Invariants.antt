use Rattle.std.proofs.Common.{◌≡◌, ◌++◌, drop}
use Rattle.scop_core.proofs.array_tables.filled.Given as goal

abbrev pub invariant-loop-array : goal.invariant-loop-array
invariant-loop-array l = l.made ++ drop l.array-index l.arrays ≡ l.arrays
