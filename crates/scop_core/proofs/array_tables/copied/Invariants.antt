use Rattle.std.proofs.Common.{◌≡◌, ◌++◌, drop}
use Rattle.scop_core.proofs.array_tables.copied.Given as goal

abbrev pub invariant-loop-k : goal.invariant-loop-k
invariant-loop-k l = l.made ++ drop l.k l.table ≡ l.table
