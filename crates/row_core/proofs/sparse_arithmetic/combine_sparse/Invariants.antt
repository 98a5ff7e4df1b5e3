use Rattle.std.proofs.Common.{◌-◌, length}
use Rattle.row_core.proofs.Merging.{Merged}
use Rattle.row_core.proofs.sparse_arithmetic.combine_sparse.Given as goal

abbrev pub invariant-loop-k : goal.invariant-loop-k
invariant-loop-k l = Merged l.k l.p l.a l.q l.b l.row l.left.entries.now l.right.entries.now

abbrev pub decreases-loop-k : goal.decreases-loop-k
decreases-loop-k l = length l.a - l.k
