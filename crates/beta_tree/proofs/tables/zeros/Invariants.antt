use Rattle.std.proofs.Common.{◌≡◌, replicate}
use Rattle.beta_tree.proofs.tables.zeros.Given as goal

abbrev pub invariant-loop-k : goal.invariant-loop-k
invariant-loop-k l = l.made ≡ replicate l._k 0
