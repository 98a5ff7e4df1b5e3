use Rattle.std.proofs.Common.{◌≡◌, false, replicate}
use Rattle.beta_tree.proofs.looks.unset_flags.Given as goal

abbrev pub invariant-loop-k : goal.invariant-loop-k
invariant-loop-k l = l.flags ≡ replicate l._k false
