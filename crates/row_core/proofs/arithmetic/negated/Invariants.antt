use Rattle.std.proofs.Common.{◌≡◌, ◌++◌, drop}
use Rattle.std.specs.Prelude.{map, neg_ℤ}
use Rattle.row_core.proofs.arithmetic.negated.Given as goal

abbrev pub invariant-loop-k : goal.invariant-loop-k
invariant-loop-k l = l.row ++ map neg_ℤ (drop l.k l.a) ≡ map neg_ℤ l.a
