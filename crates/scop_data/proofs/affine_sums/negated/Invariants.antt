use Rattle.std.proofs.Common.{◌≡◌, ◌++◌, drop}
use Rattle.std.specs.Prelude.{map, neg_ℤ}
use Rattle.scop_data.proofs.affine_sums.negated.Given as goal

abbrev pub invariant-loop-coeff : goal.invariant-loop-coeff
invariant-loop-coeff l = l.made ++ map neg_ℤ (drop l.coeff-index l.row) ≡ map neg_ℤ l.row
