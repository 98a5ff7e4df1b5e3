use Rattle.std.proofs.Common.{◌≡◌, ◌<◌, ◌≤◌, ◌-◌, ◌^◌, drop, length}
use Rattle.elim_core.specs.Gcd.{gcd_onto}
use Rattle.elim_core.proofs.division.row_gcd.Given as goal

abbrev pub invariant-loop-k : goal.invariant-loop-k
invariant-loop-k g l = record {
  left : gcd_onto l.divisor (drop l.k (g.R.Row.coefficients l.row)) ≡ gcd_onto 0 (g.R.Row.coefficients l.row);
  within : l.k ≤ length (g.R.Row.coefficients l.row);
  range : l.divisor < 2 ^ 127;
}

abbrev pub decreases-loop-k : goal.decreases-loop-k
decreases-loop-k g l = length (g.R.Row.coefficients l.row) - l.k
