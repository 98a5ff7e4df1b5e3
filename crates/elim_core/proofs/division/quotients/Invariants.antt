use Rattle.std.proofs.Common.{◌≡◌, ◌≤◌, ◌-◌, ◌++◌, drop, length}
use Rattle.elim_core.specs.Gcd.{divided_by}
use Rattle.elim_core.proofs.division.quotients.Given as goal

abbrev pub invariant-loop-k : goal.invariant-loop-k
invariant-loop-k g l = record {
  left : g.R.Row.coefficients l.made ++ divided_by l.divisor (drop l.k (g.R.Row.coefficients l.row)) ≡ divided_by l.divisor (g.R.Row.coefficients l.row);
  count : length (g.R.Row.coefficients l.made) ≡ l.k;
  within : l.k ≤ length (g.R.Row.coefficients l.row);
}

abbrev pub decreases-loop-k : goal.decreases-loop-k
decreases-loop-k g l = length (g.R.Row.coefficients l.row) - l.k
