use Rattle.std.proofs.Common.{◌≤◌, ◌-◌, length}
use Rattle.elim_core.proofs.counts.entry_count.Given as goal

abbrev pub invariant-loop-k : goal.invariant-loop-k
invariant-loop-k g l = record {
  count : l.count ≤ l.k;
  within : l.k ≤ length (g.R.Row.coefficients l.row);
}

abbrev pub decreases-loop-k : goal.decreases-loop-k
decreases-loop-k g l = length (g.R.Row.coefficients l.row) - l.k
