use Rattle.std.proofs.Common.{◌≡◌, ◌+◌, ◌++◌, drop, length}
use Rattle.elim_core.proofs.starts.push_entries.Given as goal

abbrev pub invariant-loop-k : goal.invariant-loop-k
invariant-loop-k g l = record {
  left : g.R.Row.coefficients l.row ++ drop l.k l.entries ≡ g.R.Row.coefficients l.initial.row ++ l.entries;
  count : length (g.R.Row.coefficients l.row) ≡ length (g.R.Row.coefficients l.initial.row) + l.k;
}
