use Rattle.std.proofs.Common.{◌≡◌, ◌<◌, ◌≤◌, ◌-◌, ℕ}
use Rattle.row_core.specs.Rows.{entry}
use Rattle.elim_core.proofs.pruning.have_same_variables.Given as goal

abbrev pub invariant-loop-start : goal.invariant-loop-start
invariant-loop-start g l = record {
  within : l.start ≤ l.n;
  same : (i : ℕ) → i < l.start → entry l.a.entries i ≡ entry l.b.entries i;
}

abbrev pub decreases-loop-start : goal.decreases-loop-start
decreases-loop-start g l = l.n - l.start
