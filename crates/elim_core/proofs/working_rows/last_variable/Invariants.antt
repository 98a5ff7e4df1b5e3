use Rattle.std.proofs.Common.{◌≡◌, ◌≤◌, ◌<◌, ◌-◌}
use Rattle.std.specs.Prelude.{pos}
use Rattle.row_core.specs.Rows.{entry}
use Rattle.elim_core.specs.Elimination.{last_variable}
use Rattle.elim_core.proofs.working_rows.last_variable.Given as goal

abbrev pub invariant-loop-k : goal.invariant-loop-k
invariant-loop-k g l = record {
  value : last_variable l.k l.w.entries ≡ l.last;
  within : l.k ≤ l.n;
  range : l.last ≤ l.n;
  found : l.k < l.n → ¬ (entry l.w.entries l.k ≡ pos 0);
}

abbrev pub decreases-loop-k : goal.decreases-loop-k
decreases-loop-k g l = l.n - l.k
