use Rattle.std.proofs.Common.{◌≡◌, ◌≤◌, ◌<◌, ◌+◌, length}
use Rattle.simplex_core.proofs.warm_starts.WarmStart.search_further.Given as goal

abbrev pub invariant-loop-k : goal.invariant-loop-k
invariant-loop-k l = record {
  cells : l.cells.rows ≡ l.known + l.count;
  columns : 1 < l.cells.columns;
  places : length l.rows.items ≤ l.known + l.k;
}
