use Rattle.std.proofs.Common.{◌≡◌, ◌≤◌, ◌++◌}
use Rattle.elim_core.specs.Peaks.{down}
use Rattle.elim_core.proofs.orders.push_down.Given as goal

abbrev pub invariant-loop-left : goal.invariant-loop-left
invariant-loop-left l = record {
  left : l.columns.items ++ down l.start l.left ≡ l.initial.columns.items ++ down l.start l.count;
  range : l.left ≤ l.count;
}

abbrev pub decreases-loop-left : goal.decreases-loop-left
decreases-loop-left l = l.left
