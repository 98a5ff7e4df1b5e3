use Rattle.std.proofs.Common.{◌≡◌}
use Rattle.simplex_core.proofs.warm_starts.WarmStart.fill_row.Given as goal

abbrev pub invariant-loop-j : goal.invariant-loop-j
invariant-loop-j l = l.cells ≡ l.fn.cells
