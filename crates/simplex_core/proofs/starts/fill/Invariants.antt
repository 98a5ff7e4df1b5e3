use Rattle.std.proofs.Common.{◌≡◌}
use Rattle.simplex_core.proofs.starts.fill.Given as goal

abbrev pub invariant-loop-i : goal.invariant-loop-i
invariant-loop-i l = l.cells ≡ l.fn.cells
