use Rattle.std.proofs.Common.{◌≡◌}
use Rattle.simplex_core.proofs.matrices.Matrix.clear.Given as goal

abbrev pub invariant-loop-j : goal.invariant-loop-j
invariant-loop-j l = l.self ≡ l.fn.self
