use Rattle.std.proofs.Common.{ℕ, ◌<◌, ◌^◌, unsigned_abs}
use Rattle.row_core.specs.Rows.{entry}
use Rattle.dependence_blocks.proofs.printing.multipliers_have_range.Given as goal

abbrev pub invariant-loop-multiplier : goal.invariant-loop-multiplier
invariant-loop-multiplier l = (k : ℕ) → k < l.multiplier-index → unsigned_abs (entry l.multipliers k) < 2 ^ 127
