use Rattle.std.proofs.Common.{take}
use Rattle.row_core.specs.Rows.{AreCoefficients}
use Rattle.row_core.proofs.dense_rows.see_ranges.Given as goal

abbrev pub invariant-loop-coeff : goal.invariant-loop-coeff
invariant-loop-coeff l = AreCoefficients (take l.coeff-index l.coeffs)
