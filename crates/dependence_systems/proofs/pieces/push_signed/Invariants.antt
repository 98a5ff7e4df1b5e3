use Rattle.std.proofs.Common.{◌≡◌, ◌++◌, drop}
use Rattle.row_core.specs.Rows.{scale}
use Rattle.dependence_systems.specs.Comparisons.{factor_of}
use Rattle.dependence_systems.proofs.pieces.push_signed.Given as goal

abbrev pub invariant-loop-coeff : goal.invariant-loop-coeff
invariant-loop-coeff l = l.row ++ scale (factor_of l.negative) (drop l.coeff-index l.coeffs) ≡ l.fn.row ++ scale (factor_of l.negative) l.coeffs
