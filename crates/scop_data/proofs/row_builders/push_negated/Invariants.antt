use Rattle.std.proofs.Common.{◌≡◌, ◌<◌, ◌^◌, ◌+ℤ◌, pos, neg_ℤ, unsigned_abs, ◌∷◌, ◌++◌, length, map, OnOk, ℕ, ◌+◌, ◌-◌, ◌*◌, ◌≤◌, drop}
use Rattle.row_core.specs.Rows.{entry}
use Rattle.scop_data.specs.SolvedRows.{zeros, unit, raised}
use Rattle.scop_data.proofs.row_builders.push_negated.Given as goal

abbrev pub invariant-loop-coeff : goal.invariant-loop-coeff
invariant-loop-coeff l = l.row ++ map neg_ℤ (drop l.coeff-index l.coeffs) ≡ l.fn.row ++ map neg_ℤ l.coeffs
