-- Rows whose entries are coefficients.
use Rattle.std.proofs.Common.{ℤ, suc, List, [], ◌∷◌}
use Rattle.row_core.specs.Rows.{AreCoefficients}
use Rattle.chlore_recover.specs.Runs.{Small}

pub small_of_coefficients : (row : List ℤ) → AreCoefficients row → Small row
small_of_coefficients [] c = tt
small_of_coefficients (z ∷ row) c = (c.bound 0, small_of_coefficients row (record { bound = λ k. c.bound (suc k) }))
