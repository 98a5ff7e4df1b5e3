-- Which statements a script is recovered for: originals in Clan's form, and recoverable targets.
use Rattle.std.specs.Prelude.{◌≡◌, ℤ, pos, ℕ, ◌+◌, ◌==◌, Bool, ◌&&◌, List, [], ◌∷◌, length, map}
use Rattle.std.specs.List.{range_with_len}
use Rattle.scop_data.specs.declared.affines.Affine.{Affine}
use Rattle.scop_data.specs.declared.statements.Statement.{Statement}
use Rattle.scop_core.specs.SolvedRows.{zeros, unit}
use Rattle.chlore_recover.specs.Triangles.{Signed, IsSign, IsFactored, end_in_signs, differ, last_place, row_ending_at}

-- the form with this iterator part, and else zeros, over so many parameters
abbrev pub plain : ℕ → List ℤ → Affine
plain parameters row = record { iterators = row; floors = []; parameters = zeros parameters; constant = pos 0 }

-- the iterator parts of levels
abbrev pub rows_of : List Affine → List (List ℤ)
rows_of levels = map (λ form. form.iterators) levels

-- levels, from place k on, are iterator k of d and so on, or their negatives, alone
abbrev pub AreClansFrom : ℕ → ℕ → ℕ → List Affine → Type 0
AreClansFrom parameters k d [] = k ≡ d
AreClansFrom parameters k d (form ∷ levels) = ((g : ℤ) × IsSign g × (form ≡ plain parameters (unit d k g))) × AreClansFrom parameters (k + 1) d levels

-- a statement over so many parameters is in Clan's form: no floors, as many levels as iterators, level k is iterator k or its negative
pub record IsClans (parameters : ℕ) (statement : Statement) : Type 0 where
  pub floors : statement.schedule.floors ≡ []
  pub levels : AreClansFrom parameters 0 (length statement.body.iterators) statement.schedule.levels

-- a statement is recoverable: no floors, and the iterator parts of its levels are the rows of a signed permutation times a unit
-- lower triangle
pub record IsRecoverable (statement : Statement) : Type 0 where
  pub floors : statement.schedule.floors ≡ []
  pub factored : (P : Signed) × (L : List (List ℤ)) × IsFactored (length statement.body.iterators) P L (rows_of statement.schedule.levels)

-- d rows whose last coefficients that aren't 0 are 1 or -1, at places that differ
abbrev pub ends_apart : ℕ → List (List ℤ) → Bool
ends_apart d rows = (length rows == d) && end_in_signs rows && differ (map last_place rows)

-- the triangle of such rows: row i is the one that ends at place i, times its sign
abbrev pub triangle_of : ℕ → List (List ℤ) → List (List ℤ)
triangle_of d rows = map (λ i. row_ending_at i rows) (range_with_len 0 d)
