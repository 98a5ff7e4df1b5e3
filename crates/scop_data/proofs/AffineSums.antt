-- A multiple by 1.
use Rattle.std.proofs.Common.{◌≡◌, ℤ, pos, ◌*ℤ◌, List, [], ◌∷◌, refl, arith}
use Rattle.std.proofs.lemmas.Int.{ints}
use Rattle.row_core.specs.Rows.{scale}

pub one_of_row : (b : List ℤ) → scale (pos 1) b ≡ b
one_of_row [] = refl
one_of_row (y ∷ b) =
    let one : pos 1 *ℤ y ≡ y = omega (arith, ints) in
    let more : scale (pos 1) b ≡ b = one_of_row b in
    cc
