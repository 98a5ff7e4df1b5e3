-- The definitions on concrete rows.
use Rattle.std.specs.Prelude.{pos, negsuc, ◌≡◌, ◌^◌, refl, ◌-◌, [], ◌∷◌}
use Rattle.std.proofs.Common.{arith}
use Rattle.row_core.specs.Rows.{entry, dot, add_rows, scale, combined, combined_weight, IsHeavy}
use Rattle.row_core.specs.Sparse.{nonzeros, spread}

-- 3x - 2y + 5z at x = 4, y = 1 and the constant taken twice
value : dot (pos 3 ∷ (negsuc 1 ∷ (pos 5 ∷ []))) (pos 4 ∷ (pos 1 ∷ (pos 2 ∷ []))) ≡ pos 20
value = refl

past_the_end : entry (pos 7 ∷ []) 3 ≡ pos 0
past_the_end = refl

longer_rest : add_rows (pos 1 ∷ []) (scale (negsuc 0) (pos 4 ∷ (pos 5 ∷ []))) ≡ negsuc 2 ∷ (negsuc 4 ∷ [])
longer_rest = refl

two_and_three : combined (pos 2) (pos 1 ∷ (negsuc 2 ∷ [])) (pos 3) (pos 0 ∷ (pos 1 ∷ [])) ≡ pos 2 ∷ (negsuc 2 ∷ [])
two_and_three = refl

-- the difference of 2^127 - 1 and 1 fits, but its two products weigh 2^127
heavy_though_it_fits : combined_weight (pos 1) (pos (2 ^ 127 - 1) ∷ []) (negsuc 0) (pos 1 ∷ []) ≡ 2 ^ 127
heavy_though_it_fits = refl

first_column_is_heavy : IsHeavy (pos 2) (pos (2 ^ 126) ∷ []) (pos 0) (pos 0 ∷ [])
first_column_is_heavy = (0, omega arith, omega arith, omega arith)

places : nonzeros 0 (pos 0 ∷ (pos 5 ∷ (pos 0 ∷ (negsuc 0 ∷ [])))) ≡ record { place = 1; value = pos 5 } ∷ (record { place = 3; value = negsuc 0 } ∷ [])
places = refl

between_zeros : spread 0 4 (record { place = 1; value = pos 5 } ∷ (record { place = 3; value = negsuc 0 } ∷ [])) ≡ pos 0 ∷ (pos 5 ∷ (pos 0 ∷ (negsuc 0 ∷ [])))
between_zeros = refl
