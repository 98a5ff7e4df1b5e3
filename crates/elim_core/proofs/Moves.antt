-- A point of homogeneous coordinates made larger by a factor and moved along one column.
use Rattle.std.proofs.Common.{◌≡◌, refl, ap, ℕ, zero, suc, ◌<◌, List, [], ◌∷◌, ◌++◌, length, arith}
use Rattle.std.specs.Prelude.{ℤ, ◌+ℤ◌, ◌*ℤ◌}
use Rattle.std.proofs.lemmas.Int.{ints}
use Rattle.row_core.proofs.Ring.{mul_add_z, mul_swap_z, mul_comm_z}
use Rattle.row_core.specs.Rows.{entry, dot, scale}
use Rattle.elim_core.proofs.Algebra.{length_scale}

-- s times the point, and t more at place j
abbrev pub move : ℤ → ℤ → ℕ → List ℤ → List ℤ
move s t j [] = []
move s t zero (x ∷ v) = ((s *ℤ x) +ℤ t) ∷ scale s v
move s t (suc j) (x ∷ v) = (s *ℤ x) ∷ move s t j v

pub dot_scaled_point : (s : ℤ) (r v : List ℤ) → dot r (scale s v) ≡ s *ℤ dot r v
dot_scaled_point s [] v = omega (arith, ints)
dot_scaled_point s (c ∷ r) [] = omega (arith, ints)
dot_scaled_point s (c ∷ r) (x ∷ v) = omega (arith, ints, mul_add_z s (c *ℤ x) (dot r v), mul_swap_z s c x, dot_scaled_point s r v)

pub dot_move : (s t : ℤ) (j : ℕ) (r v : List ℤ) → j < length v → dot r (move s t j v) ≡ (s *ℤ dot r v) +ℤ (t *ℤ entry r j)
dot_move s t j r [] l = absurd (omega arith)
dot_move s t zero [] (x ∷ v) l = omega (arith, ints)
dot_move s t (suc j) [] (x ∷ v) l = omega (arith, ints)
dot_move s t zero (c ∷ r) (x ∷ v) l = omega (arith, ints, dot_scaled_point s r v, mul_add_z c (s *ℤ x) t, mul_comm_z c t, mul_swap_z c s x, mul_add_z s (c *ℤ x) (dot r v))
dot_move s t (suc j) (c ∷ r) (x ∷ v) l =
    let k : j < length v = omega arith in
    omega (arith, ints, dot_move s t j r v k, mul_swap_z c s x, mul_add_z s (c *ℤ x) (dot r v))

scale_append : (s : ℤ) (x : List ℤ) (q : ℤ) → scale s (x ++ (q ∷ [])) ≡ scale s x ++ ((s *ℤ q) ∷ [])
scale_append s [] q = refl
scale_append s (y ∷ x) q = ap (λ t. (s *ℤ y) ∷ t) (scale_append s x q)

pub move_append : (s t : ℤ) (j : ℕ) (x : List ℤ) (q : ℤ) → j < length x → move s t j (x ++ (q ∷ [])) ≡ move s t j x ++ ((s *ℤ q) ∷ [])
move_append s t j [] q l = absurd (omega arith)
move_append s t zero (y ∷ x) q l = ap (λ v. ((s *ℤ y) +ℤ t) ∷ v) (scale_append s x q)
move_append s t (suc j) (y ∷ x) q l = ap (λ v. (s *ℤ y) ∷ v) (move_append s t j x q (omega arith))

pub length_move : (s t : ℤ) (j : ℕ) (x : List ℤ) → length (move s t j x) ≡ length x
length_move s t j [] = refl
length_move s t zero (y ∷ x) = omega (arith, length_scale s x)
length_move s t (suc j) (y ∷ x) = omega (arith, length_move s t j x)
