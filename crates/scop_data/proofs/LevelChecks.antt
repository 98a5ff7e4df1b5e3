-- Definitions of the order by levels on concrete data.
use Rattle.std.proofs.Common.{◌≡◌, refl, [], ◌∷◌, List, ℤ, pos, arith}
use Rattle.std.proofs.lemmas.Int.{ints}
use Rattle.scop_data.specs.DenseBetas.{dense_vector}
use Rattle.scop_data.specs.LevelOrder.{levels_between, OrdersAt}

-- two statements of one loop nest: for i { for j { S } T }, and U behind it
abbrev betas_of_s : List ℤ
betas_of_s = pos 0 ∷ (pos 0 ∷ (pos 0 ∷ []))

abbrev betas_of_t : List ℤ
betas_of_t = pos 0 ∷ (pos 1 ∷ [])

abbrev betas_of_u : List ℤ
betas_of_u = pos 1 ∷ []

s_with_itself : levels_between betas_of_s betas_of_s ≡ 1 ∷ (2 ∷ [])
s_with_itself = refl

s_before_t : levels_between betas_of_s betas_of_t ≡ 1 ∷ (0 ∷ [])
s_before_t = refl

t_after_s : levels_between betas_of_t betas_of_s ≡ 1 ∷ []
t_after_s = refl

s_before_u : levels_between betas_of_s betas_of_u ≡ 0 ∷ []
s_before_u = refl

u_after_t : levels_between betas_of_u betas_of_t ≡ []
u_after_t = refl

-- with equal outer values the inner loop orders two instances of S; the outer one doesn't
inner_orders : OrdersAt 2 (pos 4 ∷ (pos 5 ∷ [])) (pos 4 ∷ (pos 7 ∷ [])) 2
inner_orders = (refl, omega (arith, ints))

outer_does_not : ¬ OrdersAt 2 (pos 4 ∷ (pos 5 ∷ [])) (pos 4 ∷ (pos 7 ∷ [])) 1
outer_does_not h = absurd (omega (arith, ints))

-- dense vectors of three statements
abbrev sparse : List (List ℤ)
sparse = (pos 1 ∷ (pos 5 ∷ [])) ∷ ((pos 1 ∷ (pos 9 ∷ (pos 2 ∷ []))) ∷ ((pos 4 ∷ []) ∷ []))

first_is_dense : dense_vector sparse (pos 1 ∷ (pos 5 ∷ [])) ≡ pos 0 ∷ (pos 0 ∷ [])
first_is_dense = refl

second_is_dense : dense_vector sparse (pos 1 ∷ (pos 9 ∷ (pos 2 ∷ []))) ≡ pos 0 ∷ (pos 1 ∷ (pos 0 ∷ []))
second_is_dense = refl

third_is_dense : dense_vector sparse (pos 4 ∷ []) ≡ pos 1 ∷ []
third_is_dense = refl
