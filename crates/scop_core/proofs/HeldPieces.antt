-- What holds of the items of a list so far holds of one more.
use Rattle.std.specs.Prelude.{All}
use Rattle.std.proofs.Common.{◌≡◌, ℕ, zero, suc, ◌+◌, ◌≤◌, ◌<◌, List, [], ◌∷◌, length, get_or, subst, arith}

-- it holds of the items before place i
abbrev pub AllBefore : {X : Type 0} → (X → Type 0) → List X → ℕ → Type 0
AllBefore {X} P xs i = (k : ℕ) (d : X) → k < i → P (get_or xs k d)

pub one_more : {X : Type 0} (P : X → Type 0) (xs : List X) (i : ℕ) (x : X) → i < length xs → x ≡ get_or xs i x → P x → AllBefore P xs i → AllBefore P xs (i + 1)
one_more P [] i x h e p before k d below = absurd (omega (arith, h))
one_more P (y ∷ xs) zero x h e p before zero d below = subst P e p
one_more P (y ∷ xs) zero x h e p before (suc k) d below = absurd (omega (arith, below))
one_more P (y ∷ xs) (suc i) x h e p before zero d below = before zero d (omega arith)
one_more P (y ∷ xs) (suc i) x h e p before (suc k) d below =
    let inner : i < length xs = omega (arith, h) in
    one_more P xs i x inner e p (λ j c lt. before (suc j) c (omega (arith, lt))) k d (omega (arith, below))

-- it holds of all items where it holds of those before the end
pub all_before : {X : Type 0} (P : X → Type 0) (xs : List X) (i : ℕ) → length xs ≤ i → AllBefore P xs i → All P xs
all_before P xs i h before = λ k d below. before k d (omega (arith, below, h))
