-- The dense numbering of vectors.
use Rattle.std.specs.Prelude.{ℕ, ℤ, if◌then◌else◌, List, [], ◌∷◌, map, filter, int_lt}
use Rattle.std.specs.Set.{distinct_count}
use Rattle.std.specs.Ordering.{int_eq}

-- the first entries of the vectors that have one
abbrev pub heads : {A : Type 0} → List (List A) → List A
heads [] = []
heads ([] ∷ V) = heads V
heads ((x ∷ v) ∷ V) = x ∷ heads V

-- what follows the first entry, in each vector whose first entry is x
abbrev pub rests : ℤ → List (List ℤ) → List (List ℤ)
rests x [] = []
rests x ([] ∷ V) = rests x V
rests x ((y ∷ v) ∷ V) = if int_eq y x then v ∷ rests x V else rests x V

-- how many distinct values of xs are below x
abbrev pub lesser : ℤ → List ℤ → ℕ
lesser x xs = distinct_count int_eq (filter (λ y. int_lt y x) xs)

-- v numbered densely among V: each entry becomes the number of distinct lesser values at its place, among the vectors that agree
-- with v before it
abbrev pub dense_among : List (List ℤ) → List ℤ → List ℕ
dense_among V [] = []
dense_among V (x ∷ v) = lesser x (heads V) ∷ dense_among (rests x V) v

-- the dense numbering of V
abbrev pub dense_of : List (List ℤ) → List (List ℕ)
dense_of V = map (dense_among V) V
