-- Dense vectors in lexicographic order are determined by their lengths and by how many first entries neighbours agree in.
use Rattle.std.specs.Prelude.{ℕ, zero, suc, ◌+◌, ◌-◌, ◌<◌, ◌==◌, if◌then◌else◌, List, [], ◌∷◌, ◌++◌, length, take}
use Rattle.std.proofs.Math.ListN.{get_or}
use Rattle.beta_tree.specs.Laws.{Before}

-- n zeros
abbrev pub zeros : ℕ → List ℕ
zeros zero = []
zeros (suc n) = 0 ∷ zeros n

-- the entry of v at place a; 0 past its end
abbrev pub entry : List ℕ → ℕ → ℕ
entry v a = get_or v a 0

-- the least dense vector of length l after v that agrees with it in its first a entries alone
abbrev pub next : ℕ → ℕ → List ℕ → List ℕ
next a l v = take a v ++ (entry v a + 1) ∷ zeros (l - a - 1)

-- how a vector follows its neighbour: in how many first entries they agree, and how long it is
abbrev pub Step : Type 0
Step = ℕ × ℕ

-- the vectors from v on, by their agreements with the one before, and their lengths
abbrev pub trail : List ℕ → List Step → List (List ℕ)
trail v [] = v ∷ []
trail v ((a, l) ∷ more) = v ∷ trail (next a l v) more

-- the last vector of a trail
abbrev pub trail_end : List ℕ → List Step → List ℕ
trail_end v [] = v
trail_end v ((a, l) ∷ more) = trail_end (next a l v) more

-- in how many first entries two vectors agree
abbrev pub agreement : List ℕ → List ℕ → ℕ
agreement [] v = 0
agreement (x ∷ u) [] = 0
agreement (x ∷ u) (y ∷ v) = if x == y then agreement u v + 1 else 0

-- the agreements of vectors with the one before, the first of them with v, and their lengths
abbrev pub steps_from : List ℕ → List (List ℕ) → List Step
steps_from v [] = []
steps_from v (w ∷ V) = (agreement v w, length w) ∷ steps_from w V

-- each agreement is below the lengths of both vectors, the first of which is m long
abbrev pub Agreeing : ℕ → List Step → Type 0
Agreeing m [] = Unit {0}
Agreeing m ((a, l) ∷ more) = (a < m) × (a < l) × Agreeing l more

-- each vector is before the next one, the first of them after v
abbrev pub Rising : List ℕ → List (List ℕ) → Type 0
Rising v [] = Unit {0}
Rising v (w ∷ V) = Before v w × Rising w V

-- vectors of these lengths, with r and its successors as their first entries and zeros behind
abbrev pub ranked : ℕ → List ℕ → List (List ℕ)
ranked r [] = []
ranked r (l ∷ lengths) = (r ∷ zeros (l - 1)) ∷ ranked (r + 1) lengths

-- each agreement is below n
abbrev pub AllBelow : ℕ → List Step → Type 0
AllBelow n [] = Unit {0}
AllBelow n ((a, l) ∷ more) = (a < n) × AllBelow n more
