-- Facts about one step of a trail.
use Rattle.std.proofs.Common.{◌≡◌, ℕ, zero, suc, ◌+◌, ◌-◌, ◌<◌, inl, inr, List, [], ◌∷◌, ◌++◌, length, take, refl, sym, ap, subst, arith}
use Rattle.beta_tree.specs.Laws.{Before}
use Rattle.beta_tree.specs.Vectors.{In}
use Rattle.beta_trails.specs.Trails.{zeros, entry, next, Rising}

pub next_here : (l x : ℕ) (v : List ℕ) → next 0 l (x ∷ v) ≡ (x + 1) ∷ zeros (l - 1)
next_here l x v = ap (λ n. (x + 1) ∷ zeros n) (let e : l - 0 - 1 ≡ l - 1 = omega arith in e)

pub next_later : (a l x : ℕ) (v : List ℕ) → next (suc a) l (x ∷ v) ≡ x ∷ next a (l - 1) v
next_later a l x v = ap (λ n. x ∷ (take a v ++ (entry v a + 1) ∷ zeros n)) (let e : l - suc a - 1 ≡ l - 1 - a - 1 = omega arith in e)

pub length_zeros : (n : ℕ) → length (zeros n) ≡ n
length_zeros zero = refl
length_zeros (suc n) = let e = length_zeros n in omega arith

pub zeros_next : (n : ℕ) → 0 < n → zeros n ≡ 0 ∷ zeros (n - 1)
zeros_next zero l = absurd (omega arith)
zeros_next (suc n) l = ap (λ k. 0 ∷ zeros k) (let e : n ≡ suc n - 1 = omega arith in e)

pub length_next : (a l : ℕ) (v : List ℕ) → a < length v → a < l → length (next a l v) ≡ l
length_next a l [] h g = absurd (omega arith)
length_next zero l (x ∷ v) h g = subst (λ z. length z ≡ l) (sym (next_here l x v)) (let e = length_zeros (l - 1) in let k : length ((x + 1) ∷ zeros (l - 1)) ≡ l = omega arith in k)
length_next (suc a) l (x ∷ v) h g = subst (λ z. length z ≡ l) (sym (next_later a l x v)) (let e = length_next a (l - 1) v (omega arith) (omega arith) in let k : length (x ∷ next a (l - 1) v) ≡ l = omega arith in k)

-- the lexicographic order

pub before_itself : (u : List ℕ) → Before u u → ⊥
before_itself [] b = b
before_itself (x ∷ u) (inl l) = omega arith
before_itself (x ∷ u) (inr (e, b)) = before_itself u b

pub before_trans : (u v w : List ℕ) → Before u v → Before v w → Before u w
before_trans [] v w b c = absurd b
before_trans (x ∷ u) [] w b c = absurd b
before_trans (x ∷ u) (y ∷ v) [] b c = absurd c
before_trans (x ∷ u) (y ∷ v) (z ∷ w) (inl l) (inl m) = inl (omega arith)
before_trans (x ∷ u) (y ∷ v) (z ∷ w) (inl l) (inr (e, c)) = inl (omega arith)
before_trans (x ∷ u) (y ∷ v) (z ∷ w) (inr (e, b)) (inl m) = inl (omega arith)
before_trans (x ∷ u) (y ∷ v) (z ∷ w) (inr (e, b)) (inr (f, c)) = inr (omega arith, before_trans u v w b c)

pub before_next : (a l : ℕ) (v : List ℕ) → a < length v → Before v (next a l v)
before_next a l [] h = absurd (omega arith)
before_next zero l (x ∷ v) h = subst (λ z. Before (x ∷ v) z) (sym (next_here l x v)) (inl (omega arith))
before_next (suc a) l (x ∷ v) h = subst (λ z. Before (x ∷ v) z) (sym (next_later a l x v)) (inr (refl, before_next a (l - 1) v (omega arith)))

-- what is after the first of a rising list
pub rising_after : (u m : List ℕ) (V : List (List ℕ)) → Rising u V → In m V → Before u m
rising_after u m [] r i = absurd i
rising_after u m (w ∷ V) (b, r) (inl e) = subst (λ z. Before u z) e b
rising_after u m (w ∷ V) (b, r) (inr i) = before_trans u w m b (rising_after w m V r i)
