-- A trail with agreements below both lengths is a tree.
use Rattle.std.proofs.Common.{◌≡◌, ◌≢◌, ℕ, zero, suc, ◌+◌, ◌-◌, ◌<◌, ◌==◌, ◌⊎◌, inl, inr, List, [], ◌∷◌, ◌++◌, length, refl, sym, ◌∙◌, ap, subst, arith}
use Rattle.std.proofs.lemmas.Bool.{eqb-true, eqb-false}
use Rattle.beta_tree.specs.Laws.{Before}
use Rattle.beta_tree.specs.Vectors.{In, Apart, ApartFromAll, PrefixFree, NoneEmpty, IsDense}
use Rattle.beta_tree.proofs.Places.{bool_tells}
use Rattle.beta_trails.specs.Trails.{Step, zeros, next, trail, Agreeing, Rising}
use Rattle.beta_trails.specs.Laws.{TrailIsTree}
use Rattle.beta_trails.proofs.Steps.{next_here, next_later, length_zeros, length_next, before_next, rising_after}
use Rattle.beta_trails.proofs.Sorted.{DenseIn}

pub length_trail : (v : List ℕ) (steps : List Step) → length (trail v steps) ≡ length steps + 1
length_trail v [] = refl
length_trail v ((a, l) ∷ more) = let e = length_trail (next a l v) more in omega arith

-- a trail rises
after_first : (u v : List ℕ) (steps : List Step) → Agreeing (length v) steps → Before u v → Rising u (trail v steps)
after_first u v [] g b = (b, tt)
after_first u v ((a, l) ∷ more) (h, k, g) b =
    (b, after_first v (next a l v) more (subst (λ m. Agreeing m more) (sym (length_next a l v h k)) g) (before_next a l v h))

pub trail_after : (v : List ℕ) (steps : List Step) (m : List ℕ) → Agreeing (length v) steps → In m (trail v steps) → (v ≡ m) ⊎ Before v m
trail_after v [] m g (inl e) = inl e
trail_after v [] m g (inr i) = absurd i
trail_after v ((a, l) ∷ more) m g (inl e) = inl e
trail_after v ((a, l) ∷ more) m (h, k, g) (inr i) =
    inr (rising_after v m (trail (next a l v) more) (after_first v (next a l v) more (subst (λ n. Agreeing n more) (sym (length_next a l v h k)) g) (before_next a l v h)) i)

before_apart : (u v : List ℕ) → Before u v → Apart u v
before_apart [] v b = b
before_apart (x ∷ u) [] b = b
before_apart (x ∷ u) (y ∷ v) (inl l) = inl (λ e. omega arith)
before_apart (x ∷ u) (y ∷ v) (inr (e, b)) = inr (before_apart u v b)

rising_apart : (u : List ℕ) (V : List (List ℕ)) → ((m : List ℕ) → In m V → Before u m) → ApartFromAll u V
rising_apart u [] h = tt
rising_apart u (w ∷ V) h = (before_apart u w (h w (inl refl)), rising_apart u V (λ m i. h m (inr i)))

trail_free : (v : List ℕ) (steps : List Step) → Agreeing (length v) steps → PrefixFree (trail v steps)
trail_free v [] g = (tt, tt)
trail_free v ((a, l) ∷ more) (h, k, g) =
    let good : Agreeing (length (next a l v)) more = subst (λ n. Agreeing n more) (sym (length_next a l v h k)) g in (
      rising_apart v (trail (next a l v) more) (λ m i. rising_after v m (trail (next a l v) more) (after_first v (next a l v) more good (before_next a l v h)) i),
      trail_free (next a l v) more good,
    )

-- no vector of a trail is empty
trail_filled : (v : List ℕ) (steps : List Step) → 0 < length v → Agreeing (length v) steps → NoneEmpty (trail v steps)
trail_filled [] [] l g (inl e) = absurd (omega arith)
trail_filled (x ∷ v) [] l g (inl e) = absurd (cc)
trail_filled v [] l g (inr i) = i
trail_filled [] ((a, k) ∷ more) l g (inl e) = absurd (omega arith)
trail_filled (x ∷ v) ((a, k) ∷ more) l g (inl e) = absurd (cc)
trail_filled v ((a, k) ∷ more) l (h, m, g) (inr i) =
    let s : length (next a k v) ≡ k = length_next a k v h m in
    trail_filled (next a k v) more (omega arith) (subst (λ n. Agreeing n more) (sym s) g) i

-- the vectors of a trail are dense

zeros_are : (n : ℕ) (R : List ℕ) (x : ℕ) (w : List ℕ) → zeros n ≡ R ++ x ∷ w → x ≡ 0
zeros_are zero [] x w e = absurd (cc)
zeros_are zero (r ∷ R) x w e = absurd (cc)
zeros_are (suc n) [] x w e = cc
zeros_are (suc n) (r ∷ R) x w e = zeros_are n R x w (cc)

next_dense : (M : List ℕ → Type 0) (a l : ℕ) (v : List ℕ) → a < length v → M v → DenseIn M v → DenseIn M (next a l v)
next_dense M a l [] h i d R x y w e k = absurd (omega arith)
next_dense M zero l (z ∷ v) h i d [] x y w e k =
    let s : (z + 1) ∷ zeros (l - 1) ≡ x ∷ w = sym (next_here l z v) ∙ e in
    let is : z + 1 ≡ x = cc in
    elim (bool_tells (y == z)) [
      | inl t ↦ (v, subst (λ n. M (n ∷ v)) (sym (eqb-true y z t)) i)
      | inr f ↦ let ne : y ≢ z = eqb-false y z f in d [] z y v refl (omega arith)
    ]
next_dense M zero l (z ∷ v) h i d (r ∷ R) x y w e k =
    let s : (z + 1) ∷ zeros (l - 1) ≡ r ∷ (R ++ x ∷ w) = sym (next_here l z v) ∙ e in
    let more : zeros (l - 1) ≡ R ++ x ∷ w = cc in
    let none = zeros_are (l - 1) R x w more in
    absurd (omega arith)
next_dense M (suc a) l (z ∷ v) h i d [] x y w e k =
    let s : z ∷ next a (l - 1) v ≡ x ∷ w = sym (next_later a l z v) ∙ e in
    let is : z ≡ x = cc in
    d [] z y v refl (omega arith)
next_dense M (suc a) l (z ∷ v) h i d (r ∷ R) x y w e k =
    let s : z ∷ next a (l - 1) v ≡ r ∷ (R ++ x ∷ w) = sym (next_later a l z v) ∙ e in
    let is : z ≡ r = cc in
    let more : next a (l - 1) v ≡ R ++ x ∷ w = cc in
    let (t, j) = next_dense (λ m. M (z ∷ m)) a (l - 1) v (omega arith) i (λ S p q u g m. d (z ∷ S) p q u (ap (λ o. z ∷ o) g) m) R x y w more k in
    (t, subst (λ n. M (n ∷ (R ++ y ∷ t))) is j)

dense_from : (M : List ℕ → Type 0) (v : List ℕ) (steps : List Step) → Agreeing (length v) steps → DenseIn M v → ((m : List ℕ) → In m (trail v steps) → M m) → (m : List ℕ) → In m (trail v steps) → DenseIn M m
dense_from M v [] g d a m (inl e) = subst (DenseIn M) e d
dense_from M v [] g d a m (inr i) = absurd i
dense_from M v ((p, l) ∷ more) g d a m (inl e) = subst (DenseIn M) e d
dense_from M v ((p, l) ∷ more) (h, k, g) d a m (inr i) =
    dense_from M (next p l v) more (subst (λ n. Agreeing n more) (sym (length_next p l v h k)) g)
    (next_dense M p l v h (a v (inl refl)) d) (λ o j. a o (inr j)) m i

pub trail_dense : (m : ℕ) (steps : List Step) → Agreeing m steps → IsDense (trail (zeros m) steps)
trail_dense m steps g R x y w i l =
    dense_from (λ o. In o (trail (zeros m) steps)) (zeros m) steps (subst (λ n. Agreeing n steps) (sym (length_zeros m)) g)
    (λ S p q u e k. let none = zeros_are m S p u e in absurd (omega arith)) (λ o j. j) (R ++ x ∷ w) i R x y w refl l

pub trail_is_tree : TrailIsTree
trail_is_tree m steps some few g =
    let good : Agreeing (length (zeros m)) steps = subst (λ n. Agreeing n steps) (sym (length_zeros m)) g in
    record {
      few = let e = length_trail (zeros m) steps in omega arith;
      filled = trail_filled (zeros m) steps (let e = length_zeros m in omega arith) good;
      free = trail_free (zeros m) steps good;
      dense = trail_dense m steps g;
    }
