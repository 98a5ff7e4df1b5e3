-- A tree's vectors in rising order are the trail of their agreements and lengths.
use Rattle.std.proofs.Common.{◌≡◌, ◌≢◌, ℕ, zero, suc, ◌+◌, ◌-◌, ◌<◌, ◌==◌, nat_lt, true, false, ◌⊎◌, inl, inr, List, [], ◌∷◌, ◌++◌, length, refl, sym, ◌∙◌, ap, subst, arith}
use Rattle.std.proofs.lemmas.Bool.{ltb-true, ltb-false}
use Rattle.beta_tree.specs.Laws.{Before}
use Rattle.beta_tree.specs.Vectors.{In}
use Rattle.beta_tree.proofs.Places.{bool_tells, same_yes, same_no}
use Rattle.beta_trails.specs.Trails.{zeros, next, trail, agreement, steps_from, Rising}
use Rattle.beta_trails.specs.Laws.{SortedTreeIsTrail, SortedTreeAgrees}
use Rattle.beta_trails.proofs.Steps.{next_here, next_later, before_itself, before_trans, rising_after}

-- for each entry of v and each lesser number, M has a vector with that number there that is the same before
abbrev pub DenseIn : (List ℕ → Type 0) → List ℕ → Type 0
DenseIn M v = (R : List ℕ) (x y : ℕ) (w : List ℕ) → v ≡ R ++ x ∷ w → y < x → (t : List ℕ) × M (R ++ y ∷ t)

dense_rest : (M : List ℕ → Type 0) (z : ℕ) (v : List ℕ) → DenseIn M (z ∷ v) → DenseIn (λ m. M (z ∷ m)) v
dense_rest M z v d R x y w e l = d (z ∷ R) x y w (ap (λ t. z ∷ t) e) l

-- a vector before which M has none is zeros
first_is_zeros : (M : List ℕ → Type 0) (v : List ℕ) → DenseIn M v → ((m : List ℕ) → M m → Before m v → ⊥) → v ≡ zeros (length v)
first_is_zeros M [] d n = refl
first_is_zeros M (zero ∷ v) d n = ap (λ t. 0 ∷ t) (first_is_zeros (λ m. M (0 ∷ m)) v (dense_rest M 0 v d) (λ m i b. n (0 ∷ m) i (inr (refl, b))))
first_is_zeros M (suc z ∷ v) d n = let (t, i) = d [] (suc z) 0 v refl (omega arith) in absurd (n (0 ∷ t) i (inl (omega arith)))

-- a vector after u, where M has none between
follows : (M : List ℕ → Type 0) (u v : List ℕ) → Before u v → DenseIn M v → ((m : List ℕ) → M m → Before u m → Before m v → ⊥) → v ≡ next (agreement u v) (length v) u
follows M [] v b d n = absurd b
follows M (x ∷ u) [] b d n = absurd b
follows M (x ∷ u) (y ∷ v) (inl l) d n =
    let ne : (x == y) ≡ false = same_no x y (let k : x ≢ y = λ e. omega arith in k) in
    let is : x + 1 ≡ y = elim (bool_tells (nat_lt (x + 1) y)) [
      | inl s ↦ let (t, i) = d [] y (x + 1) v refl (ltb-true (x + 1) y s) in absurd (n ((x + 1) ∷ t) i (inl (omega arith)) (inl (ltb-true (x + 1) y s)))
      | inr f ↦ let h = ltb-false (x + 1) y f in omega arith
    ] in
    let z : v ≡ zeros (length v) = first_is_zeros (λ m. M (y ∷ m)) v (dense_rest M y v d) (λ m i b. n (y ∷ m) i (inl l) (inr (refl, b))) in
    let k : length v ≡ length (y ∷ v) - 1 = omega arith in
    rw ne (ap (λ t. y ∷ t) (z ∙ ap zeros k) ∙ (ap (λ p. p ∷ zeros (length (y ∷ v) - 1)) (sym is) ∙ sym (next_here (length (y ∷ v)) x u)))
follows M (x ∷ u) (y ∷ v) (inr (e, b)) d n =
    let t : (x == y) ≡ true = subst (λ z. (x == z) ≡ true) e (same_yes x) in
    let more : v ≡ next (agreement u v) (length v) u = follows (λ m. M (y ∷ m)) u v b (dense_rest M y v d) (λ m i c g. n (y ∷ m) i (inr (e, c)) (inr (refl, g))) in
    let s : agreement u v + 1 ≡ suc (agreement u v) = omega arith in
    let k : length v ≡ length (y ∷ v) - 1 = omega arith in
    rw t (ap (λ p. p ∷ v) (sym e) ∙ (ap (λ p. x ∷ p) (more ∙ ap (λ m. next (agreement u v) m u) k) ∙ (sym (next_later (agreement u v) (length (y ∷ v)) x u) ∙ ap (λ n. next n (length (y ∷ v)) (x ∷ u)) (sym s))))

trail_from : (M : List ℕ → Type 0) (v : List ℕ) (V : List (List ℕ)) → ((w : List ℕ) → In w V → DenseIn M w) → ((m : List ℕ) → M m → (Before m v ⊎ (m ≡ v)) ⊎ In m V) → Rising v V → v ∷ V ≡ trail v (steps_from v V)
trail_from M v [] d a r = refl
trail_from M v (w ∷ V) d a (b, r) =
    let is : w ≡ next (agreement v w) (length w) v = follows M v w b (d w (inl refl)) (λ m i c g. elim (a m i) [
      | inl (inl h) ↦ before_itself m (before_trans m v m h c)
      | inl (inr h) ↦ before_itself m (subst (λ z. Before z m) (sym h) c)
      | inr (inl h) ↦ before_itself m (subst (λ z. Before m z) h g)
      | inr (inr h) ↦ before_itself m (before_trans m w m g (rising_after w m V r h))
    ]) in
    let more : w ∷ V ≡ trail w (steps_from w V) = trail_from M w V (λ u i. d u (inr i)) (λ m i. elim (a m i) [
      | inl (inl h) ↦ inl (inl (before_trans m v w h b))
      | inl (inr h) ↦ inl (inl (subst (λ z. Before z w) (sym h) b))
      | inr (inl h) ↦ inl (inr (sym h))
      | inr (inr h) ↦ inr h
    ]) r in
    ap (λ t. v ∷ t) (more ∙ ap (λ z. trail z (steps_from w V)) is)

pub sorted_tree_is_trail : SortedTreeIsTrail
sorted_tree_is_trail v V t r =
    let M : List ℕ → Type 0 = λ m. In m (v ∷ V) in
    let d : (w : List ℕ) → In w (v ∷ V) → DenseIn M w = λ w i R x y s e l. t.dense R x y s (subst (λ z. In z (v ∷ V)) e i) l in
    let z : v ≡ zeros (length v) = first_is_zeros M v (d v (inl refl)) (λ m i b. elim i [
      | inl e ↦ before_itself m (subst (λ z. Before m z) e b)
      | inr h ↦ before_itself m (before_trans m v m b (rising_after v m V r h))
    ]) in
    trail_from M v V (λ w i. d w (inr i)) (λ m i. elim i [ inl e ↦ inl (inr (sym e)) | inr h ↦ inr h ]) r
    ∙ ap (λ z. trail z (steps_from v V)) z

agreement_below : (u v : List ℕ) → Before u v → (agreement u v < length u) × (agreement u v < length v)
agreement_below [] v b = absurd b
agreement_below (x ∷ u) [] b = absurd b
agreement_below (x ∷ u) (y ∷ v) (inl l) =
    let ne : (x == y) ≡ false = same_no x y (let k : x ≢ y = λ e. omega arith in k) in
    rw ne (omega arith, omega arith)
agreement_below (x ∷ u) (y ∷ v) (inr (e, b)) =
    let t : (x == y) ≡ true = subst (λ z. (x == z) ≡ true) e (same_yes x) in
    let (h, g) = agreement_below u v b in
    rw t (omega arith, omega arith)

pub sorted_tree_agrees : SortedTreeAgrees
sorted_tree_agrees v [] r = tt
sorted_tree_agrees v (w ∷ V) (b, r) = let (h, g) = agreement_below v w b in (h, g, sorted_tree_agrees w V r)
