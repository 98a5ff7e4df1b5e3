-- Fission keeps the siblings of a loop dense and free of prefixes.
use Rattle.std.proofs.Common.{◌≡◌, ◌≢◌, ℕ, ◌+◌, ◌-◌, ◌<◌, ◌≤◌, ◌==◌, nat_lt, inl, inr, List, [], ◌∷◌, ◌++◌, map, sym, ◌∙◌, ap, subst, arith}
use Rattle.std.proofs.lemmas.Bool.{eqb-true, eqb-false, ltb-true, ltb-false}
use Rattle.beta_tree.specs.Vectors.{In, Apart, IsDense}
use Rattle.beta_tree.specs.Edits.{split_loop, join_loops}
use Rattle.beta_tree.proofs.Places.{bool_tells, In-map, from_In-map}
use Rattle.beta_tree.proofs.Loops.{split_earlier, split_later, split_before, split_from, split_leaf_stays, join_earlier, join_later, join_next, join_split, split_kinds, from_split, apart_join}

pub fission_apart : (p c : ℕ) (u v : List ℕ) → Apart u v → Apart (split_loop p c u) (split_loop p c v)
fission_apart p c u v a =
    apart_join p c (split_loop p c u) (split_loop p c v)
    (subst (λ z. Apart (join_loops p c (split_loop p c u)) z) (sym (join_split p c v)) (subst (λ z. Apart z v) (sym (join_split p c u)) a))

-- the child of p in the split tree is before c
pub split_child_low : (p c z : ℕ) (w v : List ℕ) → split_loop p c v ≡ p ∷ (z ∷ w) → z < c
split_child_low p c z w v e =
    split_kinds p c (λ t. split_loop p c t ≡ p ∷ (z ∷ w) → z < c)
    (λ h. absurd (cc))
    (λ x u l h. let g : x ∷ u ≡ p ∷ (z ∷ w) = sym (split_earlier p c x u l) ∙ h in let k : x ≡ p = cc in absurd (omega arith))
    (λ x u l h. let g : (x + 1) ∷ u ≡ p ∷ (z ∷ w) = sym (split_later p c x u l) ∙ h in let k : x + 1 ≡ p = cc in absurd (omega arith))
    (λ h. let g : p ∷ [] ≡ p ∷ (z ∷ w) = sym (split_leaf_stays p c) ∙ h in absurd (cc))
    (λ y u l h. let g : p ∷ (y ∷ u) ≡ p ∷ (z ∷ w) = sym (split_before p c y u l) ∙ h in let k : y ≡ z = cc in omega arith)
    (λ y u l h. let g : (p + 1) ∷ ((y - c) ∷ u) ≡ p ∷ (z ∷ w) = sym (split_from p c y u l) ∙ h in let k : p + 1 ≡ p = cc in absurd (omega arith))
    v e

in_split : (p c : ℕ) (W : List (List ℕ)) (v u : List ℕ) → In v W → split_loop p c v ≡ u → In u (map (split_loop p c) W)
in_split p c W v u i e = subst (λ z. In z (map (split_loop p c) W)) e (In-map (split_loop p c) v W i)

-- among the siblings of p, which isn't a leaf and has a child of number c, from 1 on
pub record SplitsAt (p c : ℕ) (W : List (List ℕ)) : Type 0 where
  pub leafless : In (p ∷ []) W → ⊥
  pub first : 0 < c
  pub child : (w : List ℕ) × In (p ∷ (c ∷ w)) W

module _ (p c : ℕ) (W : List (List ℕ)) (s : SplitsAt p c W) (d : IsDense W) where
  -- each number up to p + 1 is a sibling after the fission
  low_sibling : (y : ℕ) → y ≤ p + 1 → (u : List ℕ) × In (y ∷ u) (map (split_loop p c) W)
  low_sibling y l =
      elim (bool_tells (nat_lt y p)) [
        | inl t ↦
            let (u, i) = d [] p y (c ∷ s.child.0) s.child.1 (ltb-true y p t) in
            (u, in_split p c W (y ∷ u) (y ∷ u) i (split_earlier p c y u (ltb-true y p t)))
        | inr f ↦ elim (bool_tells (y == p)) [
          | inl t ↦
              let (u, i) = d (p ∷ []) c 0 s.child.0 s.child.1 s.first in
              (0 ∷ u, in_split p c W (p ∷ (0 ∷ u)) (y ∷ (0 ∷ u)) i (split_before p c 0 u s.first ∙ ap (λ n. n ∷ (0 ∷ u)) (sym (eqb-true y p t))))
          | inr g ↦
              let low : p ≤ y = ltb-false y p f in
              let ne : y ≢ p = eqb-false y p g in
              let is : p + 1 ≡ y = omega arith in
              ((c - c) ∷ s.child.0, in_split p c W (p ∷ (c ∷ s.child.0)) (y ∷ ((c - c) ∷ s.child.0)) s.child.1 (split_from p c c s.child.0 (omega arith) ∙ ap (λ n. n ∷ ((c - c) ∷ s.child.0)) is))
        ]
      ]

  split_siblings : (x y : ℕ) (w : List ℕ) → In (x ∷ w) (map (split_loop p c) W) → y < x → (u : List ℕ) × In (y ∷ u) (map (split_loop p c) W)
  split_siblings x y w h l =
      elim (bool_tells (nat_lt (p + 1) y)) [
        | inr f ↦ low_sibling y (ltb-false (p + 1) y f)
        | inl t ↦
            let high : p + 1 < y = ltb-true (p + 1) y t in
            let old : In ((x - 1) ∷ w) W = subst (λ z. In z W) (join_later p c x w (omega arith)) (from_split p c W (x ∷ w) h) in
            let less : y - 1 < x - 1 = omega arith in
            let (u, i) = d [] (x - 1) (y - 1) w old less in
            (u, in_split p c W ((y - 1) ∷ u) (y ∷ u) i (split_later p c (y - 1) u (omega arith) ∙ ap (λ n. n ∷ u) (omega arith)))
      ]

  -- below p: the children before c
  split_below_same : (R : List ℕ) (x y : ℕ) (w : List ℕ) → In (p ∷ (R ++ x ∷ w)) (map (split_loop p c) W) → y < x → (u : List ℕ) × In (p ∷ (R ++ y ∷ u)) (map (split_loop p c) W)
  split_below_same [] x y w h l =
      let (v, i, e) = from_In-map (split_loop p c) (p ∷ (x ∷ w)) W h in
      let low : x < c = split_child_low p c x w v e in
      let old : In (p ∷ (x ∷ w)) W = subst (λ z. In z W) (join_earlier p c p (x ∷ w) (omega arith)) (from_split p c W (p ∷ (x ∷ w)) h) in
      let (u, k) = d (p ∷ []) x y w old l in
      (u, in_split p c W (p ∷ (y ∷ u)) (p ∷ (y ∷ u)) k (split_before p c y u (omega arith)))
  split_below_same (r ∷ R) x y w h l =
      let (v, i, e) = from_In-map (split_loop p c) (p ∷ (r ∷ (R ++ x ∷ w))) W h in
      let low : r < c = split_child_low p c r (R ++ x ∷ w) v e in
      let old : In (p ∷ (r ∷ (R ++ x ∷ w))) W = subst (λ z. In z W) (join_earlier p c p (r ∷ (R ++ x ∷ w)) (omega arith)) (from_split p c W (p ∷ (r ∷ (R ++ x ∷ w))) h) in
      let (u, k) = d (p ∷ (r ∷ R)) x y w old l in
      (u, in_split p c W (p ∷ (r ∷ (R ++ y ∷ u))) (p ∷ (r ∷ (R ++ y ∷ u))) k (split_before p c r (R ++ y ∷ u) low))

  -- below the new loop: the children from c on
  split_below_new : (R : List ℕ) (x y : ℕ) (w : List ℕ) → In ((p + 1) ∷ (R ++ x ∷ w)) (map (split_loop p c) W) → y < x → (u : List ℕ) × In ((p + 1) ∷ (R ++ y ∷ u)) (map (split_loop p c) W)
  split_below_new [] x y w h l =
      let old : In (p ∷ ((x + c) ∷ w)) W = subst (λ z. In z W) (join_next p c x w) (from_split p c W ((p + 1) ∷ (x ∷ w)) h) in
      let less : y + c < x + c = omega arith in
      let (u, k) = d (p ∷ []) (x + c) (y + c) w old less in
      (u, in_split p c W (p ∷ ((y + c) ∷ u)) ((p + 1) ∷ (y ∷ u)) k (split_from p c (y + c) u (omega arith) ∙ ap (λ n. (p + 1) ∷ (n ∷ u)) (omega arith)))
  split_below_new (r ∷ R) x y w h l =
      let old : In (p ∷ ((r + c) ∷ (R ++ x ∷ w))) W = subst (λ z. In z W) (join_next p c r (R ++ x ∷ w)) (from_split p c W ((p + 1) ∷ (r ∷ (R ++ x ∷ w))) h) in
      let (u, k) = d (p ∷ ((r + c) ∷ R)) x y w old l in
      (u, in_split p c W (p ∷ ((r + c) ∷ (R ++ y ∷ u))) ((p + 1) ∷ (r ∷ (R ++ y ∷ u))) k (split_from p c (r + c) (R ++ y ∷ u) (omega arith) ∙ ap (λ n. (p + 1) ∷ (n ∷ (R ++ y ∷ u))) (omega arith)))

  split_below : (r : ℕ) (R : List ℕ) (x y : ℕ) (w : List ℕ) → In (r ∷ (R ++ x ∷ w)) (map (split_loop p c) W) → y < x → (u : List ℕ) × In (r ∷ (R ++ y ∷ u)) (map (split_loop p c) W)
  split_below r R x y w h l =
      elim (bool_tells (nat_lt r p)) [
        | inl t ↦
            let less : r < p = ltb-true r p t in
            let old : In (r ∷ (R ++ x ∷ w)) W = subst (λ z. In z W) (join_earlier p c r (R ++ x ∷ w) (omega arith)) (from_split p c W (r ∷ (R ++ x ∷ w)) h) in
            let (u, k) = d (r ∷ R) x y w old l in
            (u, in_split p c W (r ∷ (R ++ y ∷ u)) (r ∷ (R ++ y ∷ u)) k (split_earlier p c r (R ++ y ∷ u) less))
        | inr f ↦ elim (bool_tells (r == p)) [
          | inl t ↦
              let same : r ≡ p = eqb-true r p t in
              let (u, k) = split_below_same R x y w (subst (λ n. In (n ∷ (R ++ x ∷ w)) (map (split_loop p c) W)) same h) l in
              (u, subst (λ n. In (n ∷ (R ++ y ∷ u)) (map (split_loop p c) W)) (sym same) k)
          | inr g ↦ elim (bool_tells (r == p + 1)) [
            | inl t ↦
                let same : r ≡ p + 1 = eqb-true r (p + 1) t in
                let (u, k) = split_below_new R x y w (subst (λ n. In (n ∷ (R ++ x ∷ w)) (map (split_loop p c) W)) same h) l in
                (u, subst (λ n. In (n ∷ (R ++ y ∷ u)) (map (split_loop p c) W)) (sym same) k)
            | inr e ↦
                let low : p ≤ r = ltb-false r p f in
                let ne : r ≢ p = eqb-false r p g in
                let ne2 : r ≢ p + 1 = eqb-false r (p + 1) e in
                let old : In ((r - 1) ∷ (R ++ x ∷ w)) W = subst (λ z. In z W) (join_later p c r (R ++ x ∷ w) (omega arith)) (from_split p c W (r ∷ (R ++ x ∷ w)) h) in
                let (u, k) = d ((r - 1) ∷ R) x y w old l in
                (u, in_split p c W ((r - 1) ∷ (R ++ y ∷ u)) (r ∷ (R ++ y ∷ u)) k (split_later p c (r - 1) (R ++ y ∷ u) (omega arith) ∙ ap (λ n. n ∷ (R ++ y ∷ u)) (omega arith)))
          ]
        ]
      ]

  pub fission_dense : IsDense (map (split_loop p c) W)
  fission_dense [] x y w h l = split_siblings x y w h l
  fission_dense (r ∷ R) x y w h l = split_below r R x y w h l
