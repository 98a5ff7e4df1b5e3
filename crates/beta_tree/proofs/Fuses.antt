-- Fuse keeps the siblings of a loop dense and free of prefixes.
use Rattle.std.proofs.Common.{◌≡◌, ◌≢◌, ℕ, ◌+◌, ◌-◌, ◌<◌, ◌≤◌, ◌==◌, nat_lt, true, false, if◌then◌else◌, ◌⊎◌, inl, inr, List, [], ◌∷◌, ◌++◌, map, refl, sym, ◌∙◌, ap, subst, arith}
use Rattle.std.proofs.lemmas.Bool.{eqb-true, eqb-false, ltb-true, ltb-false}
use Rattle.beta_tree.specs.Vectors.{In, Apart, IsDense}
use Rattle.beta_tree.specs.Edits.{split_loop, join_loops, split_children, moved_up}
use Rattle.beta_tree.proofs.Places.{bool_tells, same_yes, same_no, In-map, from_In-map}
use Rattle.beta_tree.proofs.Loops.{split_earlier, split_later, split_before, split_from, join_earlier, join_later, join_next, join_kinds, split_join, no_apart_nil, apart_tail}

-- among the siblings of p, which has the children below n; neither p nor the sibling after it, which there is, is a leaf
pub record JoinsAt (p n : ℕ) (W : List (List ℕ)) : Type 0 where
  pub leafless : In (p ∷ []) W → ⊥
  pub next_leafless : In ((p + 1) ∷ []) W → ⊥
  pub next : (w : List ℕ) × In ((p + 1) ∷ w) W
  pub below_n : (y : ℕ) (w : List ℕ) → In (p ∷ (y ∷ w)) W → y < n
  pub child : (y : ℕ) → y < n → (w : List ℕ) × In (p ∷ (y ∷ w)) W

-- vectors that differ after a fission, none of them the leaf p, differ before it

apart_split_children : (p n : ℕ) (u v : List ℕ) → (u ≢ []) → (v ≢ []) → Apart (split_children p n u) (split_children p n v) → Apart u v
apart_split_children p n [] v a b h = absurd (a refl)
apart_split_children p n (x ∷ u) [] a b h = absurd (b refl)
apart_split_children p n (x ∷ u) (y ∷ v) a b h =
    elim (nat_lt x n) as (λ s. nat_lt x n ≡ s → Apart (if s then p ∷ (x ∷ u) else (p + 1) ∷ ((x - n) ∷ u)) (if nat_lt y n then p ∷ (y ∷ v) else (p + 1) ∷ ((y - n) ∷ v)) → (x ≢ y) ⊎ Apart u v) [
      | true ↦ λ e. elim (nat_lt y n) as (λ t. nat_lt y n ≡ t → Apart (p ∷ (x ∷ u)) (if t then p ∷ (y ∷ v) else (p + 1) ∷ ((y - n) ∷ v)) → (x ≢ y) ⊎ Apart u v) [
        | true ↦ λ e2 k. apart_tail p p (x ∷ u) (y ∷ v) refl k
        | false ↦ λ e2 k. inl (λ same. let low = ltb-true x n e in let high = ltb-false y n e2 in omega arith)
      ] refl
      | false ↦ λ e. elim (nat_lt y n) as (λ t. nat_lt y n ≡ t → Apart ((p + 1) ∷ ((x - n) ∷ u)) (if t then p ∷ (y ∷ v) else (p + 1) ∷ ((y - n) ∷ v)) → (x ≢ y) ⊎ Apart u v) [
        | true ↦ λ e2 k. inl (λ same. let high = ltb-false x n e in let low = ltb-true y n e2 in omega arith)
        | false ↦ λ e2 k. elim (apart_tail (p + 1) (p + 1) ((x - n) ∷ u) ((y - n) ∷ v) refl k) [
          | inl ne ↦ inl (λ same. ne (ap (λ m. m - n) same))
          | inr more ↦ inr more
        ]
      ] refl
    ] refl h

apart_split : (p n : ℕ) (u v : List ℕ) → (u ≢ p ∷ []) → (v ≢ p ∷ []) → Apart (split_loop p n u) (split_loop p n v) → Apart u v
apart_split p n [] v a b h = absurd h
apart_split p n (x ∷ u) [] a b h = absurd (no_apart_nil (split_loop p n (x ∷ u)) h)
apart_split p n (x ∷ u) (y ∷ v) a b h =
    elim (bool_tells (x == y)) [
      | inr f ↦ inl (eqb-false x y f)
      | inl t ↦
          let same : x ≡ y = eqb-true x y t in
          elim (bool_tells (y == p)) [
            | inl e ↦
                let is : y ≡ p = eqb-true y p e in
                let both : x ≡ p = same ∙ is in
                inr (apart_split_children p n u v
                (λ nil. a (cc)) (λ nil. b (cc))
                (rw (same_yes p) at (subst (λ k. Apart (split_loop p n (p ∷ u)) (split_loop p n (k ∷ v))) is (subst (λ k. Apart (split_loop p n (k ∷ u)) (split_loop p n (y ∷ v))) both h))))
            | inr g ↦
                let ne : y ≢ p = eqb-false y p g in
                let ne2 : x ≢ p = λ k. ne (sym same ∙ k) in
                inr (apart_tail (moved_up p x) (moved_up p y) u v (ap (moved_up p) same) (rw (same_no x p ne2, same_no y p ne) at h))
          ]
    ]

-- no vector becomes the leaf p
join_leafless : (p n : ℕ) (v : List ℕ) → (v ≢ p ∷ []) → (v ≢ (p + 1) ∷ []) → join_loops p n v ≢ p ∷ []
join_leafless p n =
    join_kinds p (λ v. (v ≢ p ∷ []) → (v ≢ (p + 1) ∷ []) → join_loops p n v ≢ p ∷ [])
    (λ a b e. cc)
    (λ x w l a b e. a (sym (join_earlier p n x w l) ∙ e))
    (λ x w l a b e. let g : (x - 1) ∷ w ≡ p ∷ [] = sym (join_later p n x w l) ∙ e in let k : x - 1 ≡ p = cc in omega arith)
    (λ a b e. b refl)
    (λ y w a b e. let g : p ∷ ((y + n) ∷ w) ≡ p ∷ [] = sym (join_next p n y w) ∙ e in cc)

in_join : (p n : ℕ) (W : List (List ℕ)) (v u : List ℕ) → In v W → join_loops p n v ≡ u → In u (map (join_loops p n) W)
in_join p n W v u i e = subst (λ z. In z (map (join_loops p n) W)) e (In-map (join_loops p n) v W i)

module _ (p n : ℕ) (W : List (List ℕ)) (s : JoinsAt p n W) where
  undone : (v : List ℕ) → In v W → split_loop p n (join_loops p n v) ≡ v
  undone v i = split_join p n v (λ e. s.leafless (subst (λ z. In z W) e i)) (λ e. s.next_leafless (subst (λ z. In z W) e i)) (λ y w e. s.below_n y w (subst (λ z. In z W) e i))

  not_leaf : (v : List ℕ) → In v W → join_loops p n v ≢ p ∷ []
  not_leaf v i = join_leafless p n v (λ e. s.leafless (subst (λ z. In z W) e i)) (λ e. s.next_leafless (subst (λ z. In z W) e i))

  pub fuse_apart : (u v : List ℕ) → In u W → In v W → Apart u v → Apart (join_loops p n u) (join_loops p n v)
  fuse_apart u v i j a =
      apart_split p n (join_loops p n u) (join_loops p n v) (not_leaf u i) (not_leaf v j)
      (subst (λ z. Apart (split_loop p n (join_loops p n u)) z) (sym (undone v j)) (subst (λ z. Apart z v) (sym (undone u i)) a))

  -- a member of the joined tree comes from a member of the old one
  from_join : (u : List ℕ) → In u (map (join_loops p n) W) → In (split_loop p n u) W
  from_join u h =
      let (v, i, e) = from_In-map (join_loops p n) u W h in
      subst (λ z. In z W) (sym (undone v i) ∙ ap (split_loop p n) e) i

  module _ (d : IsDense W) where
    -- each number up to p is a sibling
    low_sibling : (y : ℕ) → y ≤ p → (u : List ℕ) × In (y ∷ u) (map (join_loops p n) W)
    low_sibling y l =
        let less : y < p + 1 = omega arith in
        let (u, i) = d [] (p + 1) y s.next.0 s.next.1 less in
        (u, in_join p n W (y ∷ u) (y ∷ u) i (join_earlier p n y u l))

    join_siblings : (x y : ℕ) (w : List ℕ) → In (x ∷ w) (map (join_loops p n) W) → y < x → (u : List ℕ) × In (y ∷ u) (map (join_loops p n) W)
    join_siblings x y w h l =
        elim (bool_tells (nat_lt p y)) [
          | inr f ↦ low_sibling y (ltb-false p y f)
          | inl t ↦
              let high : p < y = ltb-true p y t in
              let old : In ((x + 1) ∷ w) W = subst (λ z. In z W) (split_later p n x w (omega arith)) (from_join (x ∷ w) h) in
              let less : y + 1 < x + 1 = omega arith in
              let (u, i) = d [] (x + 1) (y + 1) w old less in
              (u, in_join p n W ((y + 1) ∷ u) (y ∷ u) i (join_later p n (y + 1) u (omega arith) ∙ ap (λ k. k ∷ u) (omega arith)))
        ]

    -- below p: its own children, and then those of the sibling after it
    join_below_same : (R : List ℕ) (x y : ℕ) (w : List ℕ) → In (p ∷ (R ++ x ∷ w)) (map (join_loops p n) W) → y < x → (u : List ℕ) × In (p ∷ (R ++ y ∷ u)) (map (join_loops p n) W)
    join_below_same [] x y w h l =
        elim (bool_tells (nat_lt y n)) [
          | inl t ↦
              let (u, i) = s.child y (ltb-true y n t) in
              (u, in_join p n W (p ∷ (y ∷ u)) (p ∷ (y ∷ u)) i (join_earlier p n p (y ∷ u) (omega arith)))
          | inr f ↦
              let high : n ≤ y = ltb-false y n f in
              let old : In ((p + 1) ∷ ((x - n) ∷ w)) W = subst (λ z. In z W) (split_from p n x w (omega arith)) (from_join (p ∷ (x ∷ w)) h) in
              let less : y - n < x - n = omega arith in
              let (u, i) = d ((p + 1) ∷ []) (x - n) (y - n) w old less in
              (u, in_join p n W ((p + 1) ∷ ((y - n) ∷ u)) (p ∷ (y ∷ u)) i (join_next p n (y - n) u ∙ ap (λ k. p ∷ (k ∷ u)) (omega arith)))
        ]
    join_below_same (r ∷ R) x y w h l =
        elim (bool_tells (nat_lt r n)) [
          | inl t ↦
              let old : In (p ∷ (r ∷ (R ++ x ∷ w))) W = subst (λ z. In z W) (split_before p n r (R ++ x ∷ w) (ltb-true r n t)) (from_join (p ∷ (r ∷ (R ++ x ∷ w))) h) in
              let (u, i) = d (p ∷ (r ∷ R)) x y w old l in
              (u, in_join p n W (p ∷ (r ∷ (R ++ y ∷ u))) (p ∷ (r ∷ (R ++ y ∷ u))) i (join_earlier p n p (r ∷ (R ++ y ∷ u)) (omega arith)))
          | inr f ↦
              let high : n ≤ r = ltb-false r n f in
              let old : In ((p + 1) ∷ ((r - n) ∷ (R ++ x ∷ w))) W = subst (λ z. In z W) (split_from p n r (R ++ x ∷ w) high) (from_join (p ∷ (r ∷ (R ++ x ∷ w))) h) in
              let (u, i) = d ((p + 1) ∷ ((r - n) ∷ R)) x y w old l in
              (u, in_join p n W ((p + 1) ∷ ((r - n) ∷ (R ++ y ∷ u))) (p ∷ (r ∷ (R ++ y ∷ u))) i (join_next p n (r - n) (R ++ y ∷ u) ∙ ap (λ k. p ∷ (k ∷ (R ++ y ∷ u))) (omega arith)))
        ]

    join_below : (r : ℕ) (R : List ℕ) (x y : ℕ) (w : List ℕ) → In (r ∷ (R ++ x ∷ w)) (map (join_loops p n) W) → y < x → (u : List ℕ) × In (r ∷ (R ++ y ∷ u)) (map (join_loops p n) W)
    join_below r R x y w h l =
        elim (bool_tells (nat_lt r p)) [
          | inl t ↦
              let old : In (r ∷ (R ++ x ∷ w)) W = subst (λ z. In z W) (split_earlier p n r (R ++ x ∷ w) (ltb-true r p t)) (from_join (r ∷ (R ++ x ∷ w)) h) in
              let (u, k) = d (r ∷ R) x y w old l in
              let less : r < p = ltb-true r p t in
              (u, in_join p n W (r ∷ (R ++ y ∷ u)) (r ∷ (R ++ y ∷ u)) k (join_earlier p n r (R ++ y ∷ u) (omega arith)))
          | inr f ↦ elim (bool_tells (r == p)) [
            | inl t ↦
                let same : r ≡ p = eqb-true r p t in
                let (u, k) = join_below_same R x y w (subst (λ m. In (m ∷ (R ++ x ∷ w)) (map (join_loops p n) W)) same h) l in
                (u, subst (λ m. In (m ∷ (R ++ y ∷ u)) (map (join_loops p n) W)) (sym same) k)
            | inr g ↦
                let low : p ≤ r = ltb-false r p f in
                let ne : r ≢ p = eqb-false r p g in
                let old : In ((r + 1) ∷ (R ++ x ∷ w)) W = subst (λ z. In z W) (split_later p n r (R ++ x ∷ w) (omega arith)) (from_join (r ∷ (R ++ x ∷ w)) h) in
                let (u, k) = d ((r + 1) ∷ R) x y w old l in
                (u, in_join p n W ((r + 1) ∷ (R ++ y ∷ u)) (r ∷ (R ++ y ∷ u)) k (join_later p n (r + 1) (R ++ y ∷ u) (omega arith) ∙ ap (λ m. m ∷ (R ++ y ∷ u)) (omega arith)))
          ]
        ]

    pub fuse_dense : IsDense (map (join_loops p n) W)
    fuse_dense [] x y w h l = join_siblings x y w h l
    fuse_dense (r ∷ R) x y w h l = join_below r R x y w h l
