-- Fission and fuse among the siblings of a loop: each undoes the other, and both keep the tree dense and free of prefixes.
use Rattle.std.proofs.Common.{◌≡◌, ◌≢◌, ℕ, ◌+◌, ◌-◌, ◌<◌, ◌≤◌, ◌==◌, nat_lt, inl, inr, List, [], ◌∷◌, map, refl, sym, ◌∙◌, ap, subst, arith}
use Rattle.std.proofs.lemmas.Bool.{eqb-true, eqb-false, ltb-true, ltb-false, lt-ltb, le-ltb}
use Rattle.beta_tree.specs.Vectors.{In, Apart}
use Rattle.beta_tree.specs.Edits.{moved_down, split_loop, appended_children, join_loops}
use Rattle.beta_tree.proofs.Places.{bool_tells, same_yes, same_no, from_In-map}

-- what the two do to each kind of sibling

pub split_earlier : (p c x : ℕ) (w : List ℕ) → x < p → split_loop p c (x ∷ w) ≡ x ∷ w
split_earlier p c x w l = let ne : x ≢ p = omega arith in rw (same_no x p ne, le-ltb p x (omega arith)) refl

pub split_later : (p c x : ℕ) (w : List ℕ) → p < x → split_loop p c (x ∷ w) ≡ (x + 1) ∷ w
split_later p c x w l = let ne : x ≢ p = omega arith in rw (same_no x p ne, lt-ltb p x l) refl

pub split_leaf_stays : (p c : ℕ) → split_loop p c (p ∷ []) ≡ p ∷ []
split_leaf_stays p c = rw (same_yes p) refl

pub split_before : (p c y : ℕ) (w : List ℕ) → y < c → split_loop p c (p ∷ (y ∷ w)) ≡ p ∷ (y ∷ w)
split_before p c y w l = rw (same_yes p, lt-ltb y c l) refl

pub split_from : (p c y : ℕ) (w : List ℕ) → c ≤ y → split_loop p c (p ∷ (y ∷ w)) ≡ (p + 1) ∷ ((y - c) ∷ w)
split_from p c y w l = rw (same_yes p, le-ltb y c l) refl

pub join_earlier : (p n x : ℕ) (w : List ℕ) → x ≤ p → join_loops p n (x ∷ w) ≡ x ∷ w
join_earlier p n x w l = let ne : x ≢ p + 1 = omega arith in rw (same_no x (p + 1) ne, le-ltb p x l) refl

pub join_later : (p n x : ℕ) (w : List ℕ) → p + 1 < x → join_loops p n (x ∷ w) ≡ (x - 1) ∷ w
join_later p n x w l = let ne : x ≢ p + 1 = omega arith in rw (same_no x (p + 1) ne, lt-ltb p x (omega arith)) refl

pub join_next : (p n y : ℕ) (w : List ℕ) → join_loops p n ((p + 1) ∷ (y ∷ w)) ≡ p ∷ ((y + n) ∷ w)
join_next p n y w = rw (same_yes (p + 1)) refl

pub join_next_leaf : (p n : ℕ) → join_loops p n ((p + 1) ∷ []) ≡ p ∷ []
join_next_leaf p n = rw (same_yes (p + 1)) refl

split_rest : (p c : ℕ) (G : List ℕ → Type 0) → G (p ∷ []) → ((y : ℕ) (w : List ℕ) → y < c → G (p ∷ (y ∷ w))) → ((y : ℕ) (w : List ℕ) → c ≤ y → G (p ∷ (y ∷ w))) → (w : List ℕ) → G (p ∷ w)
split_rest p c G leaf before from [] = leaf
split_rest p c G leaf before from (y ∷ w) =
    elim (bool_tells (nat_lt y c)) [ inl t ↦ before y w (ltb-true y c t) | inr f ↦ from y w (ltb-false y c f) ]

-- a proof by kinds of siblings
pub split_kinds : (p c : ℕ) (G : List ℕ → Type 0) → G [] → ((x : ℕ) (w : List ℕ) → x < p → G (x ∷ w)) → ((x : ℕ) (w : List ℕ) → p < x → G (x ∷ w)) → G (p ∷ []) → ((y : ℕ) (w : List ℕ) → y < c → G (p ∷ (y ∷ w))) → ((y : ℕ) (w : List ℕ) → c ≤ y → G (p ∷ (y ∷ w))) → (v : List ℕ) → G v
split_kinds p c G none earlier later leaf before from [] = none
split_kinds p c G none earlier later leaf before from (x ∷ w) =
    elim (bool_tells (nat_lt x p)) [
      | inl t ↦ earlier x w (ltb-true x p t)
      | inr f ↦ elim (bool_tells (nat_lt p x)) [
        | inl t ↦ later x w (ltb-true p x t)
        | inr g ↦
            let low : p ≤ x = ltb-false x p f in
            let high : x ≤ p = ltb-false p x g in
            let same : p ≡ x = omega arith in
            subst (λ n. G (n ∷ w)) same (split_rest p c G leaf before from w)
      ]
    ]

pub join_kinds : (p : ℕ) (G : List ℕ → Type 0) → G [] → ((x : ℕ) (w : List ℕ) → x ≤ p → G (x ∷ w)) → ((x : ℕ) (w : List ℕ) → p + 1 < x → G (x ∷ w)) → G ((p + 1) ∷ []) → ((y : ℕ) (w : List ℕ) → G ((p + 1) ∷ (y ∷ w))) → (v : List ℕ) → G v
join_kinds p G none earlier later leaf next v =
    split_kinds (p + 1) 0 G none (λ x w l. earlier x w (omega arith)) later leaf (λ y w l. next y w) (λ y w l. next y w) v

-- each undoes the other

pub join_split : (p c : ℕ) (v : List ℕ) → join_loops p c (split_loop p c v) ≡ v
join_split p c =
    split_kinds p c (λ v. join_loops p c (split_loop p c v) ≡ v)
    refl
    (λ x w l. ap (join_loops p c) (split_earlier p c x w l) ∙ join_earlier p c x w (omega arith))
    (λ x w l. ap (join_loops p c) (split_later p c x w l) ∙ (join_later p c (x + 1) w (omega arith) ∙ ap (λ n. n ∷ w) (omega arith)))
    (ap (join_loops p c) (split_leaf_stays p c) ∙ join_earlier p c p [] (omega arith))
    (λ y w l. ap (join_loops p c) (split_before p c y w l) ∙ join_earlier p c p (y ∷ w) (omega arith))
    (λ y w l. ap (join_loops p c) (split_from p c y w l) ∙ (join_next p c (y - c) w ∙ ap (λ n. p ∷ (n ∷ w)) (omega arith)))

split_of_same : (p n x : ℕ) (w : List ℕ) → x ≡ p → (x ∷ w ≢ p ∷ []) → ((y : ℕ) (u : List ℕ) → x ∷ w ≡ p ∷ (y ∷ u) → y < n) → split_loop p n (x ∷ w) ≡ x ∷ w
split_of_same p n x [] same a h = absurd (a (cc))
split_of_same p n x (y ∷ w) same a h =
    let is : x ∷ (y ∷ w) ≡ p ∷ (y ∷ w) = cc in
    ap (split_loop p n) is ∙ (split_before p n y w (h y w is) ∙ sym is)

split_of_earlier : (p n x : ℕ) (w : List ℕ) → x ≤ p → (x ∷ w ≢ p ∷ []) → ((y : ℕ) (u : List ℕ) → x ∷ w ≡ p ∷ (y ∷ u) → y < n) → split_loop p n (x ∷ w) ≡ x ∷ w
split_of_earlier p n x w l a h =
    elim (bool_tells (nat_lt x p)) [
      | inl t ↦ split_earlier p n x w (ltb-true x p t)
      | inr f ↦
          let low : p ≤ x = ltb-false x p f in
          let same : x ≡ p = omega arith in
          split_of_same p n x w same a h
    ]

-- in a tree where p has the children below n, and neither p nor the sibling after it is a leaf
pub split_join : (p n : ℕ) (v : List ℕ) → (v ≢ p ∷ []) → (v ≢ (p + 1) ∷ []) → ((y : ℕ) (w : List ℕ) → v ≡ p ∷ (y ∷ w) → y < n) → split_loop p n (join_loops p n v) ≡ v
split_join p n =
    join_kinds p (λ v. (v ≢ p ∷ []) → (v ≢ (p + 1) ∷ []) → ((y : ℕ) (w : List ℕ) → v ≡ p ∷ (y ∷ w) → y < n) → split_loop p n (join_loops p n v) ≡ v)
    (λ a b h. refl)
    (λ x w l a b h. ap (split_loop p n) (join_earlier p n x w l) ∙ split_of_earlier p n x w l a h)
    (λ x w l a b h. ap (split_loop p n) (join_later p n x w l) ∙ (split_later p n (x - 1) w (omega arith) ∙ ap (λ k. k ∷ w) (omega arith)))
    (λ a b h. absurd (b refl))
    (λ y w a b h. ap (split_loop p n) (join_next p n y w) ∙ (split_from p n (y + n) w (omega arith) ∙ ap (λ k. (p + 1) ∷ (k ∷ w)) (omega arith)))

-- a member of the split tree comes from a member of the old one
pub from_split : (p c : ℕ) (W : List (List ℕ)) (u : List ℕ) → In u (map (split_loop p c) W) → In (join_loops p c u) W
from_split p c W u h =
    let (v, i, e) = from_In-map (split_loop p c) u W h in
    subst (λ z. In z W) (sym (join_split p c v) ∙ ap (join_loops p c) e) i

-- vectors that differ after the one come from vectors that differed before it

pub no_apart_nil : (u : List ℕ) → Apart u [] → ⊥
no_apart_nil [] a = a
no_apart_nil (x ∷ u) a = a

pub apart_tail : (x y : ℕ) (u v : List ℕ) → x ≡ y → Apart (x ∷ u) (y ∷ v) → Apart u v
apart_tail x y u v e (inl ne) = absurd (ne e)
apart_tail x y u v e (inr a) = a

apart_moved : (p n x y : ℕ) (u v : List ℕ) → x ≡ y → y ≢ p + 1 → Apart (join_loops p n (x ∷ u)) (join_loops p n (y ∷ v)) → Apart u v
apart_moved p n x y u v e ne a =
    let ne2 : x ≢ p + 1 = λ h. ne (sym e ∙ h) in
    apart_tail (moved_down p x) (moved_down p y) u v (ap (moved_down p) e) (rw (same_no x (p + 1) ne2, same_no y (p + 1) ne) at a)

apart_children : (p n : ℕ) (u v : List ℕ) → Apart (appended_children p n u) (appended_children p n v) → Apart u v
apart_children p n [] [] a = absurd (elim a [ inl ne ↦ ne refl | inr b ↦ b ])
apart_children p n [] (y ∷ v) a = absurd (elim a [ inl ne ↦ ne refl | inr b ↦ b ])
apart_children p n (x ∷ u) [] a = absurd (elim a [ inl ne ↦ ne refl | inr b ↦ b ])
apart_children p n (x ∷ u) (y ∷ v) a =
    elim (apart_tail p p ((x + n) ∷ u) ((y + n) ∷ v) refl a) [
      | inl ne ↦ inl (λ e. ne (ap (λ k. k + n) e))
      | inr b ↦ inr b
    ]

apart_appended : (p n : ℕ) (u v : List ℕ) → Apart (join_loops p n ((p + 1) ∷ u)) (join_loops p n ((p + 1) ∷ v)) → Apart u v
apart_appended p n u v a = apart_children p n u v (rw (same_yes (p + 1)) at a)

pub apart_join : (p n : ℕ) (u v : List ℕ) → Apart (join_loops p n u) (join_loops p n v) → Apart u v
apart_join p n [] v a = absurd a
apart_join p n (x ∷ u) [] a = absurd (no_apart_nil (join_loops p n (x ∷ u)) a)
apart_join p n (x ∷ u) (y ∷ v) a =
    elim (bool_tells (x == y)) [
      | inr f ↦ inl (eqb-false x y f)
      | inl t ↦
          let same : x ≡ y = eqb-true x y t in
          elim (bool_tells (y == p + 1)) [
            | inl e ↦
                let next : y ≡ p + 1 = eqb-true y (p + 1) e in
                let both : x ≡ p + 1 = same ∙ next in
                inr (apart_appended p n u v (subst (λ k. Apart (join_loops p n ((p + 1) ∷ u)) (join_loops p n (k ∷ v))) next (subst (λ k. Apart (join_loops p n (k ∷ u)) (join_loops p n (y ∷ v))) both a)))
            | inr g ↦ inr (apart_moved p n x y u v same (eqb-false y (p + 1) g) a)
          ]
    ]
