-- A new level and a new leaf keep the tree dense and free of prefixes.
use Rattle.std.proofs.Common.{◌≡◌, ◌≢◌, ℕ, zero, suc, ◌+◌, ◌-◌, ◌<◌, ◌≤◌, ◌==◌, nat_lt, true, false, if◌then◌else◌, ◌⊎◌, inl, inr, Some, None, is_some, List, [], ◌∷◌, ◌++◌, length, map, refl, sym, ◌∙◌, ap, subst, arith}
use Rattle.std.specs.List.{insert}
use Rattle.std.proofs.lemmas.Bool.{eqb-true, eqb-false, ltb-true, ltb-false, lt-ltb, le-ltb}
use Rattle.beta_tree.specs.Vectors.{after, In, Apart, IsDense}
use Rattle.beta_tree.specs.Edits.{below, with_level, make_room, moved_up}
use Rattle.beta_tree.proofs.Places.{bool_tells, after_is, In-map, from_In-map, below_append, below_other}
use Rattle.beta_tree.proofs.Grafts.{DenseSet}

-- a 0 at place j
abbrev pub put_zero : ℕ → List ℕ → List ℕ
put_zero j v = insert v j 0

put_zero_cons : (j x : ℕ) (v : List ℕ) → put_zero (suc j) (x ∷ v) ≡ x ∷ put_zero j v
put_zero_cons j x v = refl

put_zero_append : (P : List ℕ) (k : ℕ) (w : List ℕ) → length P ≤ k → insert (P ++ w) k 0 ≡ P ++ put_zero (k - length P) w
put_zero_append [] k w l = let e : k - 0 ≡ k = omega arith in rw e refl
put_zero_append (p ∷ P) zero w l = absurd (omega arith)
put_zero_append (p ∷ P) (suc k) w l =
    let e : suc k - suc (length P) ≡ k - length P = omega arith in
    rw e (ap (λ z. p ∷ z) (put_zero_append P k w (omega arith)))

-- a new level is an edit below the prefix
pub with_level_below : (P : List ℕ) (k : ℕ) (v : List ℕ) → length P ≤ k → with_level P k v ≡ below P (put_zero (k - length P)) v
with_level_below P k v l =
    elim (after P v) as (λ o. after P v ≡ o → (if is_some o then insert v k 0 else v) ≡ below P (put_zero (k - length P)) v) [
      | Some w ↦ λ e.
          let is : v ≡ P ++ w = after_is P v w e in
          rw is (put_zero_append P k w l ∙ sym (below_append P (put_zero (k - length P)) w))
      | None ↦ λ e. sym (below_other P (put_zero (k - length P)) v e)
    ] refl

pub level_apart : (j : ℕ) (u v : List ℕ) → Apart u v → Apart (put_zero j u) (put_zero j v)
level_apart j [] v a = absurd a
level_apart j (x ∷ u) [] a = absurd a
level_apart zero (x ∷ u) (y ∷ v) a = inr a
level_apart (suc j) (x ∷ u) (y ∷ v) (inl ne) = inl ne
level_apart (suc j) (x ∷ u) (y ∷ v) (inr a) = inr (level_apart j u v a)

level_dense_set : (j : ℕ) (M : List ℕ → Type 0) → ((v : List ℕ) → M v → j < length v) → DenseSet M → (P : List ℕ) (x y : ℕ) (w v : List ℕ) → M v → put_zero j v ≡ P ++ x ∷ w → y < x → (u : List ℕ) × (t : List ℕ) × M t × (put_zero j t ≡ P ++ y ∷ u)
level_dense_set zero M long d [] x y w v m e l = let z : 0 ≡ x = cc in absurd (omega arith)
level_dense_set zero M long d (p ∷ P) x y w v m e l =
    let zero_is : 0 ≡ p = cc in
    let is : v ≡ P ++ x ∷ w = cc in
    let (u, k) = d P x y w (subst M is m) l in
    (u, P ++ y ∷ u, k, ap (λ n. n ∷ (P ++ y ∷ u)) zero_is)
level_dense_set (suc j) M long d P x y w [] m e l = absurd (let h = long [] m in omega arith)
level_dense_set (suc j) M long d [] x y w (a ∷ v) m e l =
    let is : a ≡ x = cc in
    let less : y < a = omega arith in
    let (u, k) = d [] a y v m less in
    (put_zero j u, y ∷ u, k, refl)
level_dense_set (suc j) M long d (p ∷ P) x y w (a ∷ v) m e l =
    let is : a ≡ p = cc in
    let more : put_zero j v ≡ P ++ x ∷ w = cc in
    let (u, t, k, f) = level_dense_set j (λ z. M (a ∷ z)) (λ z h. let g = long (a ∷ z) h in omega arith) (λ R. d (a ∷ R)) P x y w v m more l in
    (u, a ∷ t, k, ap (λ z. a ∷ z) f ∙ ap (λ n. n ∷ (P ++ y ∷ u)) is)

pub level_dense : (j : ℕ) (W : List (List ℕ)) → ((v : List ℕ) → In v W → j < length v) → IsDense W → IsDense (map (put_zero j) W)
level_dense j W long d P x y w h l =
    let (v, i, e) = from_In-map (put_zero j) (P ++ x ∷ w) W h in
    let (u, t, k, f) = level_dense_set j (λ z. In z W) long d P x y w v i e l in
    (u, subst (λ z. In z (map (put_zero j) W)) f (In-map (put_zero j) t W k))

-- room after the leaf p among its siblings

room_low : (p x : ℕ) (w : List ℕ) → x ≤ p → make_room p (x ∷ w) ≡ x ∷ w
room_low p x w l = rw (le-ltb p x l) refl

room_high : (p x : ℕ) (w : List ℕ) → p < x → make_room p (x ∷ w) ≡ (x + 1) ∷ w
room_high p x w l = rw (lt-ltb p x l) refl

moved_up_apart : (p x y : ℕ) → x ≢ y → moved_up p x ≢ moved_up p y
moved_up_apart p x y ne =
    elim (nat_lt p x) as (λ s. nat_lt p x ≡ s → (if s then x + 1 else x) ≢ moved_up p y) [
      | true ↦ λ e. elim (nat_lt p y) as (λ t. nat_lt p y ≡ t → x + 1 ≢ (if t then y + 1 else y)) [
        | true ↦ λ f h. ne (omega arith)
        | false ↦ λ f h. let a = ltb-true p x e in let b = ltb-false p y f in omega arith
      ] refl
      | false ↦ λ e. elim (nat_lt p y) as (λ t. nat_lt p y ≡ t → x ≢ (if t then y + 1 else y)) [
        | true ↦ λ f h. let a = ltb-false p x e in let b = ltb-true p y f in omega arith
        | false ↦ λ f h. ne h
      ] refl
    ] refl

pub room_apart : (p : ℕ) (u v : List ℕ) → Apart u v → Apart (make_room p u) (make_room p v)
room_apart p [] v a = absurd a
room_apart p (x ∷ u) [] a = absurd a
room_apart p (x ∷ u) (y ∷ v) (inl ne) = inl (moved_up_apart p x y ne)
room_apart p (x ∷ u) (y ∷ v) (inr a) = inr a

no_apart_of_nil : (u : List ℕ) → Apart u [] → ⊥
no_apart_of_nil [] a = a
no_apart_of_nil (x ∷ u) a = a

no_nil : (R : List ℕ) (x : ℕ) (w : List ℕ) → R ++ x ∷ w ≡ [] → ⊥
no_nil [] x w e = cc
no_nil (r ∷ R) x w e = cc

-- a sibling that differs from the leaf p differs, after room was made, from the new leaf
pub room_apart_next : (p : ℕ) (u : List ℕ) → Apart u (p ∷ []) → Apart (make_room p u) ((p + 1) ∷ [])
room_apart_next p [] a = a
room_apart_next p (x ∷ u) a =
    let ne : x ≢ p = elim a [ inl ne ↦ ne | inr b ↦ absurd (no_apart_of_nil u b) ] in
    elim (bool_tells (nat_lt p x)) [
      | inl t ↦ let e : moved_up p x ≡ x + 1 = rw t refl in let l = ltb-true p x t in rw e (inl (λ h. let q : x + 1 ≡ p + 1 = h in omega arith))
      | inr f ↦ let e : moved_up p x ≡ x = rw f refl in let l = ltb-false p x f in rw e (inl (λ h. let q : x ≡ p + 1 = h in omega arith))
    ]

-- the siblings of the leaf p, and the new leaf after it
abbrev pub WithNextLeaf : ℕ → List (List ℕ) → List ℕ → Type 0
WithNextLeaf p W v = (v ≡ (p + 1) ∷ []) ⊎ In v (map (make_room p) W)

module _ (p : ℕ) (W : List (List ℕ)) (leaf : In (p ∷ []) W) (d : IsDense W) where
  in_room : (v u : List ℕ) → In v W → make_room p v ≡ u → WithNextLeaf p W u
  in_room v u i e = inr (subst (λ z. In z (map (make_room p) W)) e (In-map (make_room p) v W i))

  low_leaf : (y : ℕ) → y ≤ p → (u : List ℕ) × WithNextLeaf p W (y ∷ u)
  low_leaf y l =
      elim (bool_tells (y == p)) [
        | inl t ↦ ([], in_room (p ∷ []) (y ∷ []) leaf (room_low p p [] (omega arith) ∙ ap (λ n. n ∷ []) (sym (eqb-true y p t))))
        | inr f ↦
            let ne : y ≢ p = eqb-false y p f in
            let less : y < p = omega arith in
            let (u, i) = d [] p y [] leaf less in
            (u, in_room (y ∷ u) (y ∷ u) i (room_low p y u l))
      ]

  room_from_vector : (x : ℕ) (w v : List ℕ) → In v W → make_room p v ≡ x ∷ w → (a : ℕ) × In (a ∷ w) W × (moved_up p a ≡ x)
  room_from_vector x w [] i e = absurd (cc)
  room_from_vector x w (a ∷ v) i e =
      let same : v ≡ w = cc in
      let is : moved_up p a ≡ x = cc in
      (a, subst (λ z. In (a ∷ z) W) same i, is)

  high_from : (a x y : ℕ) → p + 1 < y → y < x → moved_up p a ≡ x → a + 1 ≡ x
  high_from a x y l m e =
      elim (nat_lt p a) as (λ t. nat_lt p a ≡ t → (if t then a + 1 else a) ≡ x → a + 1 ≡ x) [
        | true ↦ λ f h. h
        | false ↦ λ f h. let k = ltb-false p a f in absurd (omega arith)
      ] refl e

  -- what a sibling was before
  room_from : (x : ℕ) (w : List ℕ) → In (x ∷ w) (map (make_room p) W) → (a : ℕ) × In (a ∷ w) W × (moved_up p a ≡ x)
  room_from x w h =
      let (v, i, e) = from_In-map (make_room p) (x ∷ w) W h in
      room_from_vector x w v i e

  leaf_siblings : (x y : ℕ) (w : List ℕ) → WithNextLeaf p W (x ∷ w) → y < x → (u : List ℕ) × WithNextLeaf p W (y ∷ u)
  leaf_siblings x y w (inl e) l = let is : x ≡ p + 1 = cc in low_leaf y (omega arith)
  leaf_siblings x y w (inr h) l =
      elim (bool_tells (nat_lt (p + 1) y)) [
        | inl t ↦
            let high : p + 1 < y = ltb-true (p + 1) y t in
            let (a, i, e) = room_from x w h in
            let is : a + 1 ≡ x = high_from a x y high l e in
            let less : y - 1 < a = omega arith in
            let (u, k) = d [] a (y - 1) w i less in
            (u, in_room ((y - 1) ∷ u) (y ∷ u) k (room_high p (y - 1) u (omega arith) ∙ ap (λ n. n ∷ u) (omega arith)))
        | inr f ↦ elim (bool_tells (y == p + 1)) [
          | inl t ↦ ([], inl (ap (λ n. n ∷ []) (eqb-true y (p + 1) t)))
          | inr g ↦ let low : y ≤ p + 1 = ltb-false (p + 1) y f in let ne : y ≢ p + 1 = eqb-false y (p + 1) g in low_leaf y (omega arith)
        ]
      ]

  pub leaf_dense : DenseSet (WithNextLeaf p W)
  leaf_dense [] x y w h l = leaf_siblings x y w h l
  leaf_dense (r ∷ R) x y w (inl e) l = absurd (let nil : R ++ x ∷ w ≡ [] = cc in no_nil R x w nil)
  leaf_dense (r ∷ R) x y w (inr h) l =
      let (a, i, e) = room_from r (R ++ x ∷ w) h in
      let (u, k) = d (a ∷ R) x y w i l in
      (u, in_room (a ∷ (R ++ y ∷ u)) (r ∷ (R ++ y ∷ u)) k (ap (λ n. n ∷ (R ++ y ∷ u)) e))
