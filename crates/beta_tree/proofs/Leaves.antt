-- A new leaf makes a tree of a tree.
use Rattle.std.proofs.Common.{◌≡◌, ◌≢◌, ℕ, ◌+◌, ◌<◌, ◌^◌, ◌==◌, true, false, if◌then◌else◌, ◌⊎◌, inl, inr, List, [], ◌∷◌, ◌++◌, length, map, refl, sym, ◌∙◌, ap, subst, arith}
use Rattle.std.proofs.lemmas.List.{length-map}
use Rattle.std.specs.List.{flat_map}
use Rattle.std.proofs.lemmas.Bool.{eqb-true, eqb-false, le-ltb}
use Rattle.beta_tree.specs.Vectors.{under, In, Apart, ApartFromAll, PrefixFree, IsTree}
use Rattle.beta_tree.specs.Edits.{front, last, below, make_room, same_vector, leaf_split}
use Rattle.beta_tree.proofs.Places.{bool_tells, same_yes, In-under, below_append}
use Rattle.beta_tree.proofs.Grafts.{Grafted, graft_dense, grafted_below, dense_under, apart_map, free_map, apart_below}
use Rattle.beta_tree.proofs.Orders.{and_left, and_right}
use Rattle.beta_tree.proofs.Levels.{room_apart, room_apart_next, WithNextLeaf, leaf_dense}
use Rattle.beta_tree.proofs.Trees.{filled_below}

-- P is what stands before its last entry, and that entry

pub front_last : (p : ℕ) (P : List ℕ) → front (p ∷ P) ++ last (p ∷ P) ∷ [] ≡ p ∷ P
front_last p [] = refl
front_last p (q ∷ P) = ap (λ z. p ∷ z) (front_last q P)

pub front_of_append : (Q : List ℕ) (p : ℕ) → front (Q ++ p ∷ []) ≡ Q
front_of_append [] p = refl
front_of_append (q ∷ []) p = refl
front_of_append (q ∷ (r ∷ Q)) p = ap (λ z. q ∷ z) (front_of_append (r ∷ Q) p)

pub last_of_append : (Q : List ℕ) (p : ℕ) → last (Q ++ p ∷ []) ≡ p
last_of_append [] p = refl
last_of_append (q ∷ []) p = refl
last_of_append (q ∷ (r ∷ Q)) p = last_of_append (r ∷ Q) p

-- the test of two vectors

pub same_vector_yes : (u v : List ℕ) → same_vector u v ≡ true → u ≡ v
same_vector_yes [] [] h = refl
same_vector_yes [] (y ∷ v) h = absurd (cc)
same_vector_yes (x ∷ u) [] h = absurd (cc)
same_vector_yes (x ∷ u) (y ∷ v) h =
    let a = eqb-true x y (and_left (x == y) (same_vector u v) h) in
    let b = same_vector_yes u v (and_right (x == y) (same_vector u v) h) in
    cc

pub same_vector_refl : (u : List ℕ) → same_vector u u ≡ true
same_vector_refl [] = refl
same_vector_refl (x ∷ u) = rw (same_yes x) (same_vector_refl u)

apart_self : (u : List ℕ) → Apart u u → ⊥
apart_self [] a = a
apart_self (x ∷ u) (inl ne) = ne refl
apart_self (x ∷ u) (inr a) = apart_self u a

apart_swap : (u v : List ℕ) → Apart u v → Apart v u
apart_swap [] v a = absurd a
apart_swap (x ∷ u) [] a = absurd a
apart_swap (x ∷ u) (y ∷ v) (inl ne) = inl (λ e. ne (sym e))
apart_swap (x ∷ u) (y ∷ v) (inr a) = inr (apart_swap u v a)

apart_nil_left : (v : List ℕ) → Apart v [] → ⊥
apart_nil_left [] a = a
apart_nil_left (x ∷ v) a = a

apart_all : (v w : List ℕ) (V : List (List ℕ)) → ApartFromAll v V → In w V → Apart v w
apart_all v w [] a i = absurd i
apart_all v w (u ∷ V) a (inl e) = subst (λ z. Apart v z) e a.0
apart_all v w (u ∷ V) a (inr i) = apart_all v w V a.1 i

apart_siblings : (Q : List ℕ) (p : ℕ) → Apart (Q ++ p ∷ []) (Q ++ (p + 1) ∷ [])
apart_siblings [] p = inl (λ e. let h : p ≡ p + 1 = e in omega arith)
apart_siblings (q ∷ Q) p = inr (apart_siblings Q p)

-- a vector that differs from the leaf differs, after room was made, from the new leaf
apart_next : (Q : List ℕ) (p : ℕ) (v : List ℕ) → Apart v (Q ++ p ∷ []) → Apart (below Q (make_room p) v) (Q ++ (p + 1) ∷ [])
apart_next [] p v a = room_apart_next p v a
apart_next (q ∷ Q) p [] a = absurd a
apart_next (q ∷ Q) p (x ∷ v) a =
    elim (x == q) as (λ t. (x == q) ≡ t → Apart (if t then x ∷ below Q (make_room p) v else x ∷ v) (q ∷ (Q ++ (p + 1) ∷ []))) [
      | true ↦ λ e. elim a [ inl ne ↦ absurd (ne (eqb-true x q e)) | inr more ↦ inr (apart_next Q p v more) ]
      | false ↦ λ e. inl (eqb-false x q e)
    ] refl

moved_self : (p : ℕ) → make_room p (p ∷ []) ≡ p ∷ []
moved_self p = rw (le-ltb p p (omega arith)) refl

room_nil : (p : ℕ) (u : List ℕ) → make_room p u ≡ [] → u ≡ []
room_nil p [] e = refl
room_nil p (x ∷ u) e = absurd (cc)

-- for the leaf p after Q
module _ (Q : List ℕ) (p : ℕ) where
  abbrev Leaf : List ℕ
  Leaf = Q ++ p ∷ []

  abbrev room : List ℕ → List ℕ
  room = below Q (make_room p)

  room_of_leaf : room Leaf ≡ Leaf
  room_of_leaf = below_append Q (make_room p) (p ∷ []) ∙ ap (λ z. Q ++ z) (moved_self p)

  split_is : (v : List ℕ) → leaf_split Leaf v ≡ (if same_vector v Leaf then v ∷ ((Q ++ (p + 1) ∷ []) ∷ []) else room v ∷ [])
  split_is v = rw (front_of_append Q p, last_of_append Q p) refl

  pub split_leaf : (v : List ℕ) → v ≡ Leaf → leaf_split Leaf v ≡ v ∷ ((Q ++ (p + 1) ∷ []) ∷ [])
  split_leaf v e = split_is v ∙ (let h : same_vector v Leaf ≡ true = rw e (same_vector_refl Leaf) in rw h refl)

  pub split_other : (v : List ℕ) → v ≢ Leaf → leaf_split Leaf v ≡ room v ∷ []
  split_other v ne = split_is v ∙ elim (bool_tells (same_vector v Leaf)) [ inl t ↦ absurd (ne (same_vector_yes v Leaf t)) | inr f ↦ rw f refl ]

  vector_cases : (v : List ℕ) → (v ≡ Leaf) ⊎ (v ≢ Leaf)
  vector_cases v = elim (bool_tells (same_vector v Leaf)) [
    | inl t ↦ inl (same_vector_yes v Leaf t)
    | inr f ↦ inr (λ e. let h : same_vector v Leaf ≡ true = rw e (same_vector_refl Leaf) in cc)
  ]

  apart_room : (v w : List ℕ) → Apart v w → Apart (room v) (room w)
  apart_room v w a = apart_below Q (make_room p) v w (λ b c e g h. room_apart p b c h) a

  next_apart : (V : List (List ℕ)) → ApartFromAll Leaf V → ApartFromAll (Q ++ (p + 1) ∷ []) (map room V)
  next_apart [] a = tt
  next_apart (v ∷ V) a = (apart_swap (room v) (Q ++ (p + 1) ∷ []) (apart_next Q p v (apart_swap Leaf v a.0)), next_apart V a.1)

  -- without the leaf only room is made
  split_none : (V : List (List ℕ)) → ApartFromAll Leaf V → flat_map (leaf_split Leaf) V ≡ map room V
  split_none [] a = refl
  split_none (v ∷ V) a =
      let ne : v ≢ Leaf = λ e. apart_self Leaf (subst (λ z. Apart Leaf z) e a.0) in
      let h = split_other v ne in
      let g = split_none V a.1 in
      rw (h, g) refl

  apart_split_all : (v : List ℕ) (V : List (List ℕ)) → v ≢ Leaf → ApartFromAll v V → ApartFromAll (room v) (flat_map (leaf_split Leaf) V)
  apart_split_all v [] ne a = tt
  apart_split_all v (w ∷ V) ne a =
      elim (vector_cases w) [
        | inl e ↦
            let h = split_leaf w e in
            let va : Apart v Leaf = subst (λ z. Apart v z) e a.0 in
            let first : Apart (room v) w = subst (λ z. Apart (room v) z) (room_of_leaf ∙ sym e) (apart_room v Leaf va) in
            let rest = apart_split_all v V ne a.1 in
            rw h (first, (apart_next Q p v va, rest))
        | inr n ↦
            let h = split_other w n in
            rw h (apart_room v w a.0, apart_split_all v V ne a.1)
      ]

  free_split : (V : List (List ℕ)) → PrefixFree V → PrefixFree (flat_map (leaf_split Leaf) V)
  free_split [] f = tt
  free_split (v ∷ V) f =
      elim (vector_cases v) [
        | inl e ↦
            let h = split_leaf v e in
            let apart : ApartFromAll Leaf V = subst (λ z. ApartFromAll z V) e f.0 in
            let g = split_none V apart in
            let first : ApartFromAll v (map room V) = subst (λ z. ApartFromAll z (map room V)) (room_of_leaf ∙ sym e) (apart_map room Leaf V (λ w i k. apart_room Leaf w k) apart) in
            let next : Apart v (Q ++ (p + 1) ∷ []) = subst (λ z. Apart z (Q ++ (p + 1) ∷ [])) (sym e) (apart_siblings Q p) in
            rw (h, g) ((next, first), (next_apart V apart, free_map room V (λ a b i j k. apart_room a b k) f.1))
        | inr n ↦
            let h = split_other v n in
            rw h (apart_split_all v V n f.0, free_split V f.1)
      ]

  length_split : (V : List (List ℕ)) → PrefixFree V → In Leaf V → length (flat_map (leaf_split Leaf) V) ≡ length V + 1
  length_split [] f i = absurd i
  length_split (v ∷ V) f i =
      elim (vector_cases v) [
        | inl e ↦
            let h = split_leaf v e in
            let g = split_none V (subst (λ z. ApartFromAll z V) e f.0) in
            let k = length-map V room in
            rw (h, g) (omega arith)
        | inr n ↦
            let h = split_other v n in
            let more : In Leaf V = elim i [ inl e ↦ absurd (n e) | inr k ↦ k ] in
            let k = length_split V f.1 more in
            rw h (omega arith)
      ]

  -- the members of the new list

  from_In-split : (u : List ℕ) (V : List (List ℕ)) → In u (flat_map (leaf_split Leaf) V) → (u ≡ Q ++ (p + 1) ∷ []) ⊎ In u (map room V)
  from_In-split u [] i = absurd i
  from_In-split u (v ∷ V) i =
      elim (vector_cases v) [
        | inl e ↦
            let k : In u (v ∷ ((Q ++ (p + 1) ∷ []) ∷ flat_map (leaf_split Leaf) V)) = subst (λ z. In u (z ++ flat_map (leaf_split Leaf) V)) (split_leaf v e) i in
            elim k [
              | inl s ↦ let r : room v ≡ v = ap room e ∙ (room_of_leaf ∙ sym e) in inr (inl (r ∙ s))
              | inr m ↦ elim m [
                | inl s ↦ inl (sym s)
                | inr n ↦ elim (from_In-split u V n) [ inl s ↦ inl s | inr s ↦ inr (inr s) ]
              ]
            ]
        | inr ne ↦
            let k : In u (room v ∷ flat_map (leaf_split Leaf) V) = subst (λ z. In u (z ++ flat_map (leaf_split Leaf) V)) (split_other v ne) i in
            elim k [
              | inl s ↦ inr (inl s)
              | inr n ↦ elim (from_In-split u V n) [ inl s ↦ inl s | inr s ↦ inr (inr s) ]
            ]
      ]

  pub In-split : (u : List ℕ) (V : List (List ℕ)) → In u (map room V) → In u (flat_map (leaf_split Leaf) V)
  In-split u [] i = absurd i
  In-split u (v ∷ V) i =
      elim (vector_cases v) [
        | inl e ↦
            let k : In u (v ∷ ((Q ++ (p + 1) ∷ []) ∷ flat_map (leaf_split Leaf) V)) = elim i [
              | inl s ↦ let r : v ≡ room v = e ∙ (sym room_of_leaf ∙ sym (ap room e)) in inl (r ∙ s)
              | inr m ↦ inr (inr (In-split u V m))
            ] in
            subst (λ z. In u (z ++ flat_map (leaf_split Leaf) V)) (sym (split_leaf v e)) k
        | inr ne ↦
            let k : In u (room v ∷ flat_map (leaf_split Leaf) V) = elim i [ inl s ↦ inl s | inr m ↦ inr (In-split u V m) ] in
            subst (λ z. In u (z ++ flat_map (leaf_split Leaf) V)) (sym (split_other v ne)) k
      ]

  In-next : (V : List (List ℕ)) → In Leaf V → In (Q ++ (p + 1) ∷ []) (flat_map (leaf_split Leaf) V)
  In-next [] i = absurd i
  In-next (v ∷ V) i =
      elim (vector_cases v) [
        | inl e ↦
            let k : In (Q ++ (p + 1) ∷ []) (v ∷ ((Q ++ (p + 1) ∷ []) ∷ flat_map (leaf_split Leaf) V)) = inr (inl refl) in
            subst (λ z. In (Q ++ (p + 1) ∷ []) (z ++ flat_map (leaf_split Leaf) V)) (sym (split_leaf v e)) k
        | inr ne ↦
            let more : In Leaf V = elim i [ inl e ↦ absurd (ne e) | inr k ↦ k ] in
            let k : In (Q ++ (p + 1) ∷ []) (room v ∷ flat_map (leaf_split Leaf) V) = inr (In-next V more) in
            subst (λ z. In (Q ++ (p + 1) ∷ []) (z ++ flat_map (leaf_split Leaf) V)) (sym (split_other v ne)) k
      ]

  grafted_split : (V : List (List ℕ)) → In Leaf V → Grafted Q (λ v. In v V) (λ v. In v (flat_map (leaf_split Leaf) V)) (WithNextLeaf p (under Q V))
  grafted_split V i =
      let some : (u : List ℕ) × In u (under Q V) = (p ∷ [], In-under Q (p ∷ []) V i) in
      let g : Grafted Q (λ v. In v V) (λ v. In v (map room V)) (λ v. In v (map (make_room p) (under Q V))) = grafted_below Q (make_room p) V some in
      record {
        into = λ v h. elim (from_In-split v V h) [
          | inl e ↦ inl ((p + 1) ∷ [], e, inl refl)
          | inr m ↦ elim (g.into v m) [
            | inl (u, e, k) ↦ inl (u, e, inr k)
            | inr k ↦ inr k
          ]
        ];
        here = λ u h. elim h [
          | inl e ↦ subst (λ z. In (Q ++ z) (flat_map (leaf_split Leaf) V)) (sym e) (In-next V i)
          | inr k ↦ In-split (Q ++ u) V (g.here u k)
        ];
        other = λ v k none. In-split v V (g.other v k none);
        under_old = (p ∷ [], i);
        under_new = ((p + 1) ∷ [], inl refl);
      }

  no_append_nil : (R : List ℕ) (x : ℕ) → [] ≡ R ++ x ∷ [] → ⊥
  no_append_nil [] x e = cc
  no_append_nil (r ∷ R) x e = cc

  pub leaf_tree : (V : List (List ℕ)) → IsTree V → length V + 1 < 2 ^ 32 → In Leaf V → IsTree (flat_map (leaf_split Leaf) V)
  leaf_tree V t few i = record {
    few = let e = length_split V t.free i in omega arith;
    filled = λ h. elim (from_In-split [] V h) [
      | inl e ↦ no_append_nil Q (p + 1) e
      | inr k ↦ filled_below Q (make_room p) V (room_nil p) t.filled k
    ];
    free = free_split V t.free;
    dense = graft_dense Q (λ v. In v V) (λ v. In v (flat_map (leaf_split Leaf) V)) (WithNextLeaf p (under Q V)) (grafted_split V i) t.dense
        (leaf_dense p (under Q V) (In-under Q (p ∷ []) V i) (dense_under Q V t.dense));
  }

pub same_vector_no : (u v : List ℕ) → same_vector u v ≡ false → u ≢ v
same_vector_no u v h e = let g : same_vector u v ≡ true = rw e (same_vector_refl v) in cc
