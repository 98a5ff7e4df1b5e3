-- A dense tree stays dense where the subtree below a prefix is replaced by a dense one.
use Rattle.std.proofs.Common.{◌≡◌, ℕ, ◌<◌, ◌==◌, true, false, if◌then◌else◌, ◌⊎◌, inl, inr, Some, None, List, [], ◌∷◌, ◌++◌, map, refl, sym, ◌∙◌, ap, subst, append_assoc}
use Rattle.std.proofs.lemmas.Bool.{eqb-true, eqb-false}
use Rattle.beta_tree.specs.Vectors.{after, under, In, Apart, ApartFromAll, PrefixFree, IsDense}
use Rattle.beta_tree.specs.Edits.{below}
use Rattle.beta_tree.proofs.Places.{bool_tells, same_yes, after_is, In-map, from_In-map, In-under, from_In-under, below_append, below_other}

-- density of a set of vectors
abbrev pub DenseSet : (List ℕ → Type 0) → Type 0
DenseSet M = (P : List ℕ) (x y : ℕ) (w : List ℕ) → M (P ++ x ∷ w) → y < x → (u : List ℕ) × M (P ++ y ∷ u)

-- N is M with the set B in place of what M has below Q
pub record Grafted (Q : List ℕ) (M N B : List ℕ → Type 0) : Type 0 where
  pub into : (v : List ℕ) → N v → ((u : List ℕ) × (v ≡ Q ++ u) × B u) ⊎ ((after Q v ≡ None) × M v)
  pub here : (u : List ℕ) → B u → N (Q ++ u)
  pub other : (v : List ℕ) → M v → after Q v ≡ None → N v
  pub under_old : (u : List ℕ) × M (Q ++ u)
  pub under_new : (u : List ℕ) × B u

grafted_tail : (q : ℕ) (Q : List ℕ) (M N B : List ℕ → Type 0) → Grafted (q ∷ Q) M N B → Grafted Q (λ v. M (q ∷ v)) (λ v. N (q ∷ v)) B
grafted_tail q Q M N B g = record {
  into = λ v h. elim (g.into (q ∷ v) h) [
    | inl (u, e, b) ↦ let e2 : v ≡ Q ++ u = cc in inl (u, e2, b)
    | inr (none, m) ↦ let none2 : after Q v ≡ None = (rw (same_yes q) at none) in inr (none2, m)
  ];
  here = g.here;
  other = λ v m none. g.other (q ∷ v) m (rw (same_yes q) none);
  under_old = g.under_old;
  under_new = g.under_new;
}

pub graft_dense : (Q : List ℕ) (M N B : List ℕ → Type 0) → Grafted Q M N B → DenseSet M → DenseSet B → DenseSet N
graft_dense [] M N B g m b P x y w h l =
    elim (g.into (P ++ x ∷ w) h) [
      | inl (u, e, i) ↦ let (t, k) = b P x y w (subst B (sym e) i) l in (t, g.here (P ++ y ∷ t) k)
      | inr (none, i) ↦ absurd (let e : Some (P ++ x ∷ w) ≡ None = none in cc)
    ]
graft_dense (q ∷ Q) M N B g m b [] x y w h l =
    let old : (u : List ℕ) × M (x ∷ u) = elim (g.into (x ∷ w) h) [
      | inl (u, e, i) ↦ let same : q ≡ x = cc in (Q ++ g.under_old.0, subst (λ n. M (n ∷ (Q ++ g.under_old.0))) same g.under_old.1)
      | inr (none, i) ↦ (w, i)
    ] in
    let lower : (u : List ℕ) × M (y ∷ u) = m [] x y old.0 old.1 l in
    elim (bool_tells (y == q)) [
      | inl t ↦ (Q ++ g.under_new.0, subst (λ n. N (n ∷ (Q ++ g.under_new.0))) (sym (eqb-true y q t)) (g.here g.under_new.0 g.under_new.1))
      | inr f ↦ (lower.0, g.other (y ∷ lower.0) lower.1 (rw f refl))
    ]
graft_dense (q ∷ Q) M N B g m b (p ∷ P) x y w h l =
    elim (bool_tells (p == q)) [
      | inl t ↦
          let same : p ≡ q = eqb-true p q t in
          let (u, k) = graft_dense Q (λ v. M (q ∷ v)) (λ v. N (q ∷ v)) B (grafted_tail q Q M N B g) (λ R. m (q ∷ R)) b P x y w (subst (λ n. N (n ∷ (P ++ x ∷ w))) same h) l in
          (u, subst (λ n. N (n ∷ (P ++ y ∷ u))) (sym same) k)
      | inr f ↦ elim (g.into (p ∷ (P ++ x ∷ w)) h) [
        | inl (u, e, i) ↦ absurd (let same : p ≡ q = cc in eqb-false p q f same)
        | inr (none, i) ↦ let (u, k) = m (p ∷ P) x y w i l in (u, g.other (p ∷ (P ++ y ∷ u)) k (rw f refl))
      ]
    ]

-- an edit of all vectors below Q is a graft
pub grafted_below : (Q : List ℕ) (f : List ℕ → List ℕ) (V : List (List ℕ)) → (some : (u : List ℕ) × In u (under Q V)) → Grafted Q (λ v. In v V) (λ v. In v (map (below Q f) V)) (λ v. In v (map f (under Q V)))
grafted_below Q f V some = record {
  into = λ v h.
      let (a, i, e) = from_In-map (below Q f) v V h in
      elim (after Q a) as (λ o. after Q a ≡ o → ((u : List ℕ) × (v ≡ Q ++ u) × In u (map f (under Q V))) ⊎ ((after Q v ≡ None) × In v V)) [
        | Some u ↦ λ t.
            let is : a ≡ Q ++ u = after_is Q a u t in
            inl (f u, (sym e ∙ ap (below Q f) is) ∙ below_append Q f u, In-map f u (under Q V) (In-under Q u V (subst (λ z. In z V) is i)))
        | None ↦ λ t.
            let same : a ≡ v = sym (below_other Q f a t) ∙ e in
            inr (subst (λ z. after Q z ≡ None) same t, subst (λ z. In z V) same i)
      ] refl;
  here = λ u h.
      let (a, i, e) = from_In-map f u (under Q V) h in
      subst (λ z. In z (map (below Q f) V)) (below_append Q f a ∙ ap (λ z. Q ++ z) e) (In-map (below Q f) (Q ++ a) V (from_In-under Q a V i));
  other = λ v i none. subst (λ z. In z (map (below Q f) V)) (below_other Q f v none) (In-map (below Q f) v V i);
  under_old = (some.0, from_In-under Q some.0 V some.1);
  under_new = (f some.0, In-map f some.0 (under Q V) some.1);
}

pub dense_under : (Q : List ℕ) (V : List (List ℕ)) → IsDense V → IsDense (under Q V)
dense_under Q V d P x y w h l =
    let (u, i) = d (Q ++ P) x y w (rw append_assoc (from_In-under Q (P ++ x ∷ w) V h)) l in
    (u, In-under Q (P ++ y ∷ u) V (rw append_assoc at i))

pub dense_below : (Q : List ℕ) (f : List ℕ → List ℕ) (V : List (List ℕ)) → (some : (u : List ℕ) × In u (under Q V)) → IsDense V → IsDense (map f (under Q V)) → IsDense (map (below Q f) V)
dense_below Q f V some d e = graft_dense Q (λ v. In v V) (λ v. In v (map (below Q f) V)) (λ v. In v (map f (under Q V))) (grafted_below Q f V some) d e

-- prefix-freeness

pub apart_map : {A B : Type 0} (f : List A → List B) (v : List A) (V : List (List A)) → ((w : List A) → In w V → Apart v w → Apart (f v) (f w)) → ApartFromAll v V → ApartFromAll (f v) (map f V)
apart_map f v [] h a = tt
apart_map f v (w ∷ V) h a = (h w (inl refl) a.0, apart_map f v V (λ z i. h z (inr i)) a.1)

pub free_map : {A B : Type 0} (f : List A → List B) (V : List (List A)) → ((v w : List A) → In v V → In w V → Apart v w → Apart (f v) (f w)) → PrefixFree V → PrefixFree (map f V)
free_map f [] h p = tt
free_map f (v ∷ V) h p = (apart_map f v V (λ w i. h v w (inl refl) (inr i)) p.0, free_map f V (λ a b i j. h a b (inr i) (inr j)) p.1)

pub apart_below : (Q : List ℕ) (f : List ℕ → List ℕ) (v w : List ℕ) → ((a b : List ℕ) → v ≡ Q ++ a → w ≡ Q ++ b → Apart a b → Apart (f a) (f b)) → Apart v w → Apart (below Q f v) (below Q f w)
apart_below [] f v w h a = h v w refl refl a
apart_below (q ∷ Q) f [] w h a = absurd a
apart_below (q ∷ Q) f (x ∷ v) [] h a = absurd a
apart_below (q ∷ Q) f (x ∷ v) (y ∷ w) h a =
    elim (x == q) as (λ s. (x == q) ≡ s → Apart (if s then x ∷ below Q f v else x ∷ v) (if y == q then y ∷ below Q f w else y ∷ w)) [
      | true ↦ λ e. elim (y == q) as (λ t. (y == q) ≡ t → Apart (x ∷ below Q f v) (if t then y ∷ below Q f w else y ∷ w)) [
        | true ↦ λ e2. elim a [
          | inl ne ↦ inl ne
          | inr more ↦ inr (apart_below Q f v w (λ c d i j. let x1 = eqb-true x q e in let y1 = eqb-true y q e2 in h c d (cc) (cc)) more)
        ]
        | false ↦ λ e2. inl (λ same. let x1 = eqb-true x q e in eqb-false y q e2 (sym same ∙ x1))
      ] refl
      | false ↦ λ e. elim (y == q) as (λ t. (y == q) ≡ t → Apart (x ∷ v) (if t then y ∷ below Q f w else y ∷ w)) [
        | true ↦ λ e2. inl (λ same. let y1 = eqb-true y q e2 in eqb-false x q e (same ∙ y1))
        | false ↦ λ e2. a
      ] refl
    ] refl
