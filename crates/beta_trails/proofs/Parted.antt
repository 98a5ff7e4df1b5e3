-- Fission and fuse between neighbours of a trail.
use Rattle.std.proofs.Common.{◌≡◌, ◌≢◌, ℕ, zero, suc, ◌+◌, ◌-◌, ◌<◌, ◌≤◌, ◌==◌, ◌⊎◌, inl, inr, List, [], ◌∷◌, ◌++◌, length, take, map, refl, sym, ◌∙◌, ap, subst, arith}
use Rattle.std.proofs.lemmas.Bool.{eqb-true, eqb-false}
use Rattle.beta_tree.specs.Edits.{below, split_loop}
use Rattle.beta_tree.proofs.Places.{bool_tells, same_yes, same_no}
use Rattle.beta_tree.proofs.Loops.{split_earlier, split_later, split_before, split_from, split_leaf_stays}
use Rattle.beta_trails.specs.Trails.{Step, zeros, entry, next, trail, trail_end, Agreeing}
use Rattle.beta_trails.proofs.Steps.{next_here, next_later, zeros_next, length_next}

-- w is behind the place where the loop Q ++ p is parted at its child c
abbrev pub Past : List ℕ → ℕ → ℕ → List ℕ → Type 0
Past [] p c [] = ⊥
Past [] p c (x ∷ []) = p < x
Past [] p c (x ∷ (y ∷ w)) = (p < x) ⊎ ((p ≡ x) × (c ≤ y))
Past (q ∷ Q) p c [] = ⊥
Past (q ∷ Q) p c (x ∷ w) = (q < x) ⊎ ((q ≡ x) × Past Q p c w)

-- w is before that place
abbrev pub Early : List ℕ → ℕ → ℕ → List ℕ → Type 0
Early [] p c [] = ⊥
Early [] p c (x ∷ []) = x ≤ p
Early [] p c (x ∷ (y ∷ w)) = (x < p) ⊎ ((p ≡ x) × (y < c))
Early (q ∷ Q) p c [] = ⊥
Early (q ∷ Q) p c (x ∷ w) = (x < q) ⊎ ((q ≡ x) × Early Q p c w)

-- an edit below a prefix

below_same : (q : ℕ) (Q : List ℕ) (f : List ℕ → List ℕ) (w : List ℕ) → below (q ∷ Q) f (q ∷ w) ≡ q ∷ below Q f w
below_same q Q f w = rw (same_yes q) refl

below_later : (q x : ℕ) (Q : List ℕ) (f : List ℕ → List ℕ) (w : List ℕ) → q < x → below (q ∷ Q) f (x ∷ w) ≡ x ∷ w
below_later q x Q f w l = let ne : x ≢ q = omega arith in rw (same_no x q ne) refl

below_earlier : (q x : ℕ) (Q : List ℕ) (f : List ℕ → List ℕ) (w : List ℕ) → x < q → below (q ∷ Q) f (x ∷ w) ≡ x ∷ w
below_earlier q x Q f w l = let ne : x ≢ q = omega arith in rw (same_no x q ne) refl

-- what is before stays

early_leaf : (p c x : ℕ) → x ≤ p → split_loop p c (x ∷ []) ≡ x ∷ []
early_leaf p c x l =
    elim (bool_tells (x == p)) [
      | inl t ↦ let e : x ≡ p = eqb-true x p t in subst (λ z. split_loop p c (z ∷ []) ≡ z ∷ []) (sym e) (split_leaf_stays p c)
      | inr f ↦ let ne : x ≢ p = eqb-false x p f in split_earlier p c x [] (omega arith)
    ]

early_stays : (Q : List ℕ) (p c : ℕ) (w : List ℕ) → Early Q p c w → below Q (split_loop p c) w ≡ w
early_stays [] p c [] e = absurd e
early_stays [] p c (x ∷ []) e = early_leaf p c x e
early_stays [] p c (x ∷ (y ∷ w)) (inl l) = split_earlier p c x (y ∷ w) l
early_stays [] p c (x ∷ (y ∷ w)) (inr (e, l)) = subst (λ z. split_loop p c (z ∷ (y ∷ w)) ≡ z ∷ (y ∷ w)) e (split_before p c y w l)
early_stays (q ∷ Q) p c [] e = absurd e
early_stays (q ∷ Q) p c (x ∷ w) (inl l) = below_earlier q x Q (split_loop p c) w l
early_stays (q ∷ Q) p c (x ∷ w) (inr (e, h)) =
    subst (λ z. below (q ∷ Q) (split_loop p c) (z ∷ w) ≡ z ∷ w) e (below_same q Q (split_loop p c) w ∙ ap (λ z. q ∷ z) (early_stays Q p c w h))

-- the vector before one that is before is before

early_head : (p c x : ℕ) (w : List ℕ) → x < p → Early [] p c (x ∷ w)
early_head p c x [] l = omega arith
early_head p c x (y ∷ w) l = inl l

from_early_head : (p c x : ℕ) (w : List ℕ) → Early [] p c (x ∷ w) → x ≤ p
from_early_head p c x [] l = l
from_early_head p c x (y ∷ w) (inl l) = omega arith
from_early_head p c x (y ∷ w) (inr (e, l)) = omega arith

early_child : (p c x a l : ℕ) (w : List ℕ) → a < length w → Early [] p c (x ∷ next a l w) → Early [] p c (x ∷ w)
early_child p c x a l [] h e = absurd (omega arith)
early_child p c x zero l (y ∷ w) h e = elim (subst (λ z. Early [] p c (x ∷ z)) (next_here l y w) e) [ inl k ↦ inl k | inr (s, k) ↦ inr (s, omega arith) ]
early_child p c x (suc a) l (y ∷ w) h e = elim (subst (λ z. Early [] p c (x ∷ z)) (next_later a l y w) e) [ inl k ↦ inl k | inr (s, k) ↦ inr (s, k) ]

early_before : (Q : List ℕ) (p c a l : ℕ) (w : List ℕ) → a < length w → Early Q p c (next a l w) → Early Q p c w
early_before Q p c a l [] h e = absurd (omega arith)
early_before [] p c zero l (x ∷ w) h e =
    let k = from_early_head p c (x + 1) (zeros (l - 1)) (subst (Early [] p c) (next_here l x w) e) in
    early_head p c x w (omega arith)
early_before [] p c (suc a) l (x ∷ w) h e = early_child p c x a (l - 1) w (omega arith) (subst (Early [] p c) (next_later a l x w) e)
early_before (q ∷ Q) p c zero l (x ∷ w) h e =
    elim (subst (Early (q ∷ Q) p c) (next_here l x w) e) [ inl k ↦ inl (omega arith) | inr (s, k) ↦ inl (omega arith) ]
early_before (q ∷ Q) p c (suc a) l (x ∷ w) h e =
    elim (subst (Early (q ∷ Q) p c) (next_later a l x w) e) [ inl k ↦ inl k | inr (s, k) ↦ inr (s, early_before Q p c a (l - 1) w (omega arith) k) ]

early_start : (Q : List ℕ) (p c : ℕ) (v : List ℕ) (steps : List Step) → Agreeing (length v) steps → Early Q p c (trail_end v steps) → Early Q p c v
early_start Q p c v [] g e = e
early_start Q p c v ((a, l) ∷ more) (h, k, g) e =
    early_before Q p c a l v h (early_start Q p c (next a l v) more (subst (λ n. Agreeing n more) (sym (length_next a l v h k)) g) e)

-- behind the place a step leads on behind it, and the fission goes through it

past_head : (p c x : ℕ) (w : List ℕ) → p < x → Past [] p c (x ∷ w)
past_head p c x [] l = l
past_head p c x (y ∷ w) l = inl l

from_past_head : (p c x : ℕ) (w : List ℕ) → Past [] p c (x ∷ w) → p ≤ x
from_past_head p c x [] l = omega arith
from_past_head p c x (y ∷ w) (inl l) = omega arith
from_past_head p c x (y ∷ w) (inr (e, l)) = omega arith

past_child : (p c x a l : ℕ) (w : List ℕ) → a < length w → Past [] p c (x ∷ w) → Past [] p c (x ∷ next a l w)
past_child p c x a l [] h e = absurd (omega arith)
past_child p c x zero l (y ∷ w) h e = subst (λ z. Past [] p c (x ∷ z)) (sym (next_here l y w)) (elim e [ inl k ↦ inl k | inr (s, k) ↦ inr (s, omega arith) ])
past_child p c x (suc a) l (y ∷ w) h e = subst (λ z. Past [] p c (x ∷ z)) (sym (next_later a l y w)) (elim e [ inl k ↦ inl k | inr (s, k) ↦ inr (s, k) ])

past_next : (Q : List ℕ) (p c a l : ℕ) (w : List ℕ) → a < length w → Past Q p c w → Past Q p c (next a l w)
past_next Q p c a l [] h e = absurd (omega arith)
past_next [] p c zero l (x ∷ w) h e =
    let k = from_past_head p c x w e in
    subst (Past [] p c) (sym (next_here l x w)) (past_head p c (x + 1) (zeros (l - 1)) (omega arith))
past_next [] p c (suc a) l (x ∷ w) h e = subst (Past [] p c) (sym (next_later a l x w)) (past_child p c x a (l - 1) w (omega arith) e)
past_next (q ∷ Q) p c zero l (x ∷ w) h e =
    subst (Past (q ∷ Q) p c) (sym (next_here l x w)) (elim e [ inl k ↦ inl (omega arith) | inr (s, k) ↦ inl (omega arith) ])
past_next (q ∷ Q) p c (suc a) l (x ∷ w) h e =
    subst (Past (q ∷ Q) p c) (sym (next_later a l x w)) (elim e [ inl k ↦ inl k | inr (s, k) ↦ inr (s, past_next Q p c a (l - 1) w (omega arith) k) ])

-- the fission of a vector that is behind in its first entry or its child
moved_head : (p c x : ℕ) (w : List ℕ) → Past [] p c (x ∷ w) → (r : List ℕ) × (split_loop p c (x ∷ w) ≡ (x + 1) ∷ r)
moved_head p c x [] l = ([], split_later p c x [] l)
moved_head p c x (y ∷ w) (inl l) = (y ∷ w, split_later p c x (y ∷ w) l)
moved_head p c x (y ∷ w) (inr (e, l)) = ((y - c) ∷ w, subst (λ z. split_loop p c (z ∷ (y ∷ w)) ≡ (z + 1) ∷ ((y - c) ∷ w)) e (split_from p c y w l))

moves_later : (p c a l x : ℕ) (w : List ℕ) → p < x → split_loop p c (x ∷ next a (l - 1) w) ≡ next (suc a) l (split_loop p c (x ∷ w))
moves_later p c a l x w h =
    split_later p c x (next a (l - 1) w) h ∙ (sym (next_later a l (x + 1) w) ∙ ap (next (suc a) l) (sym (split_later p c x w h)))

moves_child : (p c a l : ℕ) (y : ℕ) (w : List ℕ) → a < length (y ∷ w) → c ≤ y → split_loop p c (p ∷ next a (l - 1) (y ∷ w)) ≡ next (suc a) l (split_loop p c (p ∷ (y ∷ w)))
moves_child p c zero l y w h k =
    let move : y + 1 - c ≡ y - c + 1 = omega arith in
    ap (λ z. split_loop p c (p ∷ z)) (next_here (l - 1) y w)
    ∙ (split_from p c (y + 1) (zeros (l - 1 - 1)) (omega arith)
    ∙ (ap (λ n. (p + 1) ∷ (n ∷ zeros (l - 1 - 1))) move
    ∙ (ap (λ z. (p + 1) ∷ z) (sym (next_here (l - 1) (y - c) w))
    ∙ (sym (next_later 0 l (p + 1) ((y - c) ∷ w)) ∙ ap (next (suc 0) l) (sym (split_from p c y w k))))))
moves_child p c (suc a) l y w h k =
    ap (λ z. split_loop p c (p ∷ z)) (next_later a (l - 1) y w)
    ∙ (split_from p c y (next a (l - 1 - 1) w) k
    ∙ (ap (λ z. (p + 1) ∷ z) (sym (next_later a (l - 1) (y - c) w))
    ∙ (sym (next_later (suc a) l (p + 1) ((y - c) ∷ w)) ∙ ap (next (suc (suc a)) l) (sym (split_from p c y w k)))))

moves_below : (p c a l x : ℕ) (w : List ℕ) → a < length w → Past [] p c (x ∷ w) → split_loop p c (x ∷ next a (l - 1) w) ≡ next (suc a) l (split_loop p c (x ∷ w))
moves_below p c a l x [] h e = absurd (omega arith)
moves_below p c a l x (y ∷ w) h (inl k) = moves_later p c a l x (y ∷ w) k
moves_below p c a l x (y ∷ w) h (inr (e, k)) =
    subst (λ z. split_loop p c (z ∷ next a (l - 1) (y ∷ w)) ≡ next (suc a) l (split_loop p c (z ∷ (y ∷ w)))) e (moves_child p c a l y w h k)

moves_next : (Q : List ℕ) (p c a l : ℕ) (w : List ℕ) → a < length w → Past Q p c w → below Q (split_loop p c) (next a l w) ≡ next a l (below Q (split_loop p c) w)
moves_next Q p c a l [] h e = absurd (omega arith)
moves_next [] p c zero l (x ∷ w) h e =
    let (r, is) = moved_head p c x w e in
    let low = from_past_head p c x w e in
    ap (split_loop p c) (next_here l x w)
    ∙ (split_later p c (x + 1) (zeros (l - 1)) (omega arith) ∙ (sym (next_here l (x + 1) r) ∙ ap (next 0 l) (sym is)))
moves_next [] p c (suc a) l (x ∷ w) h e = ap (split_loop p c) (next_later a l x w) ∙ moves_below p c a l x w (omega arith) e
moves_next (q ∷ Q) p c zero l (x ∷ w) h (inl k) =
    ap (below (q ∷ Q) (split_loop p c)) (next_here l x w)
    ∙ (below_later q (x + 1) Q (split_loop p c) (zeros (l - 1)) (omega arith)
    ∙ (sym (next_here l x w) ∙ ap (next 0 l) (sym (below_later q x Q (split_loop p c) w k))))
moves_next (q ∷ Q) p c zero l (x ∷ w) h (inr (e, k)) =
    subst (λ z. below (q ∷ Q) (split_loop p c) (next 0 l (z ∷ w)) ≡ next 0 l (below (q ∷ Q) (split_loop p c) (z ∷ w))) e
    (ap (below (q ∷ Q) (split_loop p c)) (next_here l q w)
    ∙ (below_later q (q + 1) Q (split_loop p c) (zeros (l - 1)) (omega arith)
    ∙ (sym (next_here l q (below Q (split_loop p c) w)) ∙ ap (next 0 l) (sym (below_same q Q (split_loop p c) w)))))
moves_next (q ∷ Q) p c (suc a) l (x ∷ w) h (inl k) =
    ap (below (q ∷ Q) (split_loop p c)) (next_later a l x w)
    ∙ (below_later q x Q (split_loop p c) (next a (l - 1) w) k
    ∙ (sym (next_later a l x w) ∙ ap (next (suc a) l) (sym (below_later q x Q (split_loop p c) w k))))
moves_next (q ∷ Q) p c (suc a) l (x ∷ w) h (inr (e, k)) =
    subst (λ z. below (q ∷ Q) (split_loop p c) (next (suc a) l (z ∷ w)) ≡ next (suc a) l (below (q ∷ Q) (split_loop p c) (z ∷ w))) e
    (ap (below (q ∷ Q) (split_loop p c)) (next_later a l q w)
    ∙ (below_same q Q (split_loop p c) (next a (l - 1) w)
    ∙ (ap (λ z. q ∷ z) (moves_next Q p c a (l - 1) w (omega arith) k)
    ∙ (sym (next_later a l q (below Q (split_loop p c) w)) ∙ ap (next (suc a) l) (sym (below_same q Q (split_loop p c) w))))))

past_trail : (Q : List ℕ) (p c : ℕ) (w : List ℕ) (steps : List Step) → Agreeing (length w) steps → Past Q p c w → map (below Q (split_loop p c)) (trail w steps) ≡ trail (below Q (split_loop p c) w) steps
past_trail Q p c w [] g e = refl
past_trail Q p c w ((a, l) ∷ more) (h, k, g) e =
    ap (λ t. below Q (split_loop p c) w ∷ t)
    (past_trail Q p c (next a l w) more (subst (λ n. Agreeing n more) (sym (length_next a l w h k)) g) (past_next Q p c a l w h e)
    ∙ ap (λ z. trail z more) (moves_next Q p c a l w h e))

-- the vector at a boundary, and the next one

-- the loop before the last entry of what u and its neighbour agree in, n + 1 entries
abbrev pub outer : ℕ → List ℕ → List ℕ
outer n u = take n u

pub end_early : (n : ℕ) (u : List ℕ) → suc n < length u → Early (outer n u) (entry u n) (entry u (suc n) + 1) u
end_early n [] h = absurd (omega arith)
end_early zero (x ∷ []) h = absurd (omega arith)
end_early zero (x ∷ (y ∷ u)) h = inr (refl, omega arith)
end_early (suc n) (x ∷ u) h = inr (refl, end_early n u (omega arith))

pub next_past : (n l : ℕ) (u : List ℕ) → suc n < length u → Past (outer n u) (entry u n) (entry u (suc n) + 1) (next (suc n) l u)
next_past n l [] h = absurd (omega arith)
next_past zero l (x ∷ []) h = absurd (omega arith)
next_past zero l (x ∷ (y ∷ u)) h = inr (refl, omega arith)
next_past (suc n) l (x ∷ u) h =
    subst (Past (outer (suc n) (x ∷ u)) (entry u n) (entry u (suc n) + 1)) (sym (next_later (suc n) l x u)) (inr (refl, next_past n (l - 1) u (omega arith)))

pub next_parted : (n l : ℕ) (u : List ℕ) → suc n < length u → suc n < l → below (outer n u) (split_loop (entry u n) (entry u (suc n) + 1)) (next (suc n) l u) ≡ next n l u
next_parted n l [] h k = absurd (omega arith)
next_parted zero l (x ∷ []) h k = absurd (omega arith)
next_parted zero l (x ∷ (y ∷ u)) h k =
    let none : y + 1 - (y + 1) ≡ 0 = omega arith in
    ap (split_loop x (y + 1)) (next_later 0 l x (y ∷ u) ∙ ap (λ z. x ∷ z) (next_here (l - 1) y u))
    ∙ (split_from x (y + 1) (y + 1) (zeros (l - 1 - 1)) (omega arith)
    ∙ (ap (λ n. (x + 1) ∷ (n ∷ zeros (l - 1 - 1))) none
    ∙ (ap (λ z. (x + 1) ∷ z) (sym (zeros_next (l - 1) (omega arith))) ∙ sym (next_here l x (y ∷ u)))))
next_parted (suc n) l (x ∷ u) h k =
    ap (below (x ∷ outer n u) (split_loop (entry u n) (entry u (suc n) + 1))) (next_later (suc n) l x u)
    ∙ (below_same x (outer n u) (split_loop (entry u n) (entry u (suc n) + 1)) (next (suc n) (l - 1) u)
    ∙ (ap (λ z. x ∷ z) (next_parted n (l - 1) u (omega arith) (omega arith)) ∙ sym (next_later n l x u)))

-- a fission at the boundary behind these steps

pub end_long : (v : List ℕ) (before more : List Step) (n l : ℕ) → Agreeing (length v) (before ++ (n, l) ∷ more) → (n < length (trail_end v before)) × (n < l) × Agreeing l more × Agreeing (length v) before
end_long v [] more n l (h, k, g) = (h, k, g, tt)
end_long v ((a, m) ∷ before) more n l (h, k, g) =
    let e = length_next a m v h k in
    let (i, j, o, b) = end_long (next a m v) before more n l (subst (λ z. Agreeing z (before ++ (n, l) ∷ more)) (sym e) g) in
    (i, j, o, (h, k, subst (λ z. Agreeing z before) e b))

pub parted_from : (Q : List ℕ) (p c n l : ℕ) (v : List ℕ) (before more : List Step) → Agreeing (length v) (before ++ (suc n, l) ∷ more) → Early Q p c (trail_end v before) → Past Q p c (next (suc n) l (trail_end v before)) → below Q (split_loop p c) (next (suc n) l (trail_end v before)) ≡ next n l (trail_end v before) → map (below Q (split_loop p c)) (trail v (before ++ (suc n, l) ∷ more)) ≡ trail v (before ++ (n, l) ∷ more)
parted_from Q p c n l v [] more (h, k, g) early past is =
    let rest = past_trail Q p c (next (suc n) l v) more (subst (λ z. Agreeing z more) (sym (length_next (suc n) l v h k)) g) past ∙ ap (λ z. trail z more) is in
    ap (λ z. z ∷ map (below Q (split_loop p c)) (trail (next (suc n) l v) more)) (early_stays Q p c v early) ∙ ap (λ t. v ∷ t) rest
parted_from Q p c n l v ((a, m) ∷ before) more (h, k, g) early past is =
    let e = length_next a m v h k in
    let good : Agreeing (length (next a m v)) (before ++ (suc n, l) ∷ more) = subst (λ z. Agreeing z (before ++ (suc n, l) ∷ more)) (sym e) g in
    let (i, j, o, b) = end_long (next a m v) before more (suc n) l good in
    let here : below Q (split_loop p c) v ≡ v = early_stays Q p c v (early_before Q p c a m v h (early_start Q p c (next a m v) before b early)) in
    let rest = parted_from Q p c n l (next a m v) before more good early past is in
    ap (λ z. z ∷ map (below Q (split_loop p c)) (trail (next a m v) (before ++ (suc n, l) ∷ more))) here ∙ ap (λ t. v ∷ t) rest
