-- The least loop of length n with two children is the one at the first boundary of a trail where n entries agree.
use Rattle.std.proofs.Common.{◌≡◌, ℕ, zero, suc, ◌+◌, ◌-◌, ◌<◌, ◌≤◌, ◌^◌, nat_lt, nat_le, true, false, ◌&&◌, ◌⊎◌, inl, inr, Some, None, List, [], ◌∷◌, ◌++◌, length, take, refl, sym, ◌∙◌, ap, subst, arith}
use Rattle.std.proofs.lemmas.Bool.{lt-ltb, ltb-true, leb-true, leb-false}
use Rattle.beta_tree.specs.Vectors.{In, IsDense, children_of}
use Rattle.beta_tree.specs.Laws.{Before}
use Rattle.beta_tree.proofs.Places.{bool_tells}
use Rattle.beta_tree.proofs.Trees.{child_below, child_exists}
use Rattle.beta_trails.specs.Trails.{Step, zeros, entry, next, trail, trail_end, Agreeing, AllBelow}
use Rattle.beta_trails.proofs.Steps.{next_here, next_later, length_zeros, length_next, before_trans, before_next}
use Rattle.beta_trails.proofs.Dense.{trail_is_tree, trail_after}
use Rattle.beta_trails.proofs.Firsts.{zeros_entry, next_entry}
use Rattle.beta_trails.proofs.Boundaries.{next_in}
use Rattle.chlore_recover.specs.Strategy.{least_wide_loop}

-- a vector is its first n entries, then entry n and the rest
cut_at : (n : ℕ) (v : List ℕ) → n < length v → (r : List ℕ) × (v ≡ take n v ++ entry v n ∷ r)
cut_at n [] h = absurd (omega arith)
cut_at zero (x ∷ v) h = (v, refl)
cut_at (suc n) (x ∷ v) h = let (r, e) = cut_at n v (omega arith) in (r, ap (λ t. x ∷ t) e)

-- the order of vectors that begin with P goes by what follows

before_child : (P : List ℕ) (x y : ℕ) (w r : List ℕ) → Before (P ++ x ∷ w) (P ++ y ∷ r) → x ≤ y
before_child [] x y w r (inl l) = omega arith
before_child [] x y w r (inr (e, b)) = omega arith
before_child (p ∷ P) x y w r (inl l) = absurd (omega arith)
before_child (p ∷ P) x y w r (inr (e, b)) = before_child P x y w r b

same_child : (P : List ℕ) (x y : ℕ) (w r : List ℕ) → P ++ x ∷ w ≡ P ++ y ∷ r → x ≡ y
same_child [] x y w r e = cc
same_child (p ∷ P) x y w r e = same_child P x y w r (cc)

not_before_front : (P w : List ℕ) → Before P (P ++ w) → ⊥
not_before_front [] w b = b
not_before_front (p ∷ P) w (inl l) = omega arith
not_before_front (p ∷ P) w (inr (e, b)) = not_before_front P w b

-- the first n entries of a vector are before a next one that agrees in fewer
front_before : (n a l : ℕ) (v : List ℕ) → a < length v → a < n → Before (take n v) (next a l v)
front_before n a l [] h k = absurd (omega arith)
front_before zero a l (x ∷ v) h k = absurd (omega arith)
front_before (suc n) zero l (x ∷ v) h k = subst (λ z. Before (x ∷ take n v) z) (sym (next_here l x v)) (inl (omega arith))
front_before (suc n) (suc a) l (x ∷ v) h k =
    subst (λ z. Before (x ∷ take n v) z) (sym (next_later a l x v)) (inr (refl, front_before n a (l - 1) v (omega arith) (omega arith)))

-- where the vectors behind v agree with it in fewer than n entries, the loop of its first n entries has one child
one_child : (n : ℕ) (v : List ℕ) (V : List (List ℕ)) → IsDense V → entry v n ≡ 0 → ((m : List ℕ) → In m V → (Before m v ⊎ (v ≡ m)) ⊎ Before (take n v) m) → (nat_lt n (length v) && nat_le 2 (children_of (take n v) V)) ≡ false
one_child n v V d e all =
    elim (bool_tells (nat_lt n (length v))) [
      | inr f ↦ rw f refl
      | inl long ↦ elim (bool_tells (nat_le 2 (children_of (take n v) V))) [
        | inr f ↦ rw (long, f) refl
        | inl t ↦
            let two = leb-true 2 (children_of (take n v) V) t in
            let (w, i) = child_exists (take n v) 1 V d (omega arith) in
            let (r, is) = cut_at n v (ltb-true n (length v) long) in
            let zero_child : v ≡ take n v ++ 0 ∷ r = is ∙ ap (λ x. take n v ++ x ∷ r) e in
            absurd (elim (all (take n v ++ 1 ∷ w) i) [
              | inl (inl b) ↦ let k = before_child (take n v) 1 0 w r (subst (λ z. Before (take n v ++ 1 ∷ w) z) zero_child b) in omega arith
              | inl (inr s) ↦ let k = same_child (take n v) 0 1 r w (sym zero_child ∙ s) in omega arith
              | inr b ↦ not_before_front (take n v) (1 ∷ w) b
            ])
      ]
    ]

-- what was walked past is before
abbrev pub Walked : List (List ℕ) → List ℕ → List Step → Type 0
Walked V v steps = (m : List ℕ) → In m V → Before m v ⊎ In m (trail v steps)

walk_on : (V : List (List ℕ)) (v : List ℕ) (a l : ℕ) (more : List Step) → a < length v → Walked V v ((a, l) ∷ more) → Walked V (next a l v) more
walk_on V v a l more h walked m i =
    elim (walked m i) [
      | inl b ↦ inl (before_trans m v (next a l v) b (before_next a l v h))
      | inr (inl e) ↦ inl (subst (λ z. Before z (next a l v)) e (before_next a l v h))
      | inr (inr j) ↦ inr j
    ]

-- a vector whose next one agrees with it in fewer than n entries is passed
passed : (n a l : ℕ) (V : List (List ℕ)) (v : List ℕ) (more : List Step) → IsDense V → entry v n ≡ 0 → a < n → Agreeing (length v) ((a, l) ∷ more) → Walked V v ((a, l) ∷ more) → (nat_lt n (length v) && nat_le 2 (children_of (take n v) V)) ≡ false
passed n a l V v more d e low (h, k, g) walked =
    one_child n v V d e (λ m i. elim (walked m i) [
      | inl b ↦ inl (inl b)
      | inr (inl s) ↦ inl (inr s)
      | inr (inr j) ↦ elim (trail_after (next a l v) more m (subst (λ z. Agreeing z more) (sym (length_next a l v h k)) g) j) [
        | inl s ↦ inr (subst (λ z. Before (take n v) z) s (front_before n a l v h low))
        | inr b ↦ inr (before_trans (take n v) (next a l v) m (front_before n a l v h low) b)
      ]
    ])

-- no loop of length n has two children
none_from : (n : ℕ) (V : List (List ℕ)) (v : List ℕ) (steps : List Step) → IsDense V → entry v n ≡ 0 → Agreeing (length v) steps → AllBelow n steps → Walked V v steps → least_wide_loop n V (trail v steps) ≡ None
none_from n V v [] d e g b walked =
    rw (one_child n v V d e (λ m i. elim (walked m i) [ inl c ↦ inl (inl c) | inr (inl s) ↦ inl (inr s) | inr (inr j) ↦ absurd j ])) refl
none_from n V v ((a, l) ∷ more) d e (h, k, g) (low, b) walked =
    rw (passed n a l V v more d e low (h, k, g) walked)
    (none_from n V (next a l v) more d (next_entry a l n v h low) (subst (λ z. Agreeing z more) (sym (length_next a l v h k)) g) b (walk_on V v a l more h walked))

-- the loop of the first n entries of a vector that agrees with its next one in n entries has two children
two_children : (n l : ℕ) (v : List ℕ) (V : List (List ℕ)) → IsDense V → n < length v → In (next n l v) V → (nat_lt n (length v) && nat_le 2 (children_of (take n v) V)) ≡ true
two_children n l v V d h i =
    let many = child_below (take n v) (entry v n + 1) (zeros (l - n - 1)) V d i in
    elim (bool_tells (nat_le 2 (children_of (take n v) V))) [
      | inl t ↦ rw (lt-ltb n (length v) h, t) refl
      | inr f ↦ let few = leb-false 2 (children_of (take n v) V) f in absurd (omega arith)
    ]

-- the first boundary where n entries agree
first_from : (n l : ℕ) (V : List (List ℕ)) (v : List ℕ) (before more : List Step) → IsDense V → entry v n ≡ 0 → Agreeing (length v) (before ++ (n, l) ∷ more) → AllBelow n before → Walked V v (before ++ (n, l) ∷ more) → In (next n l (trail_end v before)) V → least_wide_loop n V (trail v (before ++ (n, l) ∷ more)) ≡ Some (take n (trail_end v before))
first_from n l V v [] more d e (h, k, g) b walked i = rw (two_children n l v V d h i) refl
first_from n l V v ((a, o) ∷ before) more d e (h, k, g) (low, b) walked i =
    rw (passed n a o V v (before ++ (n, l) ∷ more) d e low (h, k, g) walked)
    (first_from n l V (next a o v) before more d (next_entry a o n v h low) (subst (λ z. Agreeing z (before ++ (n, l) ∷ more)) (sym (length_next a o v h k)) g) b
    (walk_on V v a o (before ++ (n, l) ∷ more) h walked) i)

-- agreements below n: no loop of length n has two children
pub none_is_wide : (m n : ℕ) (steps : List Step) → 0 < m → length steps + 1 < 2 ^ 32 → Agreeing m steps → AllBelow n steps → least_wide_loop n (trail (zeros m) steps) (trail (zeros m) steps) ≡ None
none_is_wide m n steps some few g b =
    let t = trail_is_tree m steps some few g in
    none_from n (trail (zeros m) steps) (zeros m) steps t.dense (zeros_entry m n) (subst (λ z. Agreeing z steps) (sym (length_zeros m)) g) b (λ o i. inr i)

-- agreements below n, then n: the loop at that boundary is the least of length n with two children
pub first_is_least : (m n l : ℕ) (before more : List Step) → 0 < m → length (before ++ (n, l) ∷ more) + 1 < 2 ^ 32 → Agreeing m (before ++ (n, l) ∷ more) → AllBelow n before → least_wide_loop n (trail (zeros m) (before ++ (n, l) ∷ more)) (trail (zeros m) (before ++ (n, l) ∷ more)) ≡ Some (take n (trail_end (zeros m) before))
first_is_least m n l before more some few g b =
    let t = trail_is_tree m (before ++ (n, l) ∷ more) some few g in
    first_from n l (trail (zeros m) (before ++ (n, l) ∷ more)) (zeros m) before more t.dense (zeros_entry m n)
    (subst (λ z. Agreeing z (before ++ (n, l) ∷ more)) (sym (length_zeros m)) g) b (λ o i. inr i) (next_in (zeros m) before more n l)
