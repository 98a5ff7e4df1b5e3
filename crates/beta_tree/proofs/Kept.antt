-- Fission, fuse and a new level keep the lexicographic order of the vectors.
use Rattle.std.proofs.Common.{◌≡◌, ◌≢◌, ℕ, zero, suc, ◌+◌, ◌-◌, ◌<◌, ◌≤◌, ◌==◌, nat_lt, true, false, if◌then◌else◌, inl, inr, List, [], ◌∷◌, ◌++◌, length, refl, sym, ◌∙◌, ap, subst, arith}
use Rattle.std.proofs.lemmas.Bool.{eqb-true, eqb-false, ltb-true, ltb-false, lt-ltb}
use Rattle.beta_tree.specs.Vectors.{under, children_of, In, is_loop}
use Rattle.beta_tree.specs.Edits.{front, last, below, split_loop, join_loops, make_room, moved_up}
use Rattle.beta_tree.specs.Laws.{Before, FissionKeepsOrder, FuseKeepsOrder, LeafKeepsOrder, LevelKeepsOrder}
use Rattle.beta_tree.proofs.Places.{bool_tells, In-under}
use Rattle.beta_tree.proofs.Loops.{split_earlier, split_later, split_before, split_from, split_leaf_stays, join_earlier, join_later, join_next, join_next_leaf}
use Rattle.beta_tree.proofs.Fuses.{JoinsAt}
use Rattle.beta_tree.proofs.Trees.{joins_at}
use Rattle.beta_tree.proofs.Undone.{fuse_facts, loop_parts}
use Rattle.beta_tree.proofs.Levels.{put_zero, with_level_below}

-- an edit below a prefix keeps the order where it keeps it there
before_below : (Q : List ℕ) (f : List ℕ → List ℕ) (u v : List ℕ) → ((a b : List ℕ) → u ≡ Q ++ a → v ≡ Q ++ b → Before a b → Before (f a) (f b)) → Before u v → Before (below Q f u) (below Q f v)
before_below [] f u v h b = h u v refl refl b
before_below (q ∷ Q) f [] v h b = absurd b
before_below (q ∷ Q) f (x ∷ u) [] h b = absurd b
before_below (q ∷ Q) f (x ∷ u) (y ∷ v) h b =
    elim (x == q) as (λ s. (x == q) ≡ s → Before (if s then x ∷ below Q f u else x ∷ u) (if y == q then y ∷ below Q f v else y ∷ v)) [
      | true ↦ λ e. elim (y == q) as (λ t. (y == q) ≡ t → Before (x ∷ below Q f u) (if t then y ∷ below Q f v else y ∷ v)) [
        | true ↦ λ g. elim b [
          | inl l ↦ inl l
          | inr (same, more) ↦ inr (same, before_below Q f u v (λ c d i j. let x1 = eqb-true x q e in let y1 = eqb-true y q g in h c d (cc) (cc)) more)
        ]
        | false ↦ λ g. elim b [
          | inl l ↦ inl l
          | inr (same, more) ↦ absurd (let x1 = eqb-true x q e in eqb-false y q g (sym same ∙ x1))
        ]
      ] refl
      | false ↦ λ e. elim (y == q) as (λ t. (y == q) ≡ t → Before (x ∷ u) (if t then y ∷ below Q f v else y ∷ v)) [
        | true ↦ λ g. elim b [
          | inl l ↦ inl l
          | inr (same, more) ↦ absurd (let y1 = eqb-true y q g in eqb-false x q e (same ∙ y1))
        ]
        | false ↦ λ g. b
      ] refl
    ] refl

before_heads : (x y : ℕ) (u v s t : List ℕ) → s ≡ x ∷ u → t ≡ y ∷ v → x < y → Before s t
before_heads x y u v s t e g l = subst (λ z. Before z t) (sym e) (subst (λ z. Before (x ∷ u) z) (sym g) (inl l))

before_tails : (x y : ℕ) (u v s t : List ℕ) → s ≡ x ∷ u → t ≡ y ∷ v → x ≡ y → Before u v → Before s t
before_tails x y u v s t e g same b = subst (λ z. Before z t) (sym e) (subst (λ z. Before (x ∷ u) z) (sym g) (inr (same, b)))

no_before_nil : (u : List ℕ) → Before u [] → ⊥
no_before_nil [] b = b
no_before_nil (x ∷ u) b = b

-- fission

-- the entry that a vector has after the fission is about the one that it had
record SplitHead (p c x : ℕ) (w : List ℕ) : Type 0 where
  head : ℕ
  rest : List ℕ
  is : split_loop p c (x ∷ w) ≡ head ∷ rest
  low : x ≤ head
  high : head ≤ x + 1
  earlier : x < p → head ≡ x
  later : p < x → head ≡ x + 1

split_head_same : (p c : ℕ) (w : List ℕ) → SplitHead p c p w
split_head_same p c [] = record { head = p; rest = []; is = split_leaf_stays p c; low = omega arith; high = omega arith; earlier = λ l. refl; later = λ l. absurd (omega arith) }
split_head_same p c (y ∷ w) =
    elim (bool_tells (nat_lt y c)) [
      | inl t ↦ record { head = p; rest = y ∷ w; is = split_before p c y w (ltb-true y c t); low = omega arith; high = omega arith; earlier = λ l. refl; later = λ l. absurd (omega arith) }
      | inr f ↦ record { head = p + 1; rest = (y - c) ∷ w; is = split_from p c y w (ltb-false y c f); low = omega arith; high = omega arith; earlier = λ l. absurd (omega arith); later = λ l. refl }
    ]

split_head : (p c x : ℕ) (w : List ℕ) → SplitHead p c x w
split_head p c x w =
    elim (bool_tells (nat_lt x p)) [
      | inl t ↦ let l = ltb-true x p t in record { head = x; rest = w; is = split_earlier p c x w l; low = omega arith; high = omega arith; earlier = λ m. refl; later = λ m. absurd (omega arith) }
      | inr f ↦ elim (bool_tells (nat_lt p x)) [
        | inl t ↦ let l = ltb-true p x t in record { head = x + 1; rest = w; is = split_later p c x w l; low = omega arith; high = omega arith; earlier = λ m. absurd (omega arith); later = λ m. refl }
        | inr g ↦
            let a = ltb-false x p f in
            let b = ltb-false p x g in
            let same : p ≡ x = omega arith in
            subst (λ z. SplitHead p c z w) same (split_head_same p c w)
      ]
    ]

split_less : (p c x y : ℕ) (u v : List ℕ) → x < y → Before (split_loop p c (x ∷ u)) (split_loop p c (y ∷ v))
split_less p c x y u v l =
    let s = split_head p c x u in
    let t = split_head p c y v in
    let less : s.head < t.head = elim (bool_tells (nat_lt p y)) [
      | inl k ↦ let a = t.later (ltb-true p y k) in let b = s.high in omega arith
      | inr f ↦ let a = ltb-false p y f in let m : x < p = omega arith in let b = s.earlier m in let d = t.low in omega arith
    ] in
    before_heads s.head t.head s.rest t.rest (split_loop p c (x ∷ u)) (split_loop p c (y ∷ v)) s.is t.is less

split_children_before : (p c : ℕ) (u v : List ℕ) → Before u v → Before (split_loop p c (p ∷ u)) (split_loop p c (p ∷ v))
split_children_before p c [] v b = absurd b
split_children_before p c (x ∷ u) [] b = absurd b
split_children_before p c (x ∷ u) (y ∷ v) b =
    elim (bool_tells (nat_lt x c)) [
      | inl s ↦ elim (bool_tells (nat_lt y c)) [
        | inl t ↦ before_tails p p (x ∷ u) (y ∷ v) (split_loop p c (p ∷ (x ∷ u))) (split_loop p c (p ∷ (y ∷ v))) (split_before p c x u (ltb-true x c s)) (split_before p c y v (ltb-true y c t)) refl b
        | inr f ↦ before_heads p (p + 1) (x ∷ u) ((y - c) ∷ v) (split_loop p c (p ∷ (x ∷ u))) (split_loop p c (p ∷ (y ∷ v))) (split_before p c x u (ltb-true x c s)) (split_from p c y v (ltb-false y c f)) (omega arith)
      ]
      | inr g ↦
          let high = ltb-false x c g in
          let from : c ≤ y = elim b [ inl l ↦ omega arith | inr (same, more) ↦ omega arith ] in
          let rest : Before ((x - c) ∷ u) ((y - c) ∷ v) = elim b [ inl l ↦ inl (omega arith) | inr (same, more) ↦ inr (omega arith, more) ] in
          before_tails (p + 1) (p + 1) ((x - c) ∷ u) ((y - c) ∷ v) (split_loop p c (p ∷ (x ∷ u))) (split_loop p c (p ∷ (y ∷ v))) (split_from p c x u high) (split_from p c y v from) refl rest
    ]

split_same : (p c x : ℕ) (u v : List ℕ) → Before u v → Before (split_loop p c (x ∷ u)) (split_loop p c (x ∷ v))
split_same p c x u v b =
    elim (bool_tells (nat_lt x p)) [
      | inl t ↦ let l = ltb-true x p t in before_tails x x u v (split_loop p c (x ∷ u)) (split_loop p c (x ∷ v)) (split_earlier p c x u l) (split_earlier p c x v l) refl b
      | inr f ↦ elim (bool_tells (nat_lt p x)) [
        | inl t ↦ let l = ltb-true p x t in before_tails (x + 1) (x + 1) u v (split_loop p c (x ∷ u)) (split_loop p c (x ∷ v)) (split_later p c x u l) (split_later p c x v l) refl b
        | inr g ↦
            let k = ltb-false x p f in
            let m = ltb-false p x g in
            let same : p ≡ x = omega arith in
            subst (λ z. Before (split_loop p c (z ∷ u)) (split_loop p c (z ∷ v))) same (split_children_before p c u v b)
      ]
    ]

split_keeps : (p c : ℕ) (u v : List ℕ) → Before u v → Before (split_loop p c u) (split_loop p c v)
split_keeps p c [] v b = absurd b
split_keeps p c (x ∷ u) [] b = absurd b
split_keeps p c (x ∷ u) (y ∷ v) (inl l) = split_less p c x y u v l
split_keeps p c (x ∷ u) (y ∷ v) (inr (same, more)) = subst (λ z. Before (split_loop p c (x ∷ u)) (split_loop p c (z ∷ v))) same (split_same p c x u v more)

pub fission_keeps_order : FissionKeepsOrder
fission_keeps_order P c u v b = before_below (front P) (split_loop (last P) c) u v (λ a d i j. split_keeps (last P) c a d) b

-- a new level

zero_keeps : (j : ℕ) (u v : List ℕ) → Before u v → Before (put_zero j u) (put_zero j v)
zero_keeps j [] v b = absurd b
zero_keeps j (x ∷ u) [] b = absurd b
zero_keeps zero (x ∷ u) (y ∷ v) b = inr (refl, b)
zero_keeps (suc j) (x ∷ u) (y ∷ v) (inl l) = inl l
zero_keeps (suc j) (x ∷ u) (y ∷ v) (inr (same, more)) = inr (same, zero_keeps j u v more)

pub level_keeps_order : LevelKeepsOrder
level_keeps_order P k l u v b =
    rw (with_level_below P k u l, with_level_below P k v l) (before_below P (put_zero (k - length P)) u v (λ a d i j. zero_keeps (k - length P) a d) b)

-- room for a new leaf

moved_up_less : (p x y : ℕ) → x < y → moved_up p x < moved_up p y
moved_up_less p x y l =
    elim (bool_tells (nat_lt p x)) [
      | inl t ↦ let a = ltb-true p x t in let g : nat_lt p y ≡ true = lt-ltb p y (omega arith) in rw (t, g) (omega arith)
      | inr f ↦ elim (bool_tells (nat_lt p y)) [
        | inl t ↦ rw (f, t) (omega arith)
        | inr g ↦ rw (f, g) l
      ]
    ]

room_keeps : (p : ℕ) (u v : List ℕ) → Before u v → Before (make_room p u) (make_room p v)
room_keeps p [] v b = absurd b
room_keeps p (x ∷ u) [] b = absurd b
room_keeps p (x ∷ u) (y ∷ v) (inl l) = inl (moved_up_less p x y l)
room_keeps p (x ∷ u) (y ∷ v) (inr (same, more)) = inr (ap (moved_up p) same, more)

pub leaf_keeps_order : LeafKeepsOrder
leaf_keeps_order P u v b = before_below (front P) (make_room (last P)) u v (λ a d i j. room_keeps (last P) a d) b

-- fuse

record JoinHead (p n x : ℕ) (w : List ℕ) : Type 0 where
  head : ℕ
  rest : List ℕ
  is : join_loops p n (x ∷ w) ≡ head ∷ rest
  earlier : x ≤ p → head ≡ x
  later : p < x → head ≡ x - 1

join_head_next : (p n : ℕ) (w : List ℕ) → JoinHead p n (p + 1) w
join_head_next p n [] = record { head = p; rest = []; is = join_next_leaf p n; earlier = λ l. absurd (omega arith); later = λ l. omega arith }
join_head_next p n (y ∷ w) = record { head = p; rest = (y + n) ∷ w; is = join_next p n y w; earlier = λ l. absurd (omega arith); later = λ l. omega arith }

join_head : (p n x : ℕ) (w : List ℕ) → JoinHead p n x w
join_head p n x w =
    elim (bool_tells (nat_lt p x)) [
      | inr f ↦ let l = ltb-false p x f in record { head = x; rest = w; is = join_earlier p n x w l; earlier = λ m. refl; later = λ m. absurd (omega arith) }
      | inl t ↦ elim (bool_tells (x == p + 1)) [
        | inl e ↦ subst (λ z. JoinHead p n z w) (sym (eqb-true x (p + 1) e)) (join_head_next p n w)
        | inr g ↦
            let a = ltb-true p x t in
            let ne : x ≢ p + 1 = eqb-false x (p + 1) g in
            let l : p + 1 < x = omega arith in
            record { head = x - 1; rest = w; is = join_later p n x w l; earlier = λ m. absurd (omega arith); later = λ m. refl }
      ]
    ]

module _ (p n : ℕ) (W : List (List ℕ)) (s : JoinsAt p n W) where
  -- the children of p come before those of the loop after it
  join_neighbours : (u v : List ℕ) → In (p ∷ u) W → In ((p + 1) ∷ v) W → Before (join_loops p n (p ∷ u)) (join_loops p n ((p + 1) ∷ v))
  join_neighbours [] v i j = absurd (s.leafless i)
  join_neighbours (x ∷ u) [] i j = absurd (s.next_leafless j)
  join_neighbours (x ∷ u) (y ∷ v) i j =
      let l = s.below_n x u i in
      before_tails p p (x ∷ u) ((y + n) ∷ v) (join_loops p n (p ∷ (x ∷ u))) (join_loops p n ((p + 1) ∷ (y ∷ v))) (join_earlier p n p (x ∷ u) (omega arith)) (join_next p n y v) refl (inl (omega arith))

  join_less : (x y : ℕ) (u v : List ℕ) → In (x ∷ u) W → In (y ∷ v) W → x < y → Before (join_loops p n (x ∷ u)) (join_loops p n (y ∷ v))
  join_less x y u v i j l =
      let a = join_head p n x u in
      let b = join_head p n y v in
      let heads_less : a.head < b.head → Before (join_loops p n (x ∷ u)) (join_loops p n (y ∷ v)) = λ m. before_heads a.head b.head a.rest b.rest (join_loops p n (x ∷ u)) (join_loops p n (y ∷ v)) a.is b.is m in
      elim (bool_tells (nat_lt p y)) [
        | inr f ↦ let high = ltb-false p y f in let e = b.earlier high in let g = a.earlier (omega arith) in heads_less (omega arith)
        | inl t ↦
            let after_p = ltb-true p y t in
            let e = b.later after_p in
            elim (bool_tells (nat_lt p x)) [
              | inl k ↦ let g = a.later (ltb-true p x k) in let m = ltb-true p x k in heads_less (omega arith)
              | inr f ↦
                  let at_most = ltb-false p x f in
                  let g = a.earlier at_most in
                  elim (bool_tells (nat_lt x (y - 1))) [
                    | inl k ↦ let m = ltb-true x (y - 1) k in heads_less (omega arith)
                    | inr h ↦
                        let m = ltb-false x (y - 1) h in
                        let xp : x ≡ p = omega arith in
                        let yp : y ≡ p + 1 = omega arith in
                        subst (λ z. Before (join_loops p n (z ∷ u)) (join_loops p n (y ∷ v))) (sym xp)
                        (subst (λ z. Before (join_loops p n (p ∷ u)) (join_loops p n (z ∷ v))) (sym yp)
                        (join_neighbours u v (subst (λ z. In (z ∷ u) W) xp i) (subst (λ z. In (z ∷ v) W) yp j)))
                  ]
            ]
      ]

join_children_before : (p n : ℕ) (u v : List ℕ) → Before u v → Before (join_loops p n ((p + 1) ∷ u)) (join_loops p n ((p + 1) ∷ v))
join_children_before p n [] v b = absurd b
join_children_before p n (x ∷ u) [] b = absurd b
join_children_before p n (x ∷ u) (y ∷ v) b =
    let rest : Before ((x + n) ∷ u) ((y + n) ∷ v) = elim b [ inl l ↦ inl (omega arith) | inr (same, more) ↦ inr (ap (λ z. z + n) same, more) ] in
    before_tails p p ((x + n) ∷ u) ((y + n) ∷ v) (join_loops p n ((p + 1) ∷ (x ∷ u))) (join_loops p n ((p + 1) ∷ (y ∷ v))) (join_next p n x u) (join_next p n y v) refl rest

join_same : (p n x : ℕ) (u v : List ℕ) → Before u v → Before (join_loops p n (x ∷ u)) (join_loops p n (x ∷ v))
join_same p n x u v b =
    elim (bool_tells (nat_lt p x)) [
      | inr f ↦ let l = ltb-false p x f in before_tails x x u v (join_loops p n (x ∷ u)) (join_loops p n (x ∷ v)) (join_earlier p n x u l) (join_earlier p n x v l) refl b
      | inl t ↦ elim (bool_tells (x == p + 1)) [
        | inl e ↦ subst (λ z. Before (join_loops p n (z ∷ u)) (join_loops p n (z ∷ v))) (sym (eqb-true x (p + 1) e)) (join_children_before p n u v b)
        | inr g ↦
            let a = ltb-true p x t in
            let ne : x ≢ p + 1 = eqb-false x (p + 1) g in
            let l : p + 1 < x = omega arith in
            before_tails (x - 1) (x - 1) u v (join_loops p n (x ∷ u)) (join_loops p n (x ∷ v)) (join_later p n x u l) (join_later p n x v l) refl b
      ]
    ]

join_keeps : (p n : ℕ) (W : List (List ℕ)) → JoinsAt p n W → (u v : List ℕ) → In u W → In v W → Before u v → Before (join_loops p n u) (join_loops p n v)
join_keeps p n W s [] v i j b = absurd b
join_keeps p n W s (x ∷ u) [] i j b = absurd b
join_keeps p n W s (x ∷ u) (y ∷ v) i j (inl l) = join_less p n W s x y u v i j l
join_keeps p n W s (x ∷ u) (y ∷ v) i j (inr (same, more)) = subst (λ z. Before (join_loops p n (x ∷ u)) (join_loops p n (z ∷ v))) same (join_same p n x u v more)

pub fuse_keeps_order : FuseKeepsOrder
fuse_keeps_order P V W t h u v i j b =
    let k = fuse_facts P V W h in
    let is : P ≡ front P ++ last P ∷ [] = loop_parts P V k.loop in
    let loop : is_loop (front P ++ last P ∷ []) V ≡ true = subst (λ z. is_loop z V ≡ true) is k.loop in
    let joins : JoinsAt (last P) (children_of P V) (under (front P) V) = subst (λ z. JoinsAt (last P) (children_of z V) (under (front P) V)) (sym is) (joins_at (front P) (last P) V t loop k.next) in
    before_below (front P) (join_loops (last P) (children_of P V)) u v
    (λ a d e g. join_keeps (last P) (children_of P V) (under (front P) V) joins a d (In-under (front P) a V (subst (λ z. In z V) e i)) (In-under (front P) d V (subst (λ z. In z V) g j))) b
