-- The dense numbers of a vector, from those of the greatest vector before it in lexicographic order.
use Rattle.std.proofs.Common.{◌≡◌, ℕ, ℤ, ◌+◌, ◌≤◌, Less, Equal, cond, Bool, true, false, ◌⊎◌, inl, inr, refl, sym, ◌∙◌, ap, subst, arith, List, [], ◌∷◌, length, map, filter, int_lt}
use Rattle.std.specs.Prelude.{⊤}
use Rattle.std.specs.Ordering.{int_cmp, int_eq, is_lt}
use Rattle.std.specs.Cmp.Lexicographic.{slice_cmp, pointwise}
use Rattle.std.specs.List.{All, AllByRecursion as Each}
use Rattle.std.specs.Set.{is_member, distinct_count}
use Rattle.std.proofs.lemmas.Cmp.{int_cmp_total, int_eq_equiv, tied_itself}
use Rattle.std.proofs.lemmas.Bool.Decides.{Decides-int_eq}
use Rattle.std.proofs.lemmas.Map.Made.{is_member-filter, alike_from_same}
use Rattle.std.proofs.lemmas.List.Elements.{All-nil, All-cons, All-weaker}
use Rattle.row_core.proofs.DenseBounds.{lesser_few, length_rests}
use Rattle.row_core.specs.Dense.{heads, rests, lesser, dense_among}
use Rattle.row_core.specs.DenseOrder.{numbered_after}

pub by_bool : (b : Bool) → (b ≡ true) ⊎ (b ≡ false)
by_bool true = inl refl
by_bool false = inr refl

-- the lexicographic order

abbrev pub below : List ℤ → List ℤ → Bool
below u v = is_lt (slice_cmp int_cmp u v)

first_less : (x y : ℤ) (u v : List ℤ) → int_lt x y ≡ true → below (x ∷ u) (y ∷ v) ≡ true
first_less x y u v t = rw t refl

first_upto : (x y : ℤ) (u v : List ℤ) → below (x ∷ u) (y ∷ v) ≡ false → int_lt x y ≡ false
first_upto x y u v h = elim (by_bool (int_lt x y)) [
  | inl t ↦ let l = first_less x y u v t in cc
  | inr f ↦ f
]

rest_upto : (x : ℤ) (u v : List ℤ) → below (x ∷ u) (x ∷ v) ≡ false → below u v ≡ false
rest_upto x u v h = let e : below (x ∷ u) (x ∷ v) ≡ below u v = rw (tied_itself int_cmp_total x) refl in sym e ∙ h

-- what holds of each vector, and then of each first entry and of each rest

heads_each : (P : List ℤ → Type 0) (Q : ℤ → Type 0) → ((y : ℤ) (w : List ℤ) → P (y ∷ w) → Q y) → (W : List (List ℤ)) → Each P W → Each Q (heads W)
heads_each P Q step [] h = tt
heads_each P Q step ([] ∷ W) h = heads_each P Q step W h.1
heads_each P Q step ((y ∷ w) ∷ W) h = (step y w h.0, heads_each P Q step W h.1)

rests_each : (P Q : List ℤ → Type 0) (x : ℤ) → ((w : List ℤ) → P (x ∷ w) → Q w) → (W : List (List ℤ)) → Each P W → Each Q (rests x W)
rests_each P Q x step [] h = tt
rests_each P Q x step ([] ∷ W) h = rests_each P Q x step W h.1
rests_each P Q x step ((y ∷ w) ∷ W) h = elim (by_bool (int_eq y x)) [
  | inl e ↦
      let s : y ≡ x = (Decides-int_eq y x).0 e in
      rw e (step w (subst (λ z. P (z ∷ w)) s h.0), rests_each P Q x step W h.1)
  | inr e ↦ rw e (rests_each P Q x step W h.1)
]

-- whether u is one of the vectors

abbrev pub has : List (List ℤ) → List ℤ → Bool
has W u = is_member (pointwise int_eq) W u

head_member : (y : ℤ) (u : List ℤ) (W : List (List ℤ)) → has W (y ∷ u) ≡ true → is_member int_eq (heads W) y ≡ true
head_member y u [] h = h
head_member y u ([] ∷ W) h = head_member y u W h
head_member y u ((x ∷ w) ∷ W) h = elim (by_bool (int_eq y x)) [
  | inl e ↦ rw e refl
  | inr e ↦ let g : has ((x ∷ w) ∷ W) (y ∷ u) ≡ has W (y ∷ u) = rw e refl in rw e (head_member y u W (sym g ∙ h))
]

rest_member : (y : ℤ) (u : List ℤ) (W : List (List ℤ)) → has W (y ∷ u) ≡ true → has (rests y W) u ≡ true
rest_member y u [] h = h
rest_member y u ([] ∷ W) h = rest_member y u W h
rest_member y u ((x ∷ w) ∷ W) h =
    let flip : int_eq y x ≡ int_eq x y = int_eq_equiv.symm y x in
    elim (by_bool (int_eq x y)) [
      | inl e ↦
          elim (by_bool (pointwise int_eq u w)) [
            | inl p ↦ rw e (rw p refl)
            | inr p ↦ let g : has ((x ∷ w) ∷ W) (y ∷ u) ≡ has W (y ∷ u) = rw (flip, e, p) refl in rw e (rw p (rest_member y u W (sym g ∙ h)))
          ]
      | inr e ↦ let g : has ((x ∷ w) ∷ W) (y ∷ u) ≡ has W (y ∷ u) = rw (flip, e) refl in rw e (rest_member y u W (sym g ∙ h))
    ]

-- u is empty, or one of the vectors
abbrev pub Known : List (List ℤ) → List ℤ → Type 0
Known W [] = ⊤
Known W (y ∷ u) = has W (y ∷ u) ≡ true

pub known_from : (W : List (List ℤ)) (u : List ℤ) → has W u ≡ true → Known W u
known_from W [] h = tt
known_from W (y ∷ u) h = h

-- a vector with none below it has the numbers 0

none_lesser : (x : ℤ) (H : List ℤ) → Each (λ h. int_lt h x ≡ false) H → lesser x H ≡ 0
none_lesser x H e = ap (distinct_count int_eq) (none H e) where
  none : (H : List ℤ) → Each (λ h. int_lt h x ≡ false) H → filter (λ y. int_lt y x) H ≡ []
  none [] e = refl
  none (h ∷ H) e = rw e.0 (none H e.1)

zeros_after : (x : ℤ) (v : List ℤ) (W : List (List ℤ)) → Each (λ h. int_lt h x ≡ false) (heads W) → dense_among (rests x W) v ≡ map (λ _. 0) v → dense_among W (x ∷ v) ≡ map (λ _. 0) (x ∷ v)
zeros_after x v W h r = rw (none_lesser x (heads W) h, r) refl

zeros_all : (v : List ℤ) (W : List (List ℤ)) → Each (λ w. below w v ≡ false) W → dense_among W v ≡ map (λ _. 0) v
zeros_all [] W h = refl
zeros_all (x ∷ v) W h =
    zeros_after x v W
    (heads_each (λ w. below w (x ∷ v) ≡ false) (λ h. int_lt h x ≡ false) (λ y w k. first_upto y x w v k) W h)
    (zeros_all v (rests x W) (rests_each (λ w. below w (x ∷ v) ≡ false) (λ w. below w v ≡ false) x (λ w k. rest_upto x w v k) W h))

-- one more value is below x than below y, where y is the greatest of the values below x

not_itself : (y : ℤ) → int_lt y y ≡ false
not_itself y = elim (by_bool (int_lt y y)) [
  | inl t ↦ let e : int_cmp y y ≡ Less = rw t refl in let f = tied_itself int_cmp_total y in let g : Less ≡ Equal = sym e ∙ f in let h : is_lt Less ≡ is_lt Equal = ap is_lt g in cc
  | inr f ↦ f
]

less_from : (y x : ℤ) → int_eq y x ≡ false → int_lt x y ≡ false → int_lt y x ≡ true
less_from y x e f = elim (by_bool (int_lt y x)) [
  | inl t ↦ t
  | inr n ↦ let g : int_eq y x ≡ true = rw (n, f) refl in cc
]

less_both : (q y x : ℤ) → int_lt q y ≡ true → int_lt y x ≡ true → int_lt q x ≡ true
less_both q y x a b =
    let e : int_cmp q y ≡ Less = rw a refl in
    let f : int_cmp y x ≡ Less = rw b refl in
    let g : int_cmp q x ≡ Less = int_cmp_total.trans q y x e f in
    elim (by_bool (int_lt q x)) [
      | inl t ↦ t
      | inr n ↦ let h : is_lt (int_cmp q x) ≡ true = ap is_lt g in let i : is_lt (int_cmp q x) ≡ false = rest_false q x n in cc
    ] where
      rest_false : (q x : ℤ) → int_lt q x ≡ false → is_lt (int_cmp q x) ≡ false
      rest_false q x n = elim (by_bool (int_lt x q)) [ inl t ↦ rw (n, t) refl | inr t ↦ rw (n, t) refl ]

lesser_new : (x h : ℤ) (H : List ℤ) → int_lt h x ≡ true → is_member int_eq H h ≡ false → lesser x (h ∷ H) ≡ lesser x H + 1
lesser_new x h H t m =
    let a : is_member int_eq (filter (λ z. int_lt z x) H) h ≡ false = is_member-filter int_eq_equiv (λ z. int_lt z x) h (alike_from_same Decides-int_eq (λ z. int_lt z x) h) H ∙ rw m refl in
    rw t (rw a (omega arith))

lesser_old : (x h : ℤ) (H : List ℤ) → int_lt h x ≡ true → is_member int_eq H h ≡ true → lesser x (h ∷ H) ≡ lesser x H + 0
lesser_old x h H t m =
    let a : is_member int_eq (filter (λ z. int_lt z x) H) h ≡ true = is_member-filter int_eq_equiv (λ z. int_lt z x) h (alike_from_same Decides-int_eq (λ z. int_lt z x) h) H ∙ rw (m, t) refl in
    rw t (rw a (omega arith))

lesser_out : (x h : ℤ) (H : List ℤ) → int_lt h x ≡ false → lesser x (h ∷ H) ≡ lesser x H + 0
lesser_out x h H t = rw t (omega arith)

one_more : (p q r s m n i j : ℕ) → p ≡ q + i → q ≡ r + m → s ≡ r + j → n + j ≡ m + i → p ≡ s + n
one_more p q r s m n i j a b c d = omega arith

count_next : (y x : ℤ) → int_lt y x ≡ true → (H : List ℤ) → Each (λ h. (int_lt y h ≡ false) ⊎ (int_lt h x ≡ false)) H → lesser x H ≡ lesser y H + cond (is_member int_eq H y) 1 0
count_next y x l [] e = refl
count_next y x l (h ∷ H) e = elim (by_bool (int_eq y h)) [
  | inl s ↦
      let same : y ≡ h = (Decides-int_eq y h).0 s in
      let c : int_lt h x ≡ true = subst (λ z. int_lt z x ≡ true) same l in
      let d : int_lt h y ≡ false = subst (λ z. int_lt z y ≡ false) same (not_itself y) in
      elim (by_bool (is_member int_eq H y)) [
        | inl m ↦ one_more _ _ _ _ _ _ _ _ (lesser_old x h H c (subst (λ z. is_member int_eq H z ≡ true) same m)) (count_next y x l H e.1) (lesser_out y h H d) (rw s (rw m refl))
        | inr m ↦ one_more _ _ _ _ _ _ _ _ (lesser_new x h H c (subst (λ z. is_member int_eq H z ≡ false) same m)) (count_next y x l H e.1) (lesser_out y h H d) (rw s (rw m refl))
      ]
  | inr s ↦ elim (by_bool (int_lt h y)) [
    | inl t ↦
        let c : int_lt h x ≡ true = less_both h y x t l in
        elim (by_bool (is_member int_eq H h)) [
          | inl m ↦ one_more _ _ _ _ _ _ _ _ (lesser_old x h H c m) (count_next y x l H e.1) (lesser_old y h H t m) (rw s refl)
          | inr m ↦ one_more _ _ _ _ _ _ _ _ (lesser_new x h H c m) (count_next y x l H e.1) (lesser_new y h H t m) (rw s refl)
        ]
    | inr t ↦
        let c : int_lt h x ≡ false = elim e.0 [ inl n ↦ let u : int_lt y h ≡ true = less_from y h s t in cc | inr n ↦ n ] in
        one_more _ _ _ _ _ _ _ _ (lesser_out x h H c) (count_next y x l H e.1) (lesser_out y h H t) (rw s refl)
  ]
]

lesser_next : (y x : ℤ) (H : List ℤ) → int_lt y x ≡ true → Each (λ h. (int_lt y h ≡ false) ⊎ (int_lt h x ≡ false)) H → is_member int_eq H y ≡ true → lesser x H ≡ lesser y H + 1
lesser_next y x H l e m = count_next y x l H e ∙ rw m refl

-- the numbers of v follow from those of u, where each vector is at most u or at least v

pub next_dense : (u v : List ℤ) (W : List (List ℤ)) → Each (λ w. (below u w ≡ false) ⊎ (below w v ≡ false)) W → Known W u → below v u ≡ false → numbered_after u (dense_among W u) v ≡ dense_among W v
next_dense [] [] W gap known up = refl
next_dense [] (x ∷ v) W gap known up = sym (zeros_after x v W heads_above rests_zero) where
  above : (y : ℤ) (w : List ℤ) → (below [] (y ∷ w) ≡ false) ⊎ (below (y ∷ w) (x ∷ v) ≡ false) → below (y ∷ w) (x ∷ v) ≡ false
  above y w k = elim k [ inl n ↦ let t : below [] (y ∷ w) ≡ true = refl in cc | inr n ↦ n ]

  heads_above : Each (λ h. int_lt h x ≡ false) (heads W)
  heads_above = heads_each (λ w. (below [] w ≡ false) ⊎ (below w (x ∷ v) ≡ false)) (λ h. int_lt h x ≡ false) (λ y w k. first_upto y x w v (above y w k)) W gap

  rests_zero : dense_among (rests x W) v ≡ map (λ _. 0) v
  rests_zero = zeros_all v (rests x W) (rests_each (λ w. (below [] w ≡ false) ⊎ (below w (x ∷ v) ≡ false)) (λ w. below w v ≡ false) x (λ w k. rest_upto x w v (above x w k)) W gap)
next_dense (y ∷ u) [] W gap known up = refl
next_dense (y ∷ u) (x ∷ v) W gap known up = elim (by_bool (int_eq y x)) [
  | inl s ↦
      let same : y ≡ x = (Decides-int_eq y x).0 s in
      let tail : numbered_after u (dense_among (rests y W) u) v ≡ dense_among (rests y W) v =
      next_dense u v (rests y W) (rests_each (λ w. (below (y ∷ u) w ≡ false) ⊎ (below w (x ∷ v) ≡ false)) (λ w. (below u w ≡ false) ⊎ (below w v ≡ false)) y (between same) W gap) (known_from (rests y W) u (rest_member y u W known))
      (rest_upto x v u (subst (λ z. below (x ∷ v) (z ∷ u) ≡ false) same up)) in
      let here : numbered_after (y ∷ u) (dense_among W (y ∷ u)) (x ∷ v) ≡ lesser y (heads W) ∷ numbered_after u (dense_among (rests y W) u) v = rw s refl in
      here ∙ (ap (λ z. lesser y (heads W) ∷ z) tail ∙ ap (λ z. lesser z (heads W) ∷ dense_among (rests z W) v) same)
  | inr s ↦
      let less : int_lt y x ≡ true = less_from y x s (first_upto x y v u up) in
      let number : lesser x (heads W) ≡ lesser y (heads W) + 1 =
      lesser_next y x (heads W) less (heads_each (λ w. (below (y ∷ u) w ≡ false) ⊎ (below w (x ∷ v) ≡ false)) (λ h. (int_lt y h ≡ false) ⊎ (int_lt h x ≡ false)) outside W gap) (head_member y u W known) in
      let zeros : dense_among (rests x W) v ≡ map (λ _. 0) v =
      zeros_all v (rests x W) (rests_each (λ w. (below (y ∷ u) w ≡ false) ⊎ (below w (x ∷ v) ≡ false)) (λ w. below w v ≡ false) x (above less) W gap) in
      rw (s, number, zeros) refl
] where
  between : y ≡ x → (w : List ℤ) → (below (y ∷ u) (y ∷ w) ≡ false) ⊎ (below (y ∷ w) (x ∷ v) ≡ false) → (below u w ≡ false) ⊎ (below w v ≡ false)
  between same w k = elim k [
    | inl n ↦ inl (rest_upto y u w n)
    | inr n ↦ inr (rest_upto x w v (subst (λ z. below (z ∷ w) (x ∷ v) ≡ false) same n))
  ]

  outside : (h : ℤ) (w : List ℤ) → (below (y ∷ u) (h ∷ w) ≡ false) ⊎ (below (h ∷ w) (x ∷ v) ≡ false) → (int_lt y h ≡ false) ⊎ (int_lt h x ≡ false)
  outside h w k = elim k [ inl n ↦ inl (first_upto y h u w n) | inr n ↦ inr (first_upto h x w v n) ]

  above : int_lt y x ≡ true → (w : List ℤ) → (below (y ∷ u) (x ∷ w) ≡ false) ⊎ (below (x ∷ w) (x ∷ v) ≡ false) → below w v ≡ false
  above less w k = elim k [
    | inl n ↦ let t = first_less y x u w less in cc
    | inr n ↦ rest_upto x w v n
  ]

-- each number is at most the number of vectors
pub dense_few : (V : List (List ℤ)) (v : List ℤ) → All (λ n. n ≤ length V) (dense_among V v)
dense_few V [] = All-nil _
dense_few V (x ∷ v) = All-cons (λ n. n ≤ length V) _ _ (lesser_few x V) (All-weaker (λ n. n ≤ length (rests x V)) (λ n. n ≤ length V) (λ n h. let l = length_rests x V in omega arith) _ (dense_few (rests x V) v))
