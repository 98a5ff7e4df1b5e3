-- Statements that are put in falling beta order one by one.
use Rattle.std.proofs.Common.{◌≡◌, ℕ, zero, suc, ◌+◌, ◌<◌, ◌≤◌, ◌==◌, nat_lt, Bool, true, false, if◌then◌else◌, ◌&&◌, ◌||◌, ◌⊎◌, inl, inr, List, [], ◌∷◌, ◌++◌, length, take, drop, get_or, reverse, refl, sym, ◌∙◌, ap, subst, arith}
use Rattle.std.specs.Prelude.{insert}
use Rattle.std.proofs.lemmas.Bool.{eqb-true, eqb-false, ltb-true, ltb-false, lt-ltb, le-ltb, eq-eqb, both_ways, cases_lt}
use Rattle.std.proofs.lemmas.List.{reverse-append, get_or_default}
use Rattle.beta_tree.proofs.Places.{bool_tells}
use Rattle.chlore_recover.specs.Strategy.{Placed, is_before, put_in_order}
use Rattle.schedule_recovery.specs.Falling.{put_behind, AreBefore, Falls}

-- the order of vectors

abbrev AtMost : List ℕ → List ℕ → Type 0
AtMost [] v = Unit {0}
AtMost (x ∷ u) [] = ⊥
AtMost (x ∷ u) (y ∷ v) = (x < y) ⊎ ((x ≡ y) × AtMost u v)

before_yes : (u v : List ℕ) → is_before u v ≡ true → AtMost u v
before_yes [] v h = tt
before_yes (x ∷ u) [] h = absurd (both_ways false refl h)
before_yes (x ∷ u) (y ∷ v) h =
    elim (bool_tells (nat_lt x y)) [
      | inl t ↦ inl (ltb-true x y t)
      | inr f ↦
          let more : ((x == y) && is_before u v) ≡ true = subst (λ b. (b || ((x == y) && is_before u v)) ≡ true) f h in
          elim (bool_tells (x == y)) [
            | inr g ↦ absurd (both_ways false refl (subst (λ b. (b && is_before u v) ≡ true) g more))
            | inl g ↦ inr (eqb-true x y g, before_yes u v (subst (λ b. (b && is_before u v) ≡ true) g more))
          ]
    ]

before_no : (u v : List ℕ) → is_before u v ≡ false → AtMost v u
before_no [] v h = absurd (both_ways true h refl)
before_no (x ∷ u) [] h = tt
before_no (x ∷ u) (y ∷ v) h =
    elim (bool_tells (nat_lt x y)) [
      | inl t ↦ absurd (both_ways true (subst (λ b. (b || ((x == y) && is_before u v)) ≡ false) t h) refl)
      | inr f ↦
          let more : ((x == y) && is_before u v) ≡ false = subst (λ b. (b || ((x == y) && is_before u v)) ≡ false) f h in
          let low = ltb-false x y f in
          elim (bool_tells (x == y)) [
            | inr g ↦ let ne = eqb-false x y g in inl (omega (arith, low, ne))
            | inl g ↦ inr (sym (eqb-true x y g), before_no u v (subst (λ b. (b && is_before u v) ≡ false) g more))
          ]
    ]

before_at : (u v : List ℕ) → AtMost u v → is_before u v ≡ true
before_at [] v a = refl
before_at (x ∷ u) [] a = absurd a
before_at (x ∷ u) (y ∷ v) a =
    elim a [
      | inl l ↦ rw (lt-ltb x y l) refl
      | inr (e, b) ↦ rw (le-ltb x y (omega (arith, e)), eq-eqb x y e, before_at u v b) refl
    ]

at_most_both : (u v w : List ℕ) → AtMost u v → AtMost v w → AtMost u w
at_most_both [] v w a b = tt
at_most_both (x ∷ u) [] w a b = absurd a
at_most_both (x ∷ u) (y ∷ v) [] a b = absurd b
at_most_both (x ∷ u) (y ∷ v) (z ∷ w) a b =
    elim a [
      | inl l ↦ elim b [ inl m ↦ inl (omega (arith, l, m)) | inr (f, d) ↦ inl (omega (arith, l, f)) ]
      | inr (e, c) ↦ elim b [ inl m ↦ inl (omega (arith, e, m)) | inr (f, d) ↦ inr (e ∙ f, at_most_both u v w c d) ]
    ]

before_both : (u v w : List ℕ) → is_before u v ≡ true → is_before v w ≡ true → is_before u w ≡ true
before_both u v w h g = before_at u w (at_most_both u v w (before_yes u v h) (before_yes v w g))

before_turned : (u v : List ℕ) → is_before u v ≡ false → is_before v u ≡ true
before_turned u v h = before_at v u (before_no u v h)

-- what is before the first of two is before the second, so what isn't before the second isn't before the first
not_before : (u v w : List ℕ) → is_before u w ≡ false → is_before v w ≡ true → is_before u v ≡ false
not_before u v w h g =
    elim (bool_tells (is_before u v)) [ inl t ↦ absurd (both_ways (is_before u w) h (before_both u v w t g)) | inr f ↦ f ]

-- one more keeps the order

all_before : (e f : Placed) (fs : List Placed) → is_before f.1 e.1 ≡ true → AreBefore f fs → AreBefore e fs
all_before e f [] h a = tt
all_before e f (g ∷ fs) h (b, a) = (before_both g.1 f.1 e.1 b h, all_before e f fs h a)

put_before : (e f : Placed) (fs : List Placed) → is_before e.1 f.1 ≡ true → AreBefore f fs → AreBefore f (put_behind e fs)
put_before e f [] h a = (h, tt)
put_before e f (g ∷ fs) h (b, a) =
    elim (is_before e.1 g.1) as (λ t. AreBefore f (if t then g ∷ put_behind e fs else e ∷ (g ∷ fs))) [
      | true ↦ (b, put_before e f fs h a)
      | false ↦ (h, (b, a))
    ]

pub put_falls : (e : Placed) (fs : List Placed) → Falls fs → Falls (put_behind e fs)
put_falls e [] h = (tt, tt)
put_falls e (f ∷ fs) (a, h) =
    elim (is_before e.1 f.1) as (λ t. is_before e.1 f.1 ≡ t → Falls (if t then f ∷ put_behind e fs else e ∷ (f ∷ fs))) [
      | true ↦ λ t. (put_before e f fs t a, put_falls e fs h)
      | false ↦ λ t. let b = before_turned e.1 f.1 t in ((b, all_before e f fs b a), (a, h))
    ] refl

-- read from its end, the order is the rising one

put_end : (e f : Placed) (fs : List Placed) → is_before e.1 f.1 ≡ true → put_in_order e (fs ++ f ∷ []) ≡ put_in_order e fs ++ f ∷ []
put_end e f [] h = rw h refl
put_end e f (g ∷ fs) h =
    elim (is_before e.1 g.1) as (λ t. (if t then e ∷ (g ∷ (fs ++ f ∷ [])) else g ∷ put_in_order e (fs ++ f ∷ [])) ≡ (if t then e ∷ (g ∷ fs) else g ∷ put_in_order e fs) ++ f ∷ []) [
      | true ↦ refl
      | false ↦ ap (λ z. g ∷ z) (put_end e f fs h)
    ]

-- none of these comes behind e
abbrev NoneBehind : Placed → List Placed → Type 0
NoneBehind e [] = Unit {0}
NoneBehind e (g ∷ fs) = (is_before e.1 g.1 ≡ false) × NoneBehind e fs

none_behind : (e f : Placed) (fs : List Placed) → is_before e.1 f.1 ≡ false → AreBefore f fs → NoneBehind e fs
none_behind e f [] h a = tt
none_behind e f (g ∷ fs) h (b, a) = (not_before e.1 g.1 f.1 h b, none_behind e f fs h a)

none_more : (e f : Placed) (fs : List Placed) → is_before e.1 f.1 ≡ false → NoneBehind e fs → NoneBehind e (fs ++ f ∷ [])
none_more e f [] h a = (h, tt)
none_more e f (g ∷ fs) h (b, a) = (b, none_more e f fs h a)

none_turned : (e : Placed) (fs : List Placed) → NoneBehind e fs → NoneBehind e (reverse fs)
none_turned e [] a = tt
none_turned e (f ∷ fs) (b, a) = subst (NoneBehind e) (sym (reverse-append (f ∷ []) fs)) (none_more e f (reverse fs) b (none_turned e fs a))

put_last : (e : Placed) (fs : List Placed) → NoneBehind e fs → put_in_order e fs ≡ fs ++ e ∷ []
put_last e [] a = refl
put_last e (g ∷ fs) (b, a) = rw b (ap (λ z. g ∷ z) (put_last e fs a))

pub put_turned : (e : Placed) (fs : List Placed) → Falls fs → reverse (put_behind e fs) ≡ put_in_order e (reverse fs)
put_turned e [] h = refl
put_turned e (f ∷ fs) (a, h) =
    elim (is_before e.1 f.1) as (λ t. is_before e.1 f.1 ≡ t → reverse (if t then f ∷ put_behind e fs else e ∷ (f ∷ fs)) ≡ put_in_order e (reverse (f ∷ fs))) [
      | true ↦ λ t.
          reverse-append (f ∷ []) (put_behind e fs) ∙ (ap (λ z. z ++ f ∷ []) (put_turned e fs h)
          ∙ (sym (put_end e f (reverse fs) t) ∙ ap (put_in_order e) (sym (reverse-append (f ∷ []) fs))))
      | false ↦ λ t. reverse-append (e ∷ []) (f ∷ fs) ∙ sym (put_last e (reverse (f ∷ fs)) (none_turned e (f ∷ fs) (t, none_behind e f fs t a)))
    ] refl

-- where a search ends

falls_first : (f : Placed) (fs : List Placed) (j : ℕ) (d : Placed) → AreBefore f fs → j < length fs → is_before (get_or fs j d).1 f.1 ≡ true
falls_first f [] j d a l = absurd (omega arith)
falls_first f (g ∷ fs) zero d (b, a) l = b
falls_first f (g ∷ fs) (suc j) d (b, a) l = falls_first f fs j d a (omega arith)

falls_at : (fs : List Placed) (i j : ℕ) (d : Placed) → Falls fs → i < j → j < length fs → is_before (get_or fs j d).1 (get_or fs i d).1 ≡ true
falls_at [] i j d h l m = absurd (omega arith)
falls_at (f ∷ fs) i zero d h l m = absurd (omega arith)
falls_at (f ∷ fs) zero (suc j) d (a, h) l m = falls_first f fs j d a (omega arith)
falls_at (f ∷ fs) (suc i) (suc j) d (a, h) l m = falls_at fs i j d h (omega arith) (omega arith)

-- a statement is before those in front of place low, and not before those from place high on
pub record Between (e : Placed) (fs : List Placed) (low high : ℕ) : Type 0 where
  pub within : low ≤ high
  pub size : high ≤ length fs
  pub front : (i : ℕ) (d : Placed) → i < low → is_before e.1 (get_or fs i d).1 ≡ true
  pub back : (i : ℕ) (d : Placed) → high ≤ i → i < length fs → is_before e.1 (get_or fs i d).1 ≡ false

pub between_all : (e : Placed) (fs : List Placed) → Between e fs 0 (length fs)
between_all e fs = record {
  within = omega arith;
  size = omega arith;
  front = λ i d l. absurd (omega arith);
  back = λ i d l m. absurd (omega arith);
}

pub between_up : (e f : Placed) (fs : List Placed) (low high middle : ℕ) → Falls fs → Between e fs low high → low ≤ middle → middle < high → f ≡ get_or fs middle f → is_before e.1 f.1 ≡ true → Between e fs (middle + 1) high
between_up e f fs low high middle h b l m is t = record {
  within = omega arith;
  size = b.size;
  front = λ i d k.
      let s = b.size in
      let here : get_or fs middle d ≡ f = get_or_default fs middle d f (omega (arith, m, s)) ∙ sym is in
      elim (cases_lt i middle) [
        | inl n ↦ before_both e.1 f.1 (get_or fs i d).1 t (ap (λ z. is_before z.1 (get_or fs i d).1) (sym here) ∙ falls_at fs i middle d h n (omega (arith, m, s)))
        | inr n ↦ let same : i ≡ middle = omega (arith, k, n) in ap (λ z. is_before e.1 (get_or fs z d).1) same ∙ (ap (λ z. is_before e.1 z.1) here ∙ t)
      ];
  back = b.back;
}

pub between_down : (e f : Placed) (fs : List Placed) (low high middle : ℕ) → Falls fs → Between e fs low high → low ≤ middle → middle < high → f ≡ get_or fs middle f → is_before e.1 f.1 ≡ false → Between e fs low middle
between_down e f fs low high middle h b l m is t = record {
  within = l;
  size = let s = b.size in omega (arith, m, s);
  front = b.front;
  back = λ i d k n.
      let s = b.size in
      let here : get_or fs middle d ≡ f = get_or_default fs middle d f (omega (arith, m, s)) ∙ sym is in
      elim (cases_lt middle i) [
        | inl o ↦ not_before e.1 (get_or fs i d).1 f.1 t (ap (λ z. is_before (get_or fs i d).1 z.1) (sym here) ∙ falls_at fs middle i d h o n)
        | inr o ↦ let same : i ≡ middle = omega (arith, k, o) in ap (λ z. is_before e.1 (get_or fs z d).1) same ∙ (ap (λ z. is_before e.1 z.1) here ∙ t)
      ];
}

pub put_at : (e : Placed) (fs : List Placed) (k : ℕ) → k ≤ length fs → ((i : ℕ) (d : Placed) → i < k → is_before e.1 (get_or fs i d).1 ≡ true)
    → ((i : ℕ) (d : Placed) → k ≤ i → i < length fs → is_before e.1 (get_or fs i d).1 ≡ false) → insert fs k e ≡ put_behind e fs
put_at e [] zero l f b = refl
put_at e [] (suc k) l f b = absurd (omega arith)
put_at e (g ∷ fs) zero l f b = rw (b 0 g (omega arith) (omega arith)) refl
put_at e (g ∷ fs) (suc k) l f b =
    rw (f 0 g (omega arith)) (ap (λ z. g ∷ z) (put_at e fs k (omega arith) (λ i d m. f (suc i) d (omega arith)) (λ i d m n. b (suc i) d (omega arith) (omega arith))))

pub put_between : (e : Placed) (fs : List Placed) (low high : ℕ) → Between e fs low high → high ≤ low → insert fs low e ≡ put_behind e fs
put_between e fs low high b l =
    let w = b.within in
    let same : high ≡ low = omega (arith, w, l) in
    let c : Between e fs low low = subst (Between e fs low) same b in
    put_at e fs low c.size c.front c.back

-- the test of two statements by their vectors
pub same_test : (e f : Placed) (u v : List ℕ) (b t : Bool) → u ≡ e.1 → v ≡ f.1 → b ≡ is_before u v → b ≡ t → is_before e.1 f.1 ≡ t
same_test e f u v b t p q r s = ap (λ z. is_before z f.1) (sym p) ∙ (ap (is_before u) (sym q) ∙ (sym r ∙ s))
