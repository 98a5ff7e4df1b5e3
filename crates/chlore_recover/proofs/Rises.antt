-- Statements put in beta order one by one rise.
use Rattle.std.proofs.Common.{◌≡◌, ◌≢◌, ℕ, suc, ◌+◌, ◌<◌, ◌==◌, ◌^◌, nat_lt, true, false, if◌then◌else◌, ◌&&◌, ◌||◌, ◌⊎◌, inl, inr, List, [], ◌∷◌, ◌++◌, length, refl, sym, ◌∙◌, ap, subst, arith}
use Rattle.std.proofs.lemmas.Bool.{eqb-true, eqb-false, ltb-true, ltb-false}
use Rattle.beta_tree.specs.Laws.{Before}
use Rattle.beta_tree.specs.Vectors.{In, Apart, ApartFromAll, PrefixFree}
use Rattle.beta_tree.proofs.Places.{bool_tells}
use Rattle.beta_trails.specs.Trails.{Rising}
use Rattle.beta_trails.proofs.Steps.{rising_after}
use Rattle.chlore_recover.specs.Strategy.{Placed, is_before, put_in_order, ordered_from}
use Rattle.chlore_recover.specs.Orders.{vectors_of, Rises, OrderedRises}

-- the test of the order, of vectors no one of which is a prefix of the other

before_yes : (u v : List ℕ) → Apart u v → is_before u v ≡ true → Before u v
before_yes [] v a h = a
before_yes (x ∷ u) [] a h = a
before_yes (x ∷ u) (y ∷ v) a h =
    elim (bool_tells (nat_lt x y)) [
      | inl t ↦ inl (ltb-true x y t)
      | inr f ↦
          let more : ((x == y) && is_before u v) ≡ true = subst (λ b. (b || ((x == y) && is_before u v)) ≡ true) f h in
          elim (bool_tells (x == y)) [
            | inr g ↦ let no : false ≡ true = subst (λ b. (b && is_before u v) ≡ true) g more in absurd (cc)
            | inl g ↦
                let rest : is_before u v ≡ true = subst (λ b. (b && is_before u v) ≡ true) g more in
                elim a [ inl ne ↦ absurd (ne (eqb-true x y g)) | inr b ↦ inr (eqb-true x y g, before_yes u v b rest) ]
          ]
    ]

before_no : (u v : List ℕ) → Apart u v → is_before u v ≡ false → Before v u
before_no [] v a h = absurd a
before_no (x ∷ u) [] a h = a
before_no (x ∷ u) (y ∷ v) a h =
    elim (bool_tells (nat_lt x y)) [
      | inl t ↦ let no : true ≡ false = subst (λ b. (b || ((x == y) && is_before u v)) ≡ false) t h in absurd (cc)
      | inr f ↦
          let more : ((x == y) && is_before u v) ≡ false = subst (λ b. (b || ((x == y) && is_before u v)) ≡ false) f h in
          let low = ltb-false x y f in
          elim (bool_tells (x == y)) [
            | inr g ↦ let ne : x ≢ y = eqb-false x y g in inl (omega arith)
            | inl g ↦
                let rest : is_before u v ≡ false = subst (λ b. (b && is_before u v) ≡ false) g more in
                elim a [ inl ne ↦ absurd (ne (eqb-true x y g)) | inr b ↦ inr (sym (eqb-true x y g), before_no u v b rest) ]
          ]
    ]

-- one more statement

put_same : (e : Placed) (fs : List Placed) (v : List ℕ) → In v (vectors_of (put_in_order e fs)) → (e.1 ≡ v) ⊎ In v (vectors_of fs)
put_same e [] v i = i
put_same e (f ∷ fs) v i =
    elim (is_before e.1 f.1) as (λ b. In v (vectors_of (if b then e ∷ (f ∷ fs) else f ∷ put_in_order e fs)) → (e.1 ≡ v) ⊎ In v (vectors_of (f ∷ fs))) [
      | true ↦ λ j. j
      | false ↦ λ j. elim j [ inl same ↦ inr (inl same) | inr k ↦ elim (put_same e fs v k) [ inl same ↦ inl same | inr l ↦ inr (inr l) ] ]
    ] i

put_back : (e : Placed) (fs : List Placed) (v : List ℕ) → (e.1 ≡ v) ⊎ In v (vectors_of fs) → In v (vectors_of (put_in_order e fs))
put_back e [] v i = i
put_back e (f ∷ fs) v i =
    elim (is_before e.1 f.1) as (λ b. In v (vectors_of (if b then e ∷ (f ∷ fs) else f ∷ put_in_order e fs))) [
      | true ↦ i
      | false ↦ elim i [ inl same ↦ inr (put_back e fs v (inl same)) | inr (inl same) ↦ inl same | inr (inr l) ↦ inr (put_back e fs v (inr l)) ]
    ]

put_long : (e : Placed) (fs : List Placed) → length (vectors_of (put_in_order e fs)) ≡ suc (length (vectors_of fs))
put_long e [] = refl
put_long e (f ∷ fs) =
    elim (is_before e.1 f.1) as (λ b. length (vectors_of (if b then e ∷ (f ∷ fs) else f ∷ put_in_order e fs)) ≡ suc (suc (length (vectors_of fs)))) [
      | true ↦ refl
      | false ↦ ap suc (put_long e fs)
    ]

put_rising : (u : List ℕ) (e : Placed) (fs : List Placed) → ((w : List ℕ) → In w (vectors_of fs) → Apart e.1 w) → Rising u (vectors_of fs) → Before u e.1 → Rising u (vectors_of (put_in_order e fs))
put_rising u e [] a r b = (b, tt)
put_rising u e (f ∷ fs) a (c, r) b =
    elim (is_before e.1 f.1) as (λ t. is_before e.1 f.1 ≡ t → Rising u (vectors_of (if t then e ∷ (f ∷ fs) else f ∷ put_in_order e fs))) [
      | true ↦ λ t. (b, (before_yes e.1 f.1 (a f.1 (inl refl)) t, r))
      | false ↦ λ t. (c, put_rising f.1 e fs (λ w i. a w (inr i)) r (before_no e.1 f.1 (a f.1 (inl refl)) t))
    ] refl

put_rises : (e : Placed) (fs : List Placed) → ((w : List ℕ) → In w (vectors_of fs) → Apart e.1 w) → Rises (vectors_of fs) → Rises (vectors_of (put_in_order e fs))
put_rises e [] a r = tt
put_rises e (f ∷ fs) a r =
    elim (is_before e.1 f.1) as (λ t. is_before e.1 f.1 ≡ t → Rises (vectors_of (if t then e ∷ (f ∷ fs) else f ∷ put_in_order e fs))) [
      | true ↦ λ t. (before_yes e.1 f.1 (a f.1 (inl refl)) t, r)
      | false ↦ λ t. put_rising f.1 e fs (λ w i. a w (inr i)) r (before_no e.1 f.1 (a f.1 (inl refl)) t)
    ] refl

-- all statements

ordered_there : (k : ℕ) (V : List (List ℕ)) (v : List ℕ) → In v (vectors_of (ordered_from k V)) → In v V
ordered_there k [] v i = i
ordered_there k (u ∷ V) v i = elim (put_same (k, u) (ordered_from (k + 1) V) v i) [ inl same ↦ inl same | inr j ↦ inr (ordered_there (k + 1) V v j) ]

ordered_back : (k : ℕ) (V : List (List ℕ)) (v : List ℕ) → In v V → In v (vectors_of (ordered_from k V))
ordered_back k [] v i = i
ordered_back k (u ∷ V) v (inl same) = put_back (k, u) (ordered_from (k + 1) V) v (inl same)
ordered_back k (u ∷ V) v (inr j) = put_back (k, u) (ordered_from (k + 1) V) v (inr (ordered_back (k + 1) V v j))

ordered_long : (k : ℕ) (V : List (List ℕ)) → length (vectors_of (ordered_from k V)) ≡ length V
ordered_long k [] = refl
ordered_long k (u ∷ V) = put_long (k, u) (ordered_from (k + 1) V) ∙ ap suc (ordered_long (k + 1) V)

apart_each : (v w : List ℕ) (V : List (List ℕ)) → ApartFromAll v V → In w V → Apart v w
apart_each v w [] a i = absurd i
apart_each v w (u ∷ V) (a, b) (inl e) = subst (λ z. Apart v z) e a
apart_each v w (u ∷ V) (a, b) (inr i) = apart_each v w V b i

ordered_up : (k : ℕ) (V : List (List ℕ)) → PrefixFree V → Rises (vectors_of (ordered_from k V))
ordered_up k [] free = tt
ordered_up k (u ∷ V) (a, free) =
    put_rises (k, u) (ordered_from (k + 1) V) (λ w i. apart_each u w V a (ordered_there (k + 1) V w i)) (ordered_up (k + 1) V free)

before_apart : (u v : List ℕ) → Before u v → Apart u v
before_apart [] v b = b
before_apart (x ∷ u) [] b = b
before_apart (x ∷ u) (y ∷ v) (inl l) = inl (λ e. omega arith)
before_apart (x ∷ u) (y ∷ v) (inr (e, b)) = inr (before_apart u v b)

all_apart : (u : List ℕ) (V : List (List ℕ)) → ((m : List ℕ) → In m V → Before u m) → ApartFromAll u V
all_apart u [] h = tt
all_apart u (w ∷ V) h = (before_apart u w (h w (inl refl)), all_apart u V (λ m i. h m (inr i)))

rising_free : (u : List ℕ) (V : List (List ℕ)) → Rising u V → PrefixFree (u ∷ V)
rising_free u [] r = (tt, tt)
rising_free u (w ∷ V) (b, r) = (all_apart u (w ∷ V) (λ m i. rising_after u m (w ∷ V) (b, r) i), rising_free w V r)

rises_free : (V : List (List ℕ)) → Rises V → PrefixFree V
rises_free [] r = tt
rises_free (u ∷ V) r = rising_free u V r

pub ordered_rises : OrderedRises
ordered_rises V t =
    let W : List (List ℕ) = vectors_of (ordered_from 0 V) in
    let up : Rises W = ordered_up 0 V t.free in
    let long : length W ≡ length V = ordered_long 0 V in
    record {
      tree = record {
        few = subst (λ n. n < 2 ^ 32) (sym long) t.few;
        filled = λ i. t.filled (ordered_there 0 V [] i);
        free = rises_free W up;
        dense = λ P x y w i l. let (u, j) = t.dense P x y w (ordered_there 0 V (P ++ x ∷ w) i) l in (u, ordered_back 0 V (P ++ y ∷ u) j);
      };
      same = record { there = ordered_back 0 V; back = ordered_there 0 V };
      rises = up;
      long = long;
    }
