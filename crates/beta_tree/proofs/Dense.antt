-- The dense numbering makes a tree of vectors of which none is empty or a prefix of another.
use Rattle.std.proofs.Common.{◌≡◌, ◌≢◌, ℕ, zero, suc, ℤ, ◌<ℤ◌, ◌≤ℤ◌, ◌+◌, ◌<◌, ◌≤◌, ◌^◌, ◌==◌, Bool, true, false, if◌then◌else◌, cond, ◌||◌, ◌⊎◌, inl, inr, List, [], ◌∷◌, ◌++◌, length, map, filter, refl, sym, ◌∙◌, ap, subst, arith, int_lt}
use Rattle.std.specs.List.{IsDistinct}
use Rattle.std.specs.Set.{unique_keys, is_member}
use Rattle.std.specs.Ordering.{int_eq}
use Rattle.std.proofs.lemmas.Int.{ints}
use Rattle.std.proofs.lemmas.Bool.{eqb-true, eqb-false}
use Rattle.std.proofs.lemmas.List.{length-map}
use Rattle.std.proofs.lemmas.Cmp.{int_eq_equiv}
use Rattle.std.proofs.lemmas.Bool.Decides.{Decides-int_eq}
use Rattle.std.proofs.lemmas.Map.Made.{length-le_from_is_member}
use Rattle.beta_tree.specs.Vectors.{heads, rests, lesser, dense_among, dense_of, In, Apart, PrefixFree, NoneEmpty, IsDense, IsTree}
use Rattle.beta_tree.proofs.Places.{bool_tells, In-map, from_In-map, In-heads, from_In-heads}
use Rattle.beta_tree.proofs.Distinct.{member_from_In, In_from_member, member_of_unique, unique_distinct, distinct-cons}
use Rattle.beta_tree.proofs.Grafts.{free_map}

-- tests of integers

pub eq_right : (x y : ℤ) → int_eq x y ≡ true → x ≡ y
eq_right x y h = (Decides-int_eq x y).0 h

pub eq_self : (x : ℤ) → int_eq x x ≡ true
eq_self x = (Decides-int_eq x x).1 refl

eq_no : (x y : ℤ) → int_eq x y ≡ false → x ≢ y
eq_no x y h e = let g : int_eq x y ≡ true = (Decides-int_eq x y).1 e in cc

lt_right : (x y : ℤ) → int_lt x y ≡ true → x <ℤ y
lt_right x y h = omega (arith, ints)

lt_left : (x y : ℤ) → x <ℤ y → int_lt x y ≡ true
lt_left x y h = elim (bool_tells (int_lt x y)) [ inl t ↦ t | inr f ↦ absurd (omega (arith, ints)) ]

-- members that pass a test

In-filter : {A : Type 0} (test : A → Bool) (a : A) (xs : List A) → In a xs → test a ≡ true → In a (filter test xs)
In-filter test a [] h t = absurd h
In-filter test a (x ∷ xs) (inl e) t = let g : test x ≡ true = rw e t in rw g (inl e)
In-filter test a (x ∷ xs) (inr h) t = elim (test x) as (λ b. In a (cond b (x ∷ filter test xs) (filter test xs))) [ true ↦ inr (In-filter test a xs h t) | false ↦ In-filter test a xs h t ]

from_In-filter : {A : Type 0} (test : A → Bool) (a : A) (xs : List A) → In a (filter test xs) → In a xs × (test a ≡ true)
from_In-filter test a [] h = absurd h
from_In-filter test a (x ∷ xs) h =
    elim (test x) as (λ b. test x ≡ b → In a (cond b (x ∷ filter test xs) (filter test xs)) → (x ≡ a ⊎ In a xs) × (test a ≡ true)) [
      | true ↦ λ e k. elim k [
        | inl same ↦ (inl same, subst (λ z. test z ≡ true) same e)
        | inr more ↦ let (i, t) = from_In-filter test a xs more in (inr i, t)
      ]
      | false ↦ λ e k. let (i, t) = from_In-filter test a xs k in (inr i, t)
    ] refl h

-- the members below a, once each
abbrev below_keys : ℤ → List ℤ → List ℤ
below_keys a xs = unique_keys int_eq (filter (λ y. int_lt y a) xs)

in_below : (q a : ℤ) (xs : List ℤ) → In q xs → q <ℤ a → is_member int_eq (below_keys a xs) q ≡ true
in_below q a xs i l =
    member_of_unique int_eq eq_right eq_self q (filter (λ y. int_lt y a) xs)
    ∙ member_from_In int_eq eq_right eq_self q (filter (λ y. int_lt y a) xs) (In-filter (λ y. int_lt y a) q xs i (lt_left q a l))

from_below : (q a : ℤ) (xs : List ℤ) → is_member int_eq (below_keys a xs) q ≡ true → In q xs × (q <ℤ a)
from_below q a xs h =
    let (i, t) = from_In-filter (λ y. int_lt y a) q xs (In_from_member int_eq eq_right eq_self q (filter (λ y. int_lt y a) xs) (sym (member_of_unique int_eq eq_right eq_self q (filter (λ y. int_lt y a) xs)) ∙ h)) in
    (i, lt_right q a t)

below_distinct : (a : ℤ) (xs : List ℤ) → IsDistinct int_eq (a ∷ below_keys a xs)
below_distinct a xs =
    distinct-cons int_eq eq_right eq_self a (below_keys a xs)
    (elim (bool_tells (is_member int_eq (below_keys a xs) a)) [ inl t ↦ absurd (let (i, l) = from_below a a xs t in omega (arith, ints)) | inr f ↦ f ])
    (unique_distinct int_eq eq_right eq_self (filter (λ y. int_lt y a) xs))

member_cons : (q a : ℤ) (ks : List ℤ) → is_member int_eq (a ∷ ks) q ≡ true → (q ≡ a) ⊎ (is_member int_eq ks q ≡ true)
member_cons q a ks h =
    elim (int_eq q a) as (λ b. int_eq q a ≡ b → (b || is_member int_eq ks q) ≡ true → (q ≡ a) ⊎ (is_member int_eq ks q ≡ true)) [
      | true ↦ λ e g. inl (eq_right q a e)
      | false ↦ λ e g. inr g
    ] refl h

-- a lesser member has a lesser number
pub lesser_strict : (a b : ℤ) (xs : List ℤ) → In a xs → a <ℤ b → lesser a xs < lesser b xs
lesser_strict a b xs i l =
    let within : length (a ∷ below_keys a xs) ≤ length (below_keys b xs) = length-le_from_is_member int_eq_equiv (a ∷ below_keys a xs) (below_keys b xs) (below_distinct a xs) (λ q h.
    elim (member_cons q a (below_keys a xs) h) [
      | inl e ↦ in_below q b xs (subst (λ z. In z xs) (sym e) i) (rw e l)
      | inr m ↦ let (k, less) = from_below q a xs m in in_below q b xs k (omega (arith, ints))
    ]) in
    omega arith

-- the greatest member
greatest : (x : ℤ) (xs : List ℤ) → (a : ℤ) × In a (x ∷ xs) × ((z : ℤ) → In z (x ∷ xs) → z ≤ℤ a)
greatest x [] = (x, inl refl, λ z h. elim h [ inl e ↦ omega (arith, ints) | inr n ↦ absurd n ])
greatest x (y ∷ xs) =
    let (a, i, top) = greatest y xs in
    elim (bool_tells (int_lt a x)) [
      | inl t ↦ let l = lt_right a x t in (x, inl refl, λ z h. elim h [ inl e ↦ omega (arith, ints) | inr k ↦ let g = top z k in omega (arith, ints) ])
      | inr f ↦ (a, inr i, λ z h. elim h [ inl e ↦ omega (arith, ints) | inr k ↦ top z k ])
    ]

pred_of : (b : ℤ) (xs : List ℤ) (k : ℤ) (ks : List ℤ) → filter (λ y. int_lt y b) xs ≡ k ∷ ks → (a : ℤ) × In a (k ∷ ks) × ((z : ℤ) → In z (k ∷ ks) → z ≤ℤ a) → (a : ℤ) × In a xs × (lesser a xs + 1 ≡ lesser b xs)
pred_of b xs k ks e (a, i, top) =
    let (j, t) = from_In-filter (λ y. int_lt y b) a xs (subst (λ z. In a z) (sym e) i) in
    let low = lesser_strict a b xs j (lt_right a b t) in
    let high : length (below_keys b xs) ≤ length (a ∷ below_keys a xs) =
    length-le_from_is_member int_eq_equiv (below_keys b xs) (a ∷ below_keys a xs) (unique_distinct int_eq eq_right eq_self (filter (λ y. int_lt y b) xs)) (λ q h.
    let (m, l) = from_below q b xs h in
    let at_most : q ≤ℤ a = top q (subst (λ z. In q z) e (In-filter (λ y. int_lt y b) q xs m (lt_left q b l))) in
    elim (int_eq q a) as (λ c. int_eq q a ≡ c → (c || is_member int_eq (below_keys a xs) q) ≡ true) [
      | true ↦ λ f. refl
      | false ↦ λ f. in_below q a xs m (let ne : q ≢ a = eq_no q a f in omega (arith, ints))
    ] refl) in
    (a, j, omega arith)

-- the member right below b
pub pred_member : (b : ℤ) (xs : List ℤ) → 0 < lesser b xs → (a : ℤ) × In a xs × (lesser a xs + 1 ≡ lesser b xs)
pred_member b xs some =
    elim (filter (λ y. int_lt y b) xs) as (λ ks. filter (λ y. int_lt y b) xs ≡ ks → (a : ℤ) × In a xs × (lesser a xs + 1 ≡ lesser b xs)) [
      | [] ↦ λ e. absurd (let none : lesser b xs ≡ 0 = ap (λ ks. length (unique_keys int_eq ks)) e in omega arith)
      | k ∷ ks ↦ λ e. pred_of b xs k ks e (greatest k ks)
    ] refl

below_or_same : (y n : ℕ) → y < suc n → (n ≡ y) ⊎ (y < n)
below_or_same y n l = elim (bool_tells (n == y)) [ inl t ↦ inl (eqb-true n y t) | inr f ↦ inr (let ne : n ≢ y = eqb-false n y f in omega arith) ]

-- each number below that of a member is the number of a member
lower_member : (n : ℕ) (b : ℤ) (xs : List ℤ) → lesser b xs ≡ n → (y : ℕ) → y < n → (a : ℤ) × In a xs × (lesser a xs ≡ y)
lower_member zero b xs e y l = absurd (omega arith)
lower_member (suc n) b xs e y l =
    let (a, i, next) = pred_member b xs (omega arith) in
    elim (below_or_same y n (omega arith)) [
      | inl same ↦ let is : lesser a xs ≡ y = omega arith in (a, i, is)
      | inr less ↦ lower_member n a xs (omega arith) y less
    ]

-- the rests of the vectors that begin with a number

In-rests : (x : ℤ) (w : List ℤ) (V : List (List ℤ)) → In (x ∷ w) V → In w (rests x V)
In-rests x w [] h = absurd h
In-rests x w ([] ∷ V) (inl e) = absurd (cc)
In-rests x w ([] ∷ V) (inr h) = In-rests x w V h
In-rests x w ((y ∷ v) ∷ V) (inl e) =
    let same : y ≡ x = cc in
    let rest : v ≡ w = cc in
    let t : int_eq y x ≡ true = rw same (eq_self x) in
    rw t (inl rest)
In-rests x w ((y ∷ v) ∷ V) (inr h) =
    elim (int_eq y x) as (λ b. In w (if b then v ∷ rests x V else rests x V)) [ true ↦ inr (In-rests x w V h) | false ↦ In-rests x w V h ]

from_In-rests : (x : ℤ) (w : List ℤ) (V : List (List ℤ)) → In w (rests x V) → In (x ∷ w) V
from_In-rests x w [] h = absurd h
from_In-rests x w ([] ∷ V) h = inr (from_In-rests x w V h)
from_In-rests x w ((y ∷ v) ∷ V) h =
    elim (int_eq y x) as (λ b. int_eq y x ≡ b → In w (if b then v ∷ rests x V else rests x V) → In (x ∷ w) ((y ∷ v) ∷ V)) [
      | true ↦ λ e k. elim k [
        | inl same ↦ let is : y ≡ x = eq_right y x e in inl (cc)
        | inr more ↦ inr (from_In-rests x w V more)
      ]
      | false ↦ λ e k. inr (from_In-rests x w V k)
    ] refl h

-- the dense numbers are dense

dense_lower : (P : List ℕ) (V : List (List ℤ)) (v : List ℤ) (x y : ℕ) (w : List ℕ) → In v V → dense_among V v ≡ P ++ x ∷ w → y < x → (t : List ℤ) × (u : List ℕ) × In t V × (dense_among V t ≡ P ++ y ∷ u)
dense_lower [] V [] x y w i e l = absurd (cc)
dense_lower (p ∷ P) V [] x y w i e l = absurd (cc)
dense_lower [] V (a ∷ v) x y w i e l =
    let is : lesser a (heads V) ≡ x = cc in
    let (b, j, f) = lower_member (lesser a (heads V)) a (heads V) refl y (omega arith) in
    let (t, k) = from_In-heads b V j in
    (b ∷ t, dense_among (rests b V) t, k, ap (λ n. n ∷ dense_among (rests b V) t) f)
dense_lower (p ∷ P) V (a ∷ v) x y w i e l =
    let is : lesser a (heads V) ≡ p = cc in
    let more : dense_among (rests a V) v ≡ P ++ x ∷ w = cc in
    let (t, u, k, f) = dense_lower P (rests a V) v x y w (In-rests a v V i) more l in
    (a ∷ t, u, from_In-rests a t V k, ap (λ n. n ∷ dense_among (rests a V) t) is ∙ ap (λ z. p ∷ z) f)

dense_dense : (V : List (List ℤ)) → IsDense (dense_of V)
dense_dense V P x y w h l =
    let (v, i, e) = from_In-map (dense_among V) (P ++ x ∷ w) V h in
    let (t, u, k, f) = dense_lower P V v x y w i e l in
    (u, subst (λ z. In z (map (dense_among V) V)) f (In-map (dense_among V) t V k))

-- vectors that differ have dense numbers that differ

lesser_differs : (a b : ℤ) (xs : List ℤ) → In a xs → In b xs → a ≢ b → lesser a xs ≢ lesser b xs
lesser_differs a b xs i j ne e =
    elim (bool_tells (int_lt a b)) [
      | inl t ↦ let l = lesser_strict a b xs i (lt_right a b t) in omega arith
      | inr f ↦ let less : b <ℤ a = omega (arith, ints) in let l = lesser_strict b a xs j less in omega arith
    ]

dense_apart : (V : List (List ℤ)) (v w : List ℤ) → In v V → In w V → Apart v w → Apart (dense_among V v) (dense_among V w)
dense_apart V [] w i j a = absurd a
dense_apart V (x ∷ v) [] i j a = absurd a
dense_apart V (x ∷ v) (y ∷ w) i j a =
    elim (bool_tells (int_eq x y)) [
      | inr f ↦ inl (lesser_differs x y (heads V) (In-heads x v V i) (In-heads y w V j) (eq_no x y f))
      | inl t ↦
          let same : x ≡ y = eq_right x y t in
          let more : Apart v w = elim a [ inl ne ↦ absurd (ne same) | inr b ↦ b ] in
          let k : In (x ∷ w) V = subst (λ z. In (z ∷ w) V) (sym same) j in
          inr (subst (λ z. Apart (dense_among (rests x V) v) (dense_among (rests z V) w)) same (dense_apart (rests x V) v w (In-rests x v V i) (In-rests x w V k) more))
    ]

dense_nil : (V : List (List ℤ)) (v : List ℤ) → dense_among V v ≡ [] → v ≡ []
dense_nil V [] e = refl
dense_nil V (x ∷ v) e = absurd (cc)

pub dense_tree : (V : List (List ℤ)) → length V < 2 ^ 32 → NoneEmpty V → PrefixFree V → IsTree (dense_of V)
dense_tree V few filled free = record {
  few = rw length-map few;
  filled = λ h. let (v, i, e) = from_In-map (dense_among V) [] V h in filled (subst (λ z. In z V) (dense_nil V v e) i);
  free = free_map (dense_among V) V (dense_apart V) free;
  dense = dense_dense V;
}
