-- The vectors with their places, and the numbers that stand at them.
use Rattle.std.proofs.Common.{◌≡◌, ℕ, ℤ, zero, suc, ◌+◌, ◌<◌, ◌≤◌, ◌++◌, Bor, refl, sym, ◌∙◌, ap, subst, arith, ◌⊎◌, inl, inr, true, false, ◌^◌, List, [], ◌∷◌, length, map, get_or, slice_get, slice_set, Some, None}
use Rattle.std.specs.List.{All, Contains, AllByRecursion as Each}
use Rattle.std.specs.List.Sorted.{IsSortedBy}
use Rattle.std.specs.Cmp.Lexicographic.{lists_total, lists_equiv}
use Rattle.std.proofs.lemmas.Cmp.{int_cmp_total, int_eq_equiv}
use Rattle.std.proofs.lemmas.List.{get_or-map, length-map}
use Rattle.std.proofs.lemmas.List.Elements.{All-contains, All-push, All-weaker, Contains-push, Contains-append_left, recursion_from_All}
use Rattle.std.proofs.lemmas.List.MinMax.{ranks_by}
use Rattle.std.proofs.lemmas.List.Sorted.{sorted_far}
use Rattle.std.proofs.lemmas.Option.{get_or_from_slice_get, slice_get_within}
use Rattle.std.proofs.lemmas.Map.Made.{All-is_member}
use Rattle.std.specs.Prelude.{nat_lt}
use Rattle.std.proofs.lemmas.Bool.Decides.{nat_tests}
use Rattle.row_core.specs.Dense.{dense_among}
use Rattle.row_core.specs.DenseOrder.{numbered_after}
use Rattle.row_core.proofs.DenseOrder.{by_bool, has, known_from, below, Known, next_dense, dense_few}

-- the place i of made has the value of f at the place i of V
abbrev pub Numbered : {A B : Type 0} → (A → B) → List A → List B → ℕ → Type 0
Numbered {A} f V made i = (w : A) → slice_get V i ≡ Some w → slice_get made i ≡ Some (f w)

some_same : {A : Type 0} (a b : A) → Some a ≡ Some b → a ≡ b
some_same a b h = cc

pub set_here : {A B : Type 0} (f : A → B) (V : List A) (made : List B) (i : ℕ) (v : A) → length made ≡ length V → slice_get V i ≡ Some v → Numbered f V (slice_set made i (f v)) i
set_here f [] made i v l h = λ w k. absurd (none_some v h) where
  none_some : {A : Type 0} (a : A) → None ≡ Some a → ⊥
  none_some a h = cc
set_here f (u ∷ V) [] i v l h = absurd (omega arith)
set_here f (u ∷ V) (m ∷ made) zero v l h = λ w k. ap (λ z. Some (f z)) (some_same v w (sym h ∙ k))
set_here f (u ∷ V) (m ∷ made) (suc i) v l h = set_here f V made i v (omega arith) h

pub set_keeps : {A B : Type 0} (f : A → B) (V : List A) (made : List B) (i j : ℕ) (v : A) → slice_get V i ≡ Some v → Numbered f V made j → Numbered f V (slice_set made i (f v)) j
set_keeps f V [] i j v h n = n
set_keeps f [] (m ∷ made) i j v h n = λ w k. absurd (none_some w k) where
  none_some : {A : Type 0} (a : A) → None ≡ Some a → ⊥
  none_some a h = cc
set_keeps f (u ∷ V) (m ∷ made) zero zero v h n = λ w k. ap (λ z. Some (f z)) (some_same v w (sym h ∙ k))
set_keeps f (u ∷ V) (m ∷ made) zero (suc j) v h n = n
set_keeps f (u ∷ V) (m ∷ made) (suc i) zero v h n = n
set_keeps f (u ∷ V) (m ∷ made) (suc i) (suc j) v h n = set_keeps f V made i j v h n

pub numbered_all : {A B : Type 0} (f : A → B) (V : List A) (made : List B) → length made ≡ length V → ((i : ℕ) → i < length V → Numbered f V made i) → made ≡ map f V
numbered_all f [] [] l h = refl
numbered_all f [] (m ∷ made) l h = absurd (omega arith)
numbered_all f (u ∷ V) [] l h = absurd (omega arith)
numbered_all f (u ∷ V) (m ∷ made) l h =
    let e : m ≡ f u = some_same m (f u) (h zero (omega arith) u refl) in
    let r : made ≡ map f V = numbered_all f V made (omega arith) (λ i b. h (suc i) (omega arith)) in
    rw (e, r) refl

-- the vectors are placed one after another

pub push_each : (V : List (List ℤ)) (placed next : List (ℕ × Bor (List ℤ))) (p : ℕ × Bor (List ℤ)) → next ≡ placed ++ p ∷ [] → slice_get V p.0 ≡ Some p.1.now → All (λ q. slice_get V q.0 ≡ Some q.1.now) placed → All (λ q. slice_get V q.0 ≡ Some q.1.now) next
push_each V placed next p e h all = rw e (All-push (λ q. slice_get V q.0 ≡ Some q.1.now) placed p all h)

map_push : (placed : List (ℕ × Bor (List ℤ))) (p : ℕ × Bor (List ℤ)) → map (λ q. q.0) (placed ++ p ∷ []) ≡ map (λ q. q.0) placed ++ p.0 ∷ []
map_push [] p = refl
map_push (q ∷ placed) p = ap (λ z. q.0 ∷ z) (map_push placed p)

pub push_all : (placed next : List (ℕ × Bor (List ℤ))) (p : ℕ × Bor (List ℤ)) (i : ℕ) → next ≡ placed ++ p ∷ [] → p.0 ≡ i → ((k : ℕ) → k < i → Contains (map (λ q. q.0) placed) k) → (k : ℕ) → k < i + 1 → Contains (map (λ q. q.0) next) k
push_all placed next p i e s all k b =
    rw (e, map_push placed p) (elim (split k i b) [
      | inl l ↦ Contains-append_left (map (λ q. q.0) placed) (p.0 ∷ []) k (all k l)
      | inr l ↦ subst (λ z. Contains (map (λ q. q.0) placed ++ p.0 ∷ []) z) (s ∙ sym l) (Contains-push (map (λ q. q.0) placed) p.0)
    ]) where
      split : (k i : ℕ) → k < i + 1 → (k < i) ⊎ (k ≡ i)
      split k i b = elim (by_bool (nat_lt k i)) [
        | inl t ↦ let l : k < i = grind (arith, nat_tests) in inl l
        | inr t ↦ let l : i ≤ k = grind (arith, nat_tests) in inr (omega arith)
      ]

-- the numbers of the vector at place i of the sorted ones

pub far : (placed : List (ℕ × Bor (List ℤ))) → IsSortedBy (λ p q. below p.1.now q.1.now) placed → (i j : ℕ) (d : ℕ × Bor (List ℤ)) → i ≤ j → j < length placed → below (get_or placed j d).1.now (get_or placed i d).1.now ≡ false
far placed up i j d a b = sorted_far (λ p q. below p.1.now q.1.now) (ranks_by (lists_total int_cmp_total) (λ (p : ℕ × Bor (List ℤ)). p.1.now)) placed up i j d a b

at_place : (V : List (List ℤ)) (placed : List (ℕ × Bor (List ℤ))) (k : ℕ) → All (λ q. slice_get V q.0 ≡ Some q.1.now) placed → Contains (map (λ q. q.0) placed) k → (d : ℕ × Bor (List ℤ)) → (j : ℕ) × (j < length placed) × (slice_get V k ≡ Some (get_or placed j d).1.now) × ((get_or placed j d).0 ≡ k)
at_place V placed k each (j, b, e) d =
    let l : length (map (λ q. q.0) placed) ≡ length placed = length-map placed (λ (q : ℕ × Bor (List ℤ)). q.0) in
    let in_range : j < length placed = omega arith in
    let is : (get_or placed j d).0 ≡ k = sym (get_or-map (λ (q : ℕ × Bor (List ℤ)). q.0) placed j d k in_range) ∙ e in
    (j, in_range, subst (λ z. slice_get V z ≡ Some (get_or placed j d).1.now) is (each j d in_range), is)

-- each vector is at most the one numbered last, or at least the one at place i
gap_at : (V : List (List ℤ)) (placed : List (ℕ × Bor (List ℤ))) (i : ℕ) (d : ℕ × Bor (List ℤ)) (u : List ℤ) → All (λ q. slice_get V q.0 ≡ Some q.1.now) placed → ((k : ℕ) → k < length V → Contains (map (λ q. q.0) placed) k) → IsSortedBy (λ p q. below p.1.now q.1.now) placed → i < length placed → ((k : ℕ) (d : ℕ × Bor (List ℤ)) → k < i → below u (get_or placed k d).1.now ≡ false) → Each (λ w. (below u w ≡ false) ⊎ (below w (get_or placed i d).1.now ≡ false)) V
gap_at V placed i d u each all up b before = recursion_from_All P V at where
  P : List ℤ → Type 0
  P w = (below u w ≡ false) ⊎ (below w (get_or placed i d).1.now ≡ false)

  by_place : (j : ℕ) → j < length placed → P (get_or placed j d).1.now
  by_place j l = elim (by_bool (nat_lt j i)) [
    | inl t ↦ let m : j < i = grind (arith, nat_tests) in inl (before j d m)
    | inr t ↦ let m : i ≤ j = grind (arith, nat_tests) in inr (far placed up i j d m l)
  ]

  at : (k : ℕ) (e : List ℤ) → k < length V → P (get_or V k e)
  at k e l =
      let found = at_place V placed k each (all k l) d in
      subst P (sym (get_or_from_slice_get V k (get_or placed found.0 d).1.now e found.2)) (by_place found.0 found.1)

has_slice : (V : List (List ℤ)) (k : ℕ) (w : List ℤ) → slice_get V k ≡ Some w → has V w ≡ true
has_slice V k w h =
    let l : k < length V = slice_get_within V k w h in
    let e : get_or V k w ≡ w = get_or_from_slice_get V k w w h in
    All-contains (λ z. has V z ≡ true) V w (All-is_member (lists_equiv int_eq_equiv) V) (k, l, e)

pub known_at : (V : List (List ℤ)) (k : ℕ) (w : List ℤ) → slice_get V k ≡ Some w → Known V w
known_at V k w h = known_from V w (has_slice V k w h)

pub next_at : (V : List (List ℤ)) (placed : List (ℕ × Bor (List ℤ))) (i : ℕ) (p : ℕ × Bor (List ℤ)) (u : List ℤ) → All (λ q. slice_get V q.0 ≡ Some q.1.now) placed → ((k : ℕ) → k < length V → Contains (map (λ q. q.0) placed) k) → IsSortedBy (λ p q. below p.1.now q.1.now) placed → i < length placed → p ≡ get_or placed i p → Known V u → ((k : ℕ) (d : ℕ × Bor (List ℤ)) → k < i → below u (get_or placed k d).1.now ≡ false) → ((k : ℕ) (d : ℕ × Bor (List ℤ)) → i ≤ k → k < length placed → below (get_or placed k d).1.now u ≡ false) → numbered_after u (dense_among V u) p.1.now ≡ dense_among V p.1.now
next_at V placed i p u each all up b is known before after =
    let next : numbered_after u (dense_among V u) (get_or placed i p).1.now ≡ dense_among V (get_or placed i p).1.now =
    next_dense u (get_or placed i p).1.now V (gap_at V placed i p u each all up b before) known (after i p (omega arith) b) in
    subst (λ z. numbered_after u (dense_among V u) z.1.now ≡ dense_among V z.1.now) (sym is) next

pub few_at : (V : List (List ℤ)) (v : List ℤ) (ns : List ℕ) → ns ≡ dense_among V v → length V < 2 ^ 32 → All (λ n. n < 2 ^ 32) ns
few_at V v ns e l = rw e (All-weaker (λ n. n ≤ length V) (λ n. n < 2 ^ 32) (λ n h. omega arith) (dense_among V v) (dense_few V v))

pub at_item : (V : List (List ℤ)) (placed : List (ℕ × Bor (List ℤ))) (i : ℕ) (p : ℕ × Bor (List ℤ)) → All (λ q. slice_get V q.0 ≡ Some q.1.now) placed → i < length placed → p ≡ get_or placed i p → slice_get V p.0 ≡ Some p.1.now
at_item V placed i p each b is = subst (λ z. slice_get V z.0 ≡ Some z.1.now) (sym is) (each i p b)

-- none is below the empty vector
pub below_none : (w : List ℤ) → below w [] ≡ false
below_none [] = refl
below_none (x ∷ w) = refl

get_or_default : {A : Type 0} (xs : List A) (i : ℕ) (a b : A) → i < length xs → get_or xs i a ≡ get_or xs i b
get_or_default [] i a b l = absurd (omega arith)
get_or_default (x ∷ xs) zero a b l = refl
get_or_default (x ∷ xs) (suc i) a b l = get_or_default xs i a b (omega arith)

-- the order of the vectors before and after place i, seen from the vector that stands there
pub before_item : (placed : List (ℕ × Bor (List ℤ))) (i : ℕ) (p : ℕ × Bor (List ℤ)) → IsSortedBy (λ p q. below p.1.now q.1.now) placed → i < length placed → p ≡ get_or placed i p → (k : ℕ) (d : ℕ × Bor (List ℤ)) → k < i + 1 → below p.1.now (get_or placed k d).1.now ≡ false
before_item placed i p up b is k d l =
    let k_in : k < length placed = omega arith in
    let h : below (get_or placed i p).1.now (get_or placed k p).1.now ≡ false = far placed up k i p (omega arith) b in
    let g : below p.1.now (get_or placed k p).1.now ≡ false = subst (λ z. below z.1.now (get_or placed k p).1.now ≡ false) (sym is) h in
    subst (λ z. below p.1.now z.1.now ≡ false) (get_or_default placed k p d k_in) g

pub after_item : (placed : List (ℕ × Bor (List ℤ))) (i : ℕ) (p : ℕ × Bor (List ℤ)) → IsSortedBy (λ p q. below p.1.now q.1.now) placed → i < length placed → p ≡ get_or placed i p → (k : ℕ) (d : ℕ × Bor (List ℤ)) → i + 1 ≤ k → k < length placed → below (get_or placed k d).1.now p.1.now ≡ false
after_item placed i p up b is k d l m =
    let h : below (get_or placed k p).1.now (get_or placed i p).1.now ≡ false = far placed up i k p (omega arith) m in
    let g : below (get_or placed k p).1.now p.1.now ≡ false = subst (λ z. below (get_or placed k p).1.now z.1.now ≡ false) (sym is) h in
    subst (λ z. below z.1.now p.1.now ≡ false) (get_or_default placed k p d m) g

pub done_item : (V : List (List ℤ)) (made : List (List ℕ)) (placed : List (ℕ × Bor (List ℤ))) (i : ℕ) (p : ℕ × Bor (List ℤ)) → length made ≡ length V → slice_get V p.0 ≡ Some p.1.now → i < length placed → p ≡ get_or placed i p → ((k : ℕ) (d : ℕ × Bor (List ℤ)) → k < i → Numbered (dense_among V) V made (get_or placed k d).0) → (ns : List ℕ) → ns ≡ dense_among V p.1.now → (next : List (List ℕ)) → next ≡ slice_set made p.0 ns → (k : ℕ) (d : ℕ × Bor (List ℤ)) → k < i + 1 → Numbered (dense_among V) V next (get_or placed k d).0
done_item V made placed i p l here b is done ns e next s k d m = rw (s, e) (elim (by_bool (nat_lt k i)) [
  | inl t ↦ let n : k < i = grind (arith, nat_tests) in set_keeps (dense_among V) V made p.0 (get_or placed k d).0 p.1.now here (done k d n)
  | inr t ↦
      let n : i ≤ k = grind (arith, nat_tests) in
      let same : i ≡ k = omega arith in
      let at : p.0 ≡ (get_or placed k d).0 = ap (λ z. z.0) (is ∙ (get_or_default placed i p d b ∙ ap (λ z. get_or placed z d) same)) in
      subst (λ z. Numbered (dense_among V) V (slice_set made p.0 (dense_among V p.1.now)) z) at (set_here (dense_among V) V made p.0 p.1.now l here)
])

pub made_all : (V : List (List ℤ)) (made : List (List ℕ)) (placed : List (ℕ × Bor (List ℤ))) (i : ℕ) → length made ≡ length V → length placed ≤ i → All (λ q. slice_get V q.0 ≡ Some q.1.now) placed → ((k : ℕ) → k < length V → Contains (map (λ q. q.0) placed) k) → ((k : ℕ) (d : ℕ × Bor (List ℤ)) → k < i → Numbered (dense_among V) V made (get_or placed k d).0) → (d : ℕ × Bor (List ℤ)) → made ≡ map (dense_among V) V
made_all V made placed i l b each all done d = numbered_all (dense_among V) V made l at where
  at : (k : ℕ) → k < length V → Numbered (dense_among V) V made k
  at k m =
      let found = at_place V placed k each (all k m) d in
      subst (Numbered (dense_among V) V made) found.3 (done found.0 d (omega arith))
