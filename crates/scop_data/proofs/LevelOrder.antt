-- The order of two stamps by levels.
use Rattle.std.proofs.Common.{◌≡◌, ◌⊎◌, inl, inr, ℕ, zero, suc, ◌+◌, ◌<◌, ◌≤◌, List, [], ◌∷◌, length, ℤ, Bool, true, false, if◌then◌else◌, int_lt, refl, sym, ◌∙◌, ap, subst, arith}
use Rattle.std.specs.Prelude.{◌↔◌, ◌<ℤ◌}
use Rattle.std.specs.Ordering.{int_eq}
use Rattle.std.proofs.lemmas.Int.{ints}
use Rattle.std.proofs.lemmas.Bool.Decides.{Decides-int_eq}
use Rattle.std.specs.List.{range_with_len}
use Rattle.std.proofs.lemmas.List.{length-map}
use Rattle.row_core.specs.Rows.{entry}
use Rattle.scop_data.specs.Order.{Before}
use Rattle.scop_data.specs.Sequences.{In}
use Rattle.scop_data.specs.Meaning.{interleaved}
use Rattle.scop_data.proofs.Memories.{in_either}
use Rattle.scop_data.proofs.IntTests.{lt_of, eq_no}
use Rattle.scop_data.proofs.Members.{in_range, range_has, in_front, in_behind}
use Rattle.scop_data.specs.LevelOrder.{common_loops, is_textually_before, EqualUpTo, LessAfter, IsLevel, levels_between, OrdersAt, level_values}
use Rattle.scop_data.specs.RunLaws.{BeforeByLevels, BeforeIsAtALevel, OneVectorHasAllLoops, LoopsAreCommon, LevelsAreListed, LevelsByEntries, SchedulesOrderAtALevel}

-- what orders two lists of values, with so many loops around both, and where the text's order is known
abbrev pub Ordered : ℕ → Bool → List ℤ → List ℤ → Type 0
Ordered common textual v w = ((n : ℕ) × (n < common) × LessAfter n v w) ⊎ ((textual ≡ true) × EqualUpTo common v w)

lt_is : (x y : ℤ) → int_lt x y ≡ true → x <ℤ y
lt_is x y h = omega (arith, ints)

-- the first betas differ, or where they are the same the loops end: only the text's order is left
ends : (b c : ℤ) (v w : List ℤ) → ((b <ℤ c) ⊎ ((b ≡ c) × ⊥)) ↔ Ordered 0 (if int_eq b c then false else int_lt b c) v w
ends b c v w = (into, back (int_eq b c))
  where
    into : (b <ℤ c) ⊎ ((b ≡ c) × ⊥) → Ordered 0 (if int_eq b c then false else int_lt b c) v w
    into (inl l) = inr (rw (eq_no b c (λ e. absurd (omega (arith, ints, l, e)))) (lt_of b c l), tt)
    into (inr h) = absurd h.1

    back : (t : Bool) → Ordered 0 (if t then false else int_lt b c) v w → (b <ℤ c) ⊎ ((b ≡ c) × ⊥)
    back t (inl h) = absurd (omega (arith, h.1))
    back true (inr h) = absurd (let e : false ≡ true = h.0 in cc)
    back false (inr h) = inl (lt_is b c h.0)

-- what orders them from the betas b and c on, where t tells that these are the same
abbrev After : Bool → ℤ → ℤ → ℕ → Bool → List ℤ → List ℤ → Type 0
After t b c common textual v w = Ordered (if t then suc common else 0) (if t then textual else int_lt b c) v w

-- one loop more around both, and what follows it
goes_on : (b c x y : ℤ) (common : ℕ) (textual : Bool) (v w : List ℤ) (B : Type 0) → B ↔ Ordered common textual v w
    → ((b <ℤ c) ⊎ ((b ≡ c) × ((x <ℤ y) ⊎ ((x ≡ y) × B))))
    ↔ Ordered (if int_eq b c then suc common else 0) (if int_eq b c then textual else int_lt b c) (x ∷ v) (y ∷ w)
goes_on b c x y common textual v w B rest = (into, back (int_eq b c) refl)
  where
    more : x ≡ y → Ordered common textual v w → Ordered (suc common) textual (x ∷ v) (y ∷ w)
    more e (inl h) = inl (suc h.0, omega (arith, h.1), (e, h.2))
    more e (inr h) = inr (h.0, (e, h.1))

    same : (x <ℤ y) ⊎ ((x ≡ y) × B) → Ordered (suc common) textual (x ∷ v) (y ∷ w)
    same (inl l) = inl (0, omega arith, l)
    same (inr h) = more h.0 (rest.0 h.1)

    into : (b <ℤ c) ⊎ ((b ≡ c) × ((x <ℤ y) ⊎ ((x ≡ y) × B))) → After (int_eq b c) b c common textual (x ∷ v) (y ∷ w)
    into (inl l) = subst (λ t. After t b c common textual (x ∷ v) (y ∷ w)) (sym (eq_no b c (λ e. absurd (omega (arith, ints, l, e))))) (inr (lt_of b c l, tt))
    into (inr h) = subst (λ t. After t b c common textual (x ∷ v) (y ∷ w)) (sym ((Decides-int_eq b c).1 h.0)) (same h.1)

    less : Ordered (suc common) textual (x ∷ v) (y ∷ w) → (x <ℤ y) ⊎ ((x ≡ y) × B)
    less (inl (zero, k, l)) = inl l
    less (inl (suc n, k, l)) = inr (l.0, rest.1 (inl (n, omega (arith, k), l.1)))
    less (inr h) = inr (h.1.0, rest.1 (inr (h.0, h.1.1)))

    back : (t : Bool) → int_eq b c ≡ t → After t b c common textual (x ∷ v) (y ∷ w) → (b <ℤ c) ⊎ ((b ≡ c) × ((x <ℤ y) ⊎ ((x ≡ y) × B)))
    back true e h = inr ((Decides-int_eq b c).0 e, less h)
    back false e (inl h) = absurd (omega (arith, h.1))
    back false e (inr h) = inl (lt_is b c h.0)

pub before_by_levels : BeforeByLevels
before_by_levels [] q v w e f = absurd (omega (arith, e))
before_by_levels (b ∷ p) [] v w e f = absurd (omega (arith, f))
before_by_levels (b ∷ []) (c ∷ q) (x ∷ v) w e f = absurd (omega (arith, e))
before_by_levels (b ∷ []) (c ∷ q) [] [] e f = ends b c [] []
before_by_levels (b ∷ []) (c ∷ q) [] (y ∷ w) e f = ends b c [] (y ∷ w)
before_by_levels (b ∷ (b' ∷ p)) (c ∷ q) [] w e f = absurd (omega (arith, e))
before_by_levels (b ∷ (b' ∷ p)) (c ∷ []) (x ∷ v) [] e f = ends b c (x ∷ v) []
before_by_levels (b ∷ (b' ∷ p)) (c ∷ []) (x ∷ v) (y ∷ w) e f = absurd (omega (arith, f))
before_by_levels (b ∷ (b' ∷ p)) (c ∷ (c' ∷ q)) (x ∷ v) [] e f = absurd (omega (arith, f))
before_by_levels (b ∷ (b' ∷ p)) (c ∷ (c' ∷ q)) (x ∷ v) (y ∷ w) e f =
    goes_on b c x y (common_loops (b' ∷ p) (c' ∷ q)) (is_textually_before (b' ∷ p) (c' ∷ q)) v w
    (Before (interleaved (b' ∷ p) v) (interleaved (c' ∷ q) w))
    (before_by_levels (b' ∷ p) (c' ∷ q) v w (omega (arith, e)) (omega (arith, f)))

pub before_is_at_a_level : BeforeIsAtALevel
before_is_at_a_level p q v w e f = ((λ h. into ((before_by_levels p q v w e f).0 h)), λ h. (before_by_levels p q v w e f).1 (back h))
  where
    into : Ordered (common_loops p q) (is_textually_before p q) v w → (l : ℕ) × IsLevel p q l × OrdersAt (common_loops p q) v w l
    into (inl h) = (suc h.0, h.1, h.2)
    into (inr h) = (0, h.0, h.1)

    back : (l : ℕ) × IsLevel p q l × OrdersAt (common_loops p q) v w l → Ordered (common_loops p q) (is_textually_before p q) v w
    back (zero, i, o) = inr (i, o)
    back (suc n, i, o) = inl (n, i, o)

eq_self : (x : ℤ) → int_eq x x ≡ true
eq_self x = (Decides-int_eq x x).1 refl

pub one_vector_has_all_loops : OneVectorHasAllLoops
one_vector_has_all_loops [] v e = absurd (omega (arith, e))
one_vector_has_all_loops (b ∷ []) [] e = (refl, rw (eq_self b) refl)
one_vector_has_all_loops (b ∷ []) (x ∷ v) e = absurd (omega (arith, e))
one_vector_has_all_loops (b ∷ (b' ∷ p)) [] e = absurd (omega (arith, e))
one_vector_has_all_loops (b ∷ (b' ∷ p)) (x ∷ v) e =
    let rest = one_vector_has_all_loops (b' ∷ p) v (omega (arith, e)) in
    let count : common_loops (b' ∷ p) (b' ∷ p) ≡ length v = rest.0 in
    (rw (eq_self b) (omega (arith, count)), rw (eq_self b) rest.1)

eq_back : (x y : ℤ) → int_eq x y ≡ int_eq y x
eq_back x y = by (int_eq x y) (int_eq y x) refl refl
  where
    by : (s t : Bool) → int_eq x y ≡ s → int_eq y x ≡ t → s ≡ t
    by true t e f = sym ((Decides-int_eq y x).1 (sym ((Decides-int_eq x y).0 e))) ∙ f
    by false true e f = sym e ∙ (Decides-int_eq x y).1 (sym ((Decides-int_eq y x).0 f))
    by false false e f = refl

few : (t : Bool) (k m : ℕ) → k ≤ m → (if t then suc k else 0) ≤ suc m
few true k m l = omega (arith, l)
few false k m l = omega arith

loops_of_first : (p q v : List ℤ) → length p ≡ length v + 1 → common_loops p q ≤ length v
loops_of_first [] q v e = absurd (omega (arith, e))
loops_of_first (b ∷ []) q v e = omega arith
loops_of_first (b ∷ (b' ∷ p)) [] v e = omega arith
loops_of_first (b ∷ (b' ∷ p)) (c ∷ []) v e = omega arith
loops_of_first (b ∷ (b' ∷ p)) (c ∷ (c' ∷ q)) [] e = absurd (omega (arith, e))
loops_of_first (b ∷ (b' ∷ p)) (c ∷ (c' ∷ q)) (x ∷ v) e =
    let rest : common_loops (b' ∷ p) (c' ∷ q) ≤ length v = loops_of_first (b' ∷ p) (c' ∷ q) v (omega (arith, e)) in
    omega (arith, few (int_eq b c) (common_loops (b' ∷ p) (c' ∷ q)) (length v) rest)

loops_back : (p q : List ℤ) → common_loops p q ≡ common_loops q p
loops_back [] [] = refl
loops_back [] (c ∷ []) = refl
loops_back [] (c ∷ (c' ∷ q)) = refl
loops_back (b ∷ []) [] = refl
loops_back (b ∷ []) (c ∷ []) = refl
loops_back (b ∷ []) (c ∷ (c' ∷ q)) = refl
loops_back (b ∷ (b' ∷ p)) [] = refl
loops_back (b ∷ (b' ∷ p)) (c ∷ []) = refl
loops_back (b ∷ (b' ∷ p)) (c ∷ (c' ∷ q)) =
    ap (λ t. if t then suc (common_loops (b' ∷ p) (c' ∷ q)) else 0) (eq_back b c)
    ∙ ap (λ k. if int_eq c b then suc k else 0) (loops_back (b' ∷ p) (c' ∷ q))

pub loops_are_common : LoopsAreCommon
loops_are_common p q v w e f =
    (loops_of_first p q v e, subst (λ k. k ≤ length w) (sym (loops_back p q)) (loops_of_first q p w f), loops_back p q)

pub levels_are_listed : LevelsAreListed
levels_are_listed p q l = ((λ i. into l (in_either l (range_with_len 1 (common_loops p q)) (if is_textually_before p q then 0 ∷ [] else []) i)), back l)
  where
    of_text : (t : Bool) (l : ℕ) → In l (if t then 0 ∷ [] else []) → (0 ≡ l) × (t ≡ true)
    of_text true l (inl e) = (e, refl)
    of_text true l (inr i) = absurd i
    of_text false l i = absurd i

    into : (l : ℕ) → In l (range_with_len 1 (common_loops p q)) ⊎ In l (if is_textually_before p q then 0 ∷ [] else []) → IsLevel p q l
    into zero (inl i) = absurd (omega (arith, (in_range 1 (common_loops p q) zero i).0))
    into zero (inr i) = (of_text (is_textually_before p q) zero i).1
    into (suc n) (inl i) = omega (arith, (in_range 1 (common_loops p q) (suc n) i).1)
    into (suc n) (inr i) = absurd (omega (arith, (of_text (is_textually_before p q) (suc n) i).0))

    back : (l : ℕ) → IsLevel p q l → In l (levels_between p q)
    back zero h = in_behind 0 (range_with_len 1 (common_loops p q)) _ (subst (λ t. In {A = ℕ} 0 (if t then 0 ∷ [] else [])) (sym h) (inl refl))
    back (suc n) h = in_front (suc n) (range_with_len 1 (common_loops p q)) _ (range_has 1 (common_loops p q) (suc n) (omega arith) (omega (arith, h)))

equal_entries : (n : ℕ) (v w : List ℤ) → EqualUpTo n v w → (k : ℕ) → k < n → entry v k ≡ entry w k
equal_entries zero v w h k l = absurd (omega (arith, l))
equal_entries (suc n) [] w h k l = absurd h
equal_entries (suc n) (x ∷ v) [] h k l = absurd h
equal_entries (suc n) (x ∷ v) (y ∷ w) h zero l = h.0
equal_entries (suc n) (x ∷ v) (y ∷ w) h (suc k) l = equal_entries n v w h.1 k (omega (arith, l))

from_entries : (n : ℕ) (v w : List ℤ) → n ≤ length v → n ≤ length w → ((k : ℕ) → k < n → entry v k ≡ entry w k) → EqualUpTo n v w
from_entries zero v w a b h = tt
from_entries (suc n) [] w a b h = absurd (omega (arith, a))
from_entries (suc n) (x ∷ v) [] a b h = absurd (omega (arith, b))
from_entries (suc n) (x ∷ v) (y ∷ w) a b h = (h 0 (omega arith), from_entries n v w (omega (arith, a)) (omega (arith, b)) (λ k l. h (suc k) (omega (arith, l))))

less_parts : (n : ℕ) (v w : List ℤ) → LessAfter n v w → EqualUpTo n v w × (entry v n <ℤ entry w n)
less_parts n [] w h = absurd h
less_parts n (x ∷ v) [] h = absurd h
less_parts zero (x ∷ v) (y ∷ w) h = (tt, h)
less_parts (suc n) (x ∷ v) (y ∷ w) h = let rest = less_parts n v w h.1 in ((h.0, rest.0), rest.1)

from_parts : (n : ℕ) (v w : List ℤ) → n < length v → n < length w → EqualUpTo n v w → entry v n <ℤ entry w n → LessAfter n v w
from_parts n [] w a b e l = absurd (omega (arith, a))
from_parts n (x ∷ v) [] a b e l = absurd (omega (arith, b))
from_parts zero (x ∷ v) (y ∷ w) a b e l = l
from_parts (suc n) (x ∷ v) (y ∷ w) a b e l = (e.0, from_parts n v w (omega (arith, a)) (omega (arith, b)) e.1 l)

pub levels_by_entries : LevelsByEntries
levels_by_entries n v w a b = (
  (equal_entries n v w, from_entries n v w a b),
  λ a' b'. (
    (λ h. let parts = less_parts n v w h in record { equal = equal_entries n v w parts.0; less = parts.1 }),
    λ h. from_parts n v w a' b' (from_entries n v w a b h.equal) h.less,
  ),
)

pub schedules_order_at_a_level : SchedulesOrderAtALevel
schedules_order_at_a_level s t e f x y n =
    before_is_at_a_level s.betas t.betas (level_values s x n) (level_values t y n)
    (e ∙ ap (λ m. m + 1) (sym (length-map s.levels _))) (f ∙ ap (λ m. m + 1) (sym (length-map t.levels _)))
