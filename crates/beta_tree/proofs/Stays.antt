-- The dense numbering leaves a dense tree as it is.
use Rattle.std.proofs.Common.{◌≡◌, ◌≢◌, ℕ, zero, suc, ℤ, pos, ◌+◌, ◌<◌, ◌==◌, nat_lt, true, false, if◌then◌else◌, inl, inr, Some, None, List, [], ◌∷◌, map, refl, sym, ◌∙◌, ap, subst, arith}
use Rattle.std.specs.List.{cons_option}
use Rattle.std.specs.Ordering.{int_eq}
use Rattle.std.proofs.lemmas.Int.{ints}
use Rattle.std.proofs.lemmas.Bool.{eqb-true, eqb-false, ltb-true, ltb-false}
use Rattle.beta_tree.specs.Vectors.{under, heads, rests, lesser, dense_among, In, IsDense}
use Rattle.beta_tree.specs.Laws.{DenseStays}
use Rattle.beta_tree.proofs.Places.{bool_tells, In-map, from_In-map, In-heads, In-under}
use Rattle.beta_tree.proofs.Counts.{Closed}
use Rattle.beta_tree.proofs.Grafts.{dense_under}
use Rattle.beta_tree.proofs.Trees.{closed_children}
use Rattle.beta_tree.proofs.Dense.{eq_right, eq_self, lesser_strict, pred_member}

abbrev numbers : List ℕ → List ℤ
numbers v = map pos v

heads_of_numbers : (V : List (List ℕ)) → heads (map numbers V) ≡ map pos (heads V)
heads_of_numbers [] = refl
heads_of_numbers ([] ∷ V) = heads_of_numbers V
heads_of_numbers ((x ∷ v) ∷ V) = ap (λ z. pos x ∷ z) (heads_of_numbers V)

same_number : (y x : ℕ) → int_eq (pos y) (pos x) ≡ (y == x)
same_number y x =
    elim (bool_tells (y == x)) [
      | inl t ↦ let e : y ≡ x = eqb-true y x t in let a : int_eq (pos y) (pos x) ≡ true = rw e (eq_self (pos x)) in a ∙ sym t
      | inr f ↦ elim (bool_tells (int_eq (pos y) (pos x))) [
        | inl t ↦ absurd (let e : pos y ≡ pos x = eq_right (pos y) (pos x) t in let g : y ≡ x = cc in eqb-false y x f g)
        | inr g ↦ g ∙ sym f
      ]
    ]

rests_of_numbers : (x : ℕ) (V : List (List ℕ)) → rests (pos x) (map numbers V) ≡ map numbers (under (x ∷ []) V)
rests_of_numbers x [] = refl
rests_of_numbers x ([] ∷ V) = rests_of_numbers x V
rests_of_numbers x ((y ∷ v) ∷ V) =
    rw (same_number y x)
    (elim (y == x) as (λ t. (if t then numbers v ∷ rests (pos x) (map numbers V) else rests (pos x) (map numbers V)) ≡ map numbers (cons_option (if t then Some v else None) (under (x ∷ []) V))) [
      | true ↦ ap (λ z. numbers v ∷ z) (rests_of_numbers x V)
      | false ↦ rests_of_numbers x V
    ])

-- the member right below a number, as a number
number_below : (k : ℕ) (xs : List ℕ) → 0 < lesser (pos k) (map pos xs) → (m : ℕ) × In (pos m) (map pos xs) × (lesser (pos m) (map pos xs) + 1 ≡ lesser (pos k) (map pos xs))
number_below k xs l =
    let (a, i, e) = pred_member (pos k) (map pos xs) l in
    let (m, j, f) = from_In-map pos a xs i in
    (m, subst (λ z. In z (map pos xs)) (sym f) i, ap (λ z. lesser z (map pos xs) + 1) f ∙ e)

-- a number below another has a lesser place
in_order : (m k : ℕ) (xs : List ℕ) → In (pos m) (map pos xs) → m < k → lesser (pos m) (map pos xs) < lesser (pos k) (map pos xs)
in_order m k xs i l = lesser_strict (pos m) (pos k) (map pos xs) i (omega (arith, ints))

-- a member of a list that has with each number each lesser one is its own dense number
number_is : (k : ℕ) (xs : List ℕ) → Closed xs → In k xs → lesser (pos k) (map pos xs) ≡ k
number_is zero xs closed i =
    elim (bool_tells (nat_lt 0 (lesser (pos 0) (map pos xs)))) [
      | inr f ↦ let l = ltb-false 0 (lesser (pos 0) (map pos xs)) f in omega arith
      | inl t ↦
          let (m, j, e) = number_below 0 xs (ltb-true 0 (lesser (pos 0) (map pos xs)) t) in
          elim (bool_tells (nat_lt 0 m)) [
            | inl k ↦ let l = in_order 0 m xs (In-map pos 0 xs i) (ltb-true 0 m k) in absurd (omega arith)
            | inr f ↦ let z : m ≡ 0 = (let l = ltb-false 0 m f in omega arith) in let g : lesser (pos m) (map pos xs) ≡ lesser (pos 0) (map pos xs) = ap (λ n. lesser (pos n) (map pos xs)) z in absurd (omega arith)
          ]
    ]
number_is (suc k) xs closed i =
    let j : In k xs = closed (suc k) k i (omega arith) in
    let before : lesser (pos k) (map pos xs) ≡ k = number_is k xs closed j in
    let up = in_order k (suc k) xs (In-map pos k xs j) (omega arith) in
    let (m, h, e) = number_below (suc k) xs (omega arith) in
    elim (bool_tells (nat_lt m k)) [
      | inl t ↦ let l = in_order m k xs h (ltb-true m k t) in absurd (omega arith)
      | inr f ↦ elim (bool_tells (m == k)) [
        | inl t ↦ let g : lesser (pos m) (map pos xs) ≡ lesser (pos k) (map pos xs) = ap (λ n. lesser (pos n) (map pos xs)) (eqb-true m k t) in omega arith
        | inr ne ↦
            let low = ltb-false m k f in
            let other : m ≢ k = eqb-false m k ne in
            elim (bool_tells (m == suc k)) [
              | inl t ↦ let g : lesser (pos m) (map pos xs) ≡ lesser (pos (suc k)) (map pos xs) = ap (λ n. lesser (pos n) (map pos xs)) (eqb-true m (suc k) t) in absurd (omega arith)
              | inr ne2 ↦ let other2 : m ≢ suc k = eqb-false m (suc k) ne2 in let l = in_order (suc k) m xs (In-map pos (suc k) xs i) (omega arith) in absurd (omega arith)
            ]
      ]
    ]

under_nil : (V : List (List ℕ)) → under [] V ≡ V
under_nil [] = refl
under_nil (v ∷ V) = ap (λ z. v ∷ z) (under_nil V)

closed_heads : (V : List (List ℕ)) → IsDense V → Closed (heads V)
closed_heads V d = subst (λ W. Closed (heads W)) (under_nil V) (closed_children [] V d)

vector_stays : (v : List ℕ) (V : List (List ℕ)) → IsDense V → In v V → dense_among (map numbers V) (numbers v) ≡ v
vector_stays [] V d i = refl
vector_stays (x ∷ w) V d i =
    let first : lesser (pos x) (heads (map numbers V)) ≡ x = rw (heads_of_numbers V) (number_is x (heads V) (closed_heads V d) (In-heads x w V i)) in
    let more : dense_among (rests (pos x) (map numbers V)) (numbers w) ≡ w = rw (rests_of_numbers x V) (vector_stays w (under (x ∷ []) V) (dense_under (x ∷ []) V d) (In-under (x ∷ []) w V i)) in
    ap (λ n. n ∷ dense_among (rests (pos x) (map numbers V)) (numbers w)) first ∙ ap (λ z. x ∷ z) more

all_stay : (W V : List (List ℕ)) → IsDense V → ((v : List ℕ) → In v W → In v V) → map (dense_among (map numbers V)) (map numbers W) ≡ W
all_stay [] V d h = refl
all_stay (w ∷ W) V d h = let a = vector_stays w V d (h w (inl refl)) in let b = all_stay W V d (λ v i. h v (inr i)) in cc

pub dense_stays : DenseStays
dense_stays V t = all_stay V V t.dense (λ v i. i)
