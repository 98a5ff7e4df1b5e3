-- Lists of coefficients in pieces: slices, entries, weights, and the one row that passes a test.
use Rattle.std.proofs.Common.{◌≡◌, ◌⊎◌, inl, inr, ℕ, zero, suc, ◌+◌, ◌-◌, ◌<◌, ◌≤◌, Bool, true, false, ◌&&◌, List, [], ◌∷◌, ◌++◌, length, take, drop, set, map, ℤ, pos, negsuc, ◌+ℤ◌, neg_ℤ, unsigned_abs, refl, ap, sym, ◌∙◌, subst, arith, add-one, add-zero, zero-add, suc-add}
use Rattle.std.specs.Prelude.{slice_range, ◌==◌, count_by, cond}
use Rattle.std.proofs.lemmas.Int.{ints}
use Rattle.std.proofs.lemmas.List.{length-append, length-drop, length-replicate, length-set, get_or_append_left, get_or-append-add, get_or-set_same, get_or-set_other, drop-append-le, set-set, set-get_or, set_split}
use Rattle.std.proofs.Math.Seq.{drop_at, take_at, drop-append-add}
use Rattle.std.proofs.lemmas.List.Recursion.{is_count_by}
use Rattle.schedule_forms.proofs.SolvedShapes.{both}
use Rattle.std.specs.Ordering.{int_eq}
use Rattle.std.proofs.lemmas.Bool.Decides.{Decides-int_eq, Decides-eqb}
use Rattle.row_core.specs.Rows.{entry}
use Rattle.relation_core.specs.declared.part_rows.PartRow.{PartRow}
use Rattle.scop_data.specs.Sequences.{In}
use Rattle.scop_data.specs.SolvedRows.{zeros, unit, raised}
use Rattle.schedule_forms.specs.SolvedForm.{weight, cleared, first_row, are_opposite}

pub true_if : (t : Bool) → (t ≡ false → ⊥) → t ≡ true
true_if true h = refl
true_if false h = absurd (h refl)

pub false_if : (t : Bool) → (t ≡ true → ⊥) → t ≡ false
false_if true h = absurd (h refl)
false_if false h = refl

pub and_true : (a b : Bool) → a ≡ true → b ≡ true → (a && b) ≡ true
and_true true b e f = f
and_true false b e f = absurd (cc)

pub and_false : (a b : Bool) → b ≡ false → (a && b) ≡ false
and_false true b f = f
and_false false b f = refl

pub same_number : (a b : ℕ) → a ≡ b → (a == b) ≡ true
same_number a b e = (Decides-eqb a b).1 e

pub other_number : (a b : ℕ) → (a ≡ b → ⊥) → (a == b) ≡ false
other_number a b h = false_if (a == b) (λ e. h ((Decides-eqb a b).0 e))

-- of two places one is before the other, or they are one
pub apart : (t k : ℕ) → (t < k) ⊎ ((t ≡ k) ⊎ (k < t))
apart zero zero = inr (inl refl)
apart zero (suc k) = inl (omega arith)
apart (suc t) zero = inr (inr (omega arith))
apart (suc t) (suc k) = elim (apart t k) [ inl h ↦ inl (omega arith) | inr (inl e) ↦ inr (inl (ap suc e)) | inr (inr h) ↦ inr (inr (omega arith)) ]

-- a piece in the middle
pub middle : (a b c : List ℤ) (i j : ℕ) → length a ≡ i → i + length b ≡ j → slice_range (a ++ (b ++ c)) i j ≡ b
middle a b c i j ea ej = ap (λ r. take (j - i) r) (drop_at a (b ++ c) i ea) ∙ take_at b c (j - i) (omega arith)

-- its end
pub middle_from : (a b c : List ℤ) (i k j : ℕ) → length a + k ≡ i → length a + length b ≡ j → k ≤ length b
    → slice_range (a ++ (b ++ c)) i j ≡ drop k b
middle_from a b c i k j ei ej h =
    let d : drop i (a ++ (b ++ c)) ≡ drop k b ++ c
    = ap (λ m. drop m (a ++ (b ++ c))) (sym ei) ∙ (drop-append-add a (b ++ c) k ∙ drop-append-le k b c h) in
    ap (λ r. take (j - i) r) d ∙ take_at (drop k b) c (j - i) (omega (arith, length-drop k b))

-- one of its entries
pub middle_entry : (a b c : List ℤ) (i k : ℕ) → length a + k ≡ i → k < length b → entry (a ++ (b ++ c)) i ≡ entry b k
middle_entry a b c i k e h =
    ap (λ m. entry (a ++ (b ++ c)) m) (sym e) ∙ (get_or-append-add a (b ++ c) k (pos 0) ∙ get_or_append_left b c (pos 0) k h)

pub cleared_is : (row : List ℤ) (k : ℕ) → k < length row → cleared row k ≡ set row k (pos 0)
cleared_is row k h = ap (λ m. take k row ++ pos 0 ∷ drop m row) (add-one k) ∙ sym (set_split row k (pos 0) h)

pub raised_is : (row : List ℤ) (k : ℕ) (z : ℤ) → k < length row → raised row k z ≡ set row k (entry row k +ℤ z)
raised_is row k z h = ap (λ m. take k row ++ (entry row k +ℤ z) ∷ drop m row) (add-one k) ∙ sym (set_split row k (entry row k +ℤ z) h)

set_behind : (a r : List ℤ) (k : ℕ) (v : ℤ) → set (a ++ r) (length a + k) v ≡ a ++ set r k v
set_behind [] r k v = ap (λ m. set r m v) (zero-add k)
set_behind (x ∷ a) r k v = ap (λ m. set (x ∷ (a ++ r)) m v) (suc-add (length a) k) ∙ ap (λ t. x ∷ t) (set_behind a r k v)

set_front : (b c : List ℤ) (k : ℕ) (v : ℤ) → k < length b → set (b ++ c) k v ≡ set b k v ++ c
set_front [] c k v h = absurd (omega arith)
set_front (x ∷ b) c zero v h = refl
set_front (x ∷ b) c (suc k) v h = ap (λ t. x ∷ t) (set_front b c k v (omega arith))

pub cleared_middle : (a b c : List ℤ) (i k : ℕ) → length a + k ≡ i → k < length b → cleared (a ++ (b ++ c)) i ≡ a ++ (cleared b k ++ c)
cleared_middle a b c i k e h =
    cleared_is (a ++ (b ++ c)) i (omega (arith, length-append a (b ++ c), length-append b c))
    ∙ (ap (λ m. set (a ++ (b ++ c)) m (pos 0)) (sym e)
    ∙ (set_behind a (b ++ c) k (pos 0)
    ∙ (ap (λ t. a ++ t) (set_front b c k (pos 0) h)
    ∙ ap (λ t. a ++ (t ++ c)) (sym (cleared_is b k h)))))

-- an entry that is 0, raised and cleared
pub cleared_raised : (row : List ℤ) (k : ℕ) (z : ℤ) → k < length row → entry row k ≡ pos 0 → cleared (raised row k z) k ≡ row
cleared_raised row k z h e =
    let r : raised row k z ≡ set row k (entry row k +ℤ z) = raised_is row k z h in
    ap (λ t. cleared t k) r
    ∙ (cleared_is (set row k (entry row k +ℤ z)) k (omega (arith, length-set row k (entry row k +ℤ z)))
    ∙ (set-set row k (entry row k +ℤ z) (pos 0)
    ∙ (ap (λ v. set row k v) (sym e) ∙ set-get_or row k (pos 0))))

pub length_raised : (row : List ℤ) (k : ℕ) (z : ℤ) → k < length row → length (raised row k z) ≡ length row
length_raised row k z h = ap length (raised_is row k z h) ∙ length-set row k (entry row k +ℤ z)

pub raised_here : (row : List ℤ) (k : ℕ) (z : ℤ) → k < length row → entry (raised row k z) k ≡ entry row k +ℤ z
raised_here row k z h = ap (λ t. entry t k) (raised_is row k z h) ∙ get_or-set_same row k (entry row k +ℤ z) (pos 0) h

pub raised_other : (row : List ℤ) (k : ℕ) (z : ℤ) (j : ℕ) → k < length row → (j ≡ k → ⊥) → entry (raised row k z) j ≡ entry row j
raised_other row k z j h d = ap (λ t. entry t j) (raised_is row k z h) ∙ get_or-set_other row k j (entry row k +ℤ z) (pos 0) d

pub entry_weight : (row : List ℤ) (k : ℕ) → unsigned_abs (entry row k) ≤ weight row
entry_weight [] k = omega arith
entry_weight (x ∷ row) zero = omega arith
entry_weight (x ∷ row) (suc k) = omega (arith, entry_weight row k)

pub weightless : (row : List ℤ) → ((k : ℕ) → entry row k ≡ pos 0) → weight row ≡ 0
weightless [] h = refl
weightless (x ∷ row) h =
    let first : x ≡ pos 0 = h 0 in
    let rest : weight row ≡ 0 = weightless row (λ k. h (suc k)) in omega (arith, ints)

pub no_entry : (row : List ℤ) → weight row ≡ 0 → (k : ℕ) → entry row k ≡ pos 0
no_entry row h k = let w = entry_weight row k in omega (arith, ints)

pub weight_append : (a b : List ℤ) → weight (a ++ b) ≡ weight a + weight b
weight_append [] b = omega arith
weight_append (x ∷ a) b = omega (arith, weight_append a b)

pub weight_zeros : (n : ℕ) → weight (zeros n) ≡ 0
weight_zeros zero = refl
weight_zeros (suc n) = omega (arith, weight_zeros n)

pub weight_unit : (n k : ℕ) → weight (unit n k (negsuc 0)) ≡ 1
weight_unit n k = omega (arith, weight_append (zeros k) (negsuc 0 ∷ zeros (n - (k + 1))), weight_zeros k, weight_zeros (n - (k + 1)))

pub length_unit : (n k : ℕ) (z : ℤ) → k < n → length (unit n k z) ≡ n
length_unit n k z h =
    omega (arith, length-append (zeros k) (z ∷ zeros (n - (k + 1))), length-replicate k (pos 0), length-replicate (n - (k + 1)) (pos 0))

pub entry_zeros : (n j : ℕ) → entry (zeros n) j ≡ pos 0
entry_zeros n j = no_entry (zeros n) (weight_zeros n) j

past_zeros : (k j : ℕ) (r : List ℤ) → entry (zeros k ++ r) (k + j) ≡ entry r j
past_zeros k j r = ap (λ m. entry (zeros k ++ r) (m + j)) (sym (length-replicate k (pos 0))) ∙ get_or-append-add (zeros k) r j (pos 0)

pub entry_unit : (n k : ℕ) (z : ℤ) → entry (unit n k z) k ≡ z
entry_unit n k z = ap (λ m. entry (unit n k z) m) (sym (add-zero k)) ∙ past_zeros k zero (z ∷ zeros (n - (k + 1)))

behind : (k j : ℕ) → (j < k) ⊎ (((i : ℕ) × (j ≡ k + suc i)) ⊎ (j ≡ k))
behind zero zero = inr (inr refl)
behind zero (suc j) = inr (inl (j, omega arith))
behind (suc k) zero = inl (omega arith)
behind (suc k) (suc j) =
    elim (behind k j) [ inl h ↦ inl (omega arith) | inr (inl f) ↦ inr (inl (f.0, omega (arith, f.1))) | inr (inr e) ↦ inr (inr (ap suc e)) ]

pub entry_unit_other : (n k j : ℕ) (z : ℤ) → (j ≡ k → ⊥) → entry (unit n k z) j ≡ pos 0
entry_unit_other n k j z d = by (behind k j)
  where
    by : (j < k) ⊎ (((i : ℕ) × (j ≡ k + suc i)) ⊎ (j ≡ k)) → entry (unit n k z) j ≡ pos 0
    by (inl h) = get_or_append_left (zeros k) (z ∷ zeros (n - (k + 1))) (pos 0) j (omega (arith, length-replicate k (pos 0))) ∙ entry_zeros k j
    by (inr (inl f)) =
        ap (λ m. entry (unit n k z) m) f.1 ∙ (past_zeros k (suc f.0) (z ∷ zeros (n - (k + 1))) ∙ entry_zeros (n - (k + 1)) f.0)
    by (inr (inr e)) = absurd (d e)

-- a list and its negative
pub negative_entry : (row : List ℤ) (k : ℕ) → entry (map neg_ℤ row) k ≡ neg_ℤ (entry row k)
negative_entry [] k = refl
negative_entry (x ∷ row) zero = refl
negative_entry (x ∷ row) (suc k) = negative_entry row k

pub negative_weight : (row : List ℤ) → weight (map neg_ℤ row) ≡ weight row
negative_weight [] = refl
negative_weight (x ∷ row) =
    let h : weight (map neg_ℤ row) ≡ weight row = negative_weight row in omega (arith, ints)

pub negative_drop : (k : ℕ) (row : List ℤ) → drop k (map neg_ℤ row) ≡ map neg_ℤ (drop k row)
negative_drop zero row = refl
negative_drop (suc k) [] = refl
negative_drop (suc k) (x ∷ row) = negative_drop k row

pub opposite : (row : List ℤ) → are_opposite (map neg_ℤ row) row ≡ true
opposite [] = refl
opposite (x ∷ row) = and_true _ _ ((Decides-int_eq (neg_ℤ x) (neg_ℤ x)).1 refl) (opposite row)

pub opposite_append : (a b c d : List ℤ) → are_opposite a b ≡ true → are_opposite c d ≡ true → are_opposite (a ++ c) (b ++ d) ≡ true
opposite_append [] [] c d h g = g
opposite_append [] (y ∷ b) c d h g = absurd (cc)
opposite_append (x ∷ a) [] c d h g = absurd (cc)
opposite_append (x ∷ a) (y ∷ b) c d h g =
    let p = both (int_eq x (neg_ℤ y)) (are_opposite a b) h in and_true _ _ p.0 (opposite_append a b c d p.1 g)

pub opposite_zeros : (n : ℕ) → are_opposite (zeros n) (zeros n) ≡ true
opposite_zeros zero = refl
opposite_zeros (suc n) = opposite_zeros n

-- no row passes the test
abbrev pub Nowhere : (PartRow → Bool) → List PartRow → Type 0
Nowhere test [] = Unit {0}
Nowhere test (row ∷ rows) = (test row ≡ false) × Nowhere test rows

-- this row, at one place, and no other passes the test
abbrev pub Only : (PartRow → Bool) → List PartRow → PartRow → Type 0
Only test [] r = ⊥
Only test (row ∷ rows) r = ((test row ≡ true) × (row ≡ r) × Nowhere test rows) ⊎ ((test row ≡ false) × Only test rows r)

-- how many rows pass the test
hits : (PartRow → Bool) → List PartRow → ℕ
hits test [] = 0
hits test (row ∷ rows) = cond (test row) (1 + hits test rows) (hits test rows)

hits_are : (test : PartRow → Bool) (rows : List PartRow) → hits test rows ≡ count_by test rows
unfolding hits
hits_are test rows = is_count_by (hits test) test refl (λ x xs. refl) rows

nowhere_hits : (test : PartRow → Bool) (rows : List PartRow) → Nowhere test rows → hits test rows ≡ 0
unfolding hits
nowhere_hits test [] h = refl
nowhere_hits test (row ∷ rows) h = rw h.0 (nowhere_hits test rows h.1)

only_hits : (test : PartRow → Bool) (rows : List PartRow) (r : PartRow) → Only test rows r → hits test rows ≡ 1
unfolding hits
only_hits test [] r h = absurd h
only_hits test (row ∷ rows) r (inl h) = rw h.0 (omega (arith, nowhere_hits test rows h.2))
only_hits test (row ∷ rows) r (inr h) = rw h.0 (only_hits test rows r h.1)

hits_nowhere : (test : PartRow → Bool) (rows : List PartRow) → hits test rows ≡ 0 → Nowhere test rows
unfolding hits
hits_nowhere test [] h = tt
hits_nowhere test (row ∷ rows) h = by (hits_nowhere test rows) (test row) refl
  where
    by : (hits test rows ≡ 0 → Nowhere test rows) → (t : Bool) → test row ≡ t → (test row ≡ false) × Nowhere test rows
    by rest true e = absurd (omega (arith, ap (λ t. cond t (1 + hits test rows) (hits test rows)) (sym e) ∙ h))
    by rest false e = (e, rest (ap (λ t. cond t (1 + hits test rows) (hits test rows)) (sym e) ∙ h))

hits_only : (test : PartRow → Bool) (rows : List PartRow) → hits test rows ≡ 1 → Only test rows (first_row test rows)
unfolding hits
hits_only test [] h = absurd (omega arith)
hits_only test (row ∷ rows) h = by (hits_only test rows) (test row) refl
  where
    by : (hits test rows ≡ 1 → Only test rows (first_row test rows)) → (t : Bool) → test row ≡ t → Only test (row ∷ rows) (first_row test (row ∷ rows))
    by rest true e =
        let n : hits test rows ≡ 0 = omega (arith, ap (λ t. cond t (1 + hits test rows) (hits test rows)) (sym e) ∙ h) in
        inl (e, ap (λ t. cond t row (first_row test rows)) (sym e), hits_nowhere test rows n)
    by rest false e =
        let n : hits test rows ≡ 1 = ap (λ t. cond t (1 + hits test rows) (hits test rows)) (sym e) ∙ h in
        inr (e, subst (Only test rows) (ap (λ t. cond t row (first_row test rows)) (sym e)) (rest n))

pub only_counted : (test : PartRow → Bool) (rows : List PartRow) (r : PartRow) → Only test rows r → (count_by test rows == 1) ≡ true
only_counted test rows r h = same_number (count_by test rows) 1 (sym (hits_are test rows) ∙ only_hits test rows r h)

pub counted_only : (test : PartRow → Bool) (rows : List PartRow) → (count_by test rows == 1) ≡ true → Only test rows (first_row test rows)
counted_only test rows h = hits_only test rows (hits_are test rows ∙ (Decides-eqb (count_by test rows) 1).0 h)

pub only_first : (test : PartRow → Bool) (rows : List PartRow) (r : PartRow) → Only test rows r → first_row test rows ≡ r
only_first test [] r h = absurd h
only_first test (row ∷ rows) r (inl h) = ap (λ t. cond t row (first_row test rows)) h.0 ∙ h.1
only_first test (row ∷ rows) r (inr h) = ap (λ t. cond t row (first_row test rows)) h.0 ∙ only_first test rows r h.1

pub only_passes : (test : PartRow → Bool) (rows : List PartRow) (r : PartRow) → Only test rows r → test r ≡ true
only_passes test [] r h = absurd h
only_passes test (row ∷ rows) r (inl h) = subst (λ t. test t ≡ true) h.1 h.0
only_passes test (row ∷ rows) r (inr h) = only_passes test rows r h.1

pub only_in : (test : PartRow → Bool) (rows : List PartRow) (r : PartRow) → Only test rows r → In r rows
only_in test [] r h = absurd h
only_in test (row ∷ rows) r (inl h) = inl h.1
only_in test (row ∷ rows) r (inr h) = inr (only_in test rows r h.1)

nowhere_in : (test : PartRow → Bool) (rows : List PartRow) (s : PartRow) → Nowhere test rows → In s rows → test s ≡ false
nowhere_in test [] s h i = absurd i
nowhere_in test (row ∷ rows) s h (inl e) = subst (λ t. test t ≡ false) e h.0
nowhere_in test (row ∷ rows) s h (inr i) = nowhere_in test rows s h.1 i

-- what passes the test is that row
pub only_one : (test : PartRow → Bool) (rows : List PartRow) (r s : PartRow) → Only test rows r → In s rows → test s ≡ true → s ≡ r
only_one test [] r s h i p = absurd h
only_one test (row ∷ rows) r s (inl h) (inl e) p = sym e ∙ h.1
only_one test (row ∷ rows) r s (inl h) (inr i) p = absurd (cc (nowhere_in test rows s h.2 i))
only_one test (row ∷ rows) r s (inr h) (inl e) p = absurd (cc (subst (λ t. test t ≡ false) e h.0))
only_one test (row ∷ rows) r s (inr h) (inr i) p = only_one test rows r s h.1 i p

pub nowhere_append : (test : PartRow → Bool) (a b : List PartRow) → Nowhere test a → Nowhere test b → Nowhere test (a ++ b)
nowhere_append test [] b h g = g
nowhere_append test (row ∷ a) b h g = (h.0, nowhere_append test a b h.1 g)

pub only_left : (test : PartRow → Bool) (a b : List PartRow) (r : PartRow) → Only test a r → Nowhere test b → Only test (a ++ b) r
only_left test [] b r h g = absurd h
only_left test (row ∷ a) b r (inl h) g = inl (h.0, h.1, nowhere_append test a b h.2 g)
only_left test (row ∷ a) b r (inr h) g = inr (h.0, only_left test a b r h.1 g)

pub only_right : (test : PartRow → Bool) (a b : List PartRow) (r : PartRow) → Nowhere test a → Only test b r → Only test (a ++ b) r
only_right test [] b r h g = g
only_right test (row ∷ a) b r h g = inr (h.0, only_right test a b r h.1 g)

pub length_cleared : (row : List ℤ) (k : ℕ) → k < length row → length (cleared row k) ≡ length row
length_cleared row k h = ap length (cleared_is row k h) ∙ length-set row k (pos 0)
