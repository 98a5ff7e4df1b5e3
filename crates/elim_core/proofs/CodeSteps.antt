-- What the loops over rows and entries have found.
use Rattle.std.proofs.Common.{◌≡◌, refl, ap, sym, ◌∙◌, inl, inr, ℕ, zero, suc, ◌+◌, ◌-◌, ◌*◌, ◌<◌, ◌≤◌, List, [], ◌∷◌, ◌++◌, length, take, drop, arith}
use Rattle.std.specs.Prelude.{true, false, Some, int_lt, ℤ, pos, ◌-ℤ◌}
use Rattle.std.proofs.lemmas.Int.{ints}
use Rattle.std.proofs.lemmas.List.{length-append}
use Rattle.row_core.specs.Rows.{entry}
use Rattle.relation_core.specs.declared.part_rows.PartRow.{PartRow}
use Rattle.relation_core.specs.Systems.{row_at}
use Rattle.elim_core.specs.Elimination.{is_zero, is_equal, same_cells, last_variable, first_equality, without_equality, flat_rows, against, crossed, projected}
use Rattle.elim_core.specs.RowLists.{positives, negatives}
use Rattle.elim_core.proofs.Tests.{by_bool, zero_is, zero_test, nonzero_is, same_cells_is, both_of_cond, is_less, not_less}

pub last_zero : (k m : ℕ) (cells : List ℤ) → k ≡ m + 1 → is_zero (entry cells m) ≡ true → last_variable k cells ≡ last_variable m cells
last_zero zero m cells e z = absurd (omega arith)
last_zero (suc k) m cells e z = let h : k ≡ m = omega arith in rw (h, z) refl

pub last_found : (k m : ℕ) (cells : List ℤ) → k ≡ m + 1 → is_zero (entry cells m) ≡ false → last_variable k cells ≡ m
last_found zero m cells e z = absurd (omega arith)
last_found (suc k) m cells e z = let h : k ≡ m = omega arith in rw (h, z) refl

same_test : (x y : ℤ) → x ≡ y → is_zero (x -ℤ y) ≡ true
same_test x y e = zero_test (x -ℤ y) (omega (arith, ints))

pub same_cells_test : (n : ℕ) (a b : List ℤ) → n ≤ length a → n ≤ length b → ((i : ℕ) → i < n → entry a i ≡ entry b i) → same_cells (take n a) (take n b) ≡ true
same_cells_test zero a b la lb h = refl
same_cells_test (suc n) [] b la lb h = absurd (omega arith)
same_cells_test (suc n) (x ∷ a) [] la lb h = absurd (omega arith)
same_cells_test (suc n) (x ∷ a) (y ∷ b) la lb h =
    both_of_cond (is_zero (x -ℤ y)) (same_cells (take n a) (take n b)) (same_test x y (h 0 (omega arith)))
    (same_cells_test n a b (omega arith) (omega arith) (λ i l. h (suc i) (omega arith)))

pub entry_take : (n : ℕ) (a : List ℤ) (k : ℕ) → k < n → entry (take n a) k ≡ entry a k
entry_take zero a k l = absurd (omega arith)
entry_take (suc n) [] k l = refl
entry_take (suc n) (x ∷ a) zero l = refl
entry_take (suc n) (x ∷ a) (suc k) l = entry_take n a k (omega arith)

pub not_same_cells : (n : ℕ) (a b : List ℤ) (k : ℕ) → k < n → ¬ (entry a k ≡ entry b k) → same_cells (take n a) (take n b) ≡ false
not_same_cells n a b k l d = elim (by_bool (same_cells (take n a) (take n b))) [
  | inl e ↦ absurd (d (sym (entry_take n a k l) ∙ (ap (λ t. entry t k) (same_cells_is (take n a) (take n b) e) ∙ entry_take n b k l)))
  | inr e ↦ e
]

-- the row at a place begins what is left from there
pub row_first : (rows : List PartRow) (k : ℕ) → k < length rows → drop k rows ≡ row_at rows k ∷ drop (suc k) rows
row_first [] k l = absurd (omega arith)
row_first (r ∷ rows) zero l = refl
row_first (r ∷ rows) (suc k) l = row_first rows k (omega arith)

-- what a found equality is
pub record FoundEquality (rows : List PartRow) (k : ℕ) : Type 0 where
  pub first : first_equality rows ≡ Some (row_at rows k)
  pub rest : without_equality rows ≡ take k rows ++ drop (suc k) rows

pub found_equality : (rows : List PartRow) (k : ℕ) → k < length rows → is_equal (row_at rows k).kind ≡ true
    → first_equality (drop k rows) ≡ first_equality rows → take k rows ++ without_equality (drop k rows) ≡ without_equality rows → FoundEquality rows k
found_equality rows k l e f w =
    let d = row_first rows k l in
    let f2 : Some (row_at rows k) ≡ first_equality rows = rw (d, e) at f in
    let w2 : take k rows ++ drop (suc k) rows ≡ without_equality rows = rw (d, e) at w in
    record { first = sym f2; rest = sym w2 }

length_against : (j : ℕ) (p : PartRow) (ws : List PartRow) → length (against j p ws) ≡ negatives j ws
length_against j p [] = refl
length_against j p (q ∷ ws) = elim (by_bool (int_lt (entry q.entries j) (pos 0))) [
  | inl e ↦ rw e (omega (arith, length_against j p ws))
  | inr e ↦ rw e (length_against j p ws)
]

add_times : (a b : ℕ) → (a + 1) * b ≡ a * b + b
add_times a b = grind arith

length_crossed : (j : ℕ) (ps ws : List PartRow) → length (crossed j ps ws) ≡ positives j ps * negatives j ws
length_crossed j [] ws = omega arith
length_crossed j (p ∷ ps) ws = elim (by_bool (int_lt (pos 0) (entry p.entries j))) [
  | inl e ↦ rw e (omega (arith, length-append (against j p ws) (crossed j ps ws), length_against j p ws, length_crossed j ps ws, add_times (positives j ps) (negatives j ws)))
  | inr e ↦ rw e (length_crossed j ps ws)
]

length_flat : (j : ℕ) (ws : List PartRow) → length (flat_rows j ws) + positives j ws + negatives j ws ≡ length ws
length_flat j [] = refl
length_flat j (w ∷ ws) = elim (by_bool (is_zero (entry w.entries j))) [
  | inl e ↦ let z = zero_is (entry w.entries j) e in
      let a : int_lt (pos 0) (entry w.entries j) ≡ false = not_less (pos 0) (entry w.entries j) (omega (arith, ints)) in
      let b : int_lt (entry w.entries j) (pos 0) ≡ false = not_less (entry w.entries j) (pos 0) (omega (arith, ints)) in
      rw (e, a, b) (omega (arith, length_flat j ws))
  | inr e ↦ elim (nonzero_is (entry w.entries j) e) [
    | inl l ↦
        let a : int_lt (pos 0) (entry w.entries j) ≡ false = not_less (pos 0) (entry w.entries j) (omega (arith, ints)) in
        let b : int_lt (entry w.entries j) (pos 0) ≡ true = is_less (entry w.entries j) (pos 0) l in
        rw (e, a, b) (omega (arith, length_flat j ws))
    | inr l ↦
        let a : int_lt (pos 0) (entry w.entries j) ≡ true = is_less (pos 0) (entry w.entries j) l in
        let b : int_lt (entry w.entries j) (pos 0) ≡ false = not_less (entry w.entries j) (pos 0) (omega (arith, ints)) in
        rw (e, a, b) (omega (arith, length_flat j ws))
  ]
]

-- the number of rows of a projection, from the signs of the column's entries
pub projected_count : (j : ℕ) (ws : List PartRow) (rising falling : ℕ) → rising ≡ positives j ws → falling ≡ negatives j ws
    → (length ws - rising - falling) + rising * falling ≡ length (projected j ws)
projected_count j ws rising falling a b = rw (a, b)
    (omega (arith, length-append (flat_rows j ws) (crossed j ws ws), length_crossed j ws ws, length_flat j ws))
