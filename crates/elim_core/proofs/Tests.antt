-- What the tests of the elimination tell.
use Rattle.std.proofs.Common.{◌≡◌, refl, ap, sym, ◌∙◌, inl, inr, ℕ, zero, suc, ◌<◌, List, [], ◌∷◌, take, arith}
use Rattle.std.specs.Prelude.{Bool, true, false, cond, ◌⊎◌, int_lt, ℤ, pos, negsuc, ◌-ℤ◌, ◌≤ℤ◌, ◌<ℤ◌}
use Rattle.std.proofs.lemmas.Int.{ints}
use Rattle.std.proofs.lemmas.Bool.Decides.{nat_tests}
use Rattle.row_core.specs.Rows.{entry}
use Rattle.elim_core.specs.Elimination.{is_zero, all_zero, same_cells}

pub by_bool : (b : Bool) → (b ≡ true) ⊎ (b ≡ false)
by_bool true = inl refl
by_bool false = inr refl

pub zero_is : (z : ℤ) → is_zero z ≡ true → z ≡ pos 0
zero_is (pos n) e = let h : n ≡ 0 = grind (arith, nat_tests) in ap pos h
zero_is (negsuc n) e = cc

pub zero_test : (z : ℤ) → z ≡ pos 0 → is_zero z ≡ true
zero_test z e = rw e refl

pub nonzero_is : (z : ℤ) → is_zero z ≡ false → (z <ℤ pos 0) ⊎ (pos 0 <ℤ z)
nonzero_is (pos zero) e = cc
nonzero_is (pos (suc n)) e = inr (omega (arith, ints))
nonzero_is (negsuc n) e = inl (omega (arith, ints))

pub first_of_cond : (a b : Bool) → cond a b false ≡ true → a ≡ true
first_of_cond true b e = refl
first_of_cond false b e = cc

pub second_of_cond : (a b : Bool) → cond a b false ≡ true → b ≡ true
second_of_cond true b e = e
second_of_cond false b e = cc

pub both_of_cond : (a b : Bool) → a ≡ true → b ≡ true → cond a b false ≡ true
both_of_cond a b e f = rw (e, f) refl

-- a row without variables has 0 at each of their places
pub all_zero_is : (n : ℕ) (cells : List ℤ) → all_zero (take n cells) ≡ true → (k : ℕ) → k < n → entry cells k ≡ pos 0
all_zero_is zero cells e k l = absurd (omega arith)
all_zero_is (suc n) [] e k l = refl
all_zero_is (suc n) (c ∷ cells) e zero l = zero_is c (first_of_cond (is_zero c) (all_zero (take n cells)) e)
all_zero_is (suc n) (c ∷ cells) e (suc k) l = all_zero_is n cells (second_of_cond (is_zero c) (all_zero (take n cells)) e) k (omega arith)

pub all_zero_test : (n : ℕ) (cells : List ℤ) → ((k : ℕ) → k < n → entry cells k ≡ pos 0) → all_zero (take n cells) ≡ true
all_zero_test zero cells h = refl
all_zero_test (suc n) [] h = refl
all_zero_test (suc n) (c ∷ cells) h = both_of_cond (is_zero c) (all_zero (take n cells)) (zero_test c (h 0 (omega arith))) (all_zero_test n cells (λ k l. h (suc k) (omega arith)))

pub same_cells_is : (a b : List ℤ) → same_cells a b ≡ true → a ≡ b
same_cells_is [] [] e = refl
same_cells_is [] (y ∷ b) e = cc
same_cells_is (x ∷ a) [] e = cc
same_cells_is (x ∷ a) (y ∷ b) e =
    let z : x -ℤ y ≡ pos 0 = zero_is (x -ℤ y) (first_of_cond (is_zero (x -ℤ y)) (same_cells a b) e) in
    let h : x ≡ y = omega (arith, ints) in
    let t : a ≡ b = same_cells_is a b (second_of_cond (is_zero (x -ℤ y)) (same_cells a b) e) in
    cc

pub not_less : (a b : ℤ) → b ≤ℤ a → int_lt a b ≡ false
not_less a b l = elim (by_bool (int_lt a b)) [
  | inl e ↦ absurd (omega (arith, ints))
  | inr e ↦ e
]

pub is_less : (a b : ℤ) → a <ℤ b → int_lt a b ≡ true
is_less a b l = elim (by_bool (int_lt a b)) [
  | inl e ↦ e
  | inr e ↦ absurd (omega (arith, ints))
]

pub not_all_zero : (n : ℕ) (cells : List ℤ) (k : ℕ) → k < n → is_zero (entry cells k) ≡ false → all_zero (take n cells) ≡ false
not_all_zero n cells k l z = elim (by_bool (all_zero (take n cells))) [
  | inl e ↦ let f : is_zero (entry cells k) ≡ true = zero_test (entry cells k) (all_zero_is n cells e k l) in let c : true ≡ false = sym f ∙ z in cc
  | inr e ↦ e
]
