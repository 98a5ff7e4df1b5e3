-- Rows gone over by their entries that aren't 0.
use Rattle.std.proofs.Common.{◌≡◌, refl, ap, sym, ◌∙◌, inl, inr, ℕ, zero, suc, ◌+◌, ◌-◌, ◌<◌, ◌≤◌, List, [], ◌∷◌, ◌++◌, length, take, drop, replicate, arith, append_assoc}
use Rattle.std.specs.Prelude.{false, cond, ◌⊎◌, nat_eq, int_div, unsigned_abs, ℤ, pos}
use Rattle.std.proofs.lemmas.List.{length-append, length-replicate}
use Rattle.std.proofs.lemmas.Bool.Decides.{nat_tests}
use Rattle.row_core.specs.Rows.{entry}
use Rattle.elim_core.specs.Gcd.{gcd_within, gcd, gcd_onto, divided_by}
use Rattle.elim_core.specs.Elimination.{is_zero, all_zero, same_cells, last_variable}
use Rattle.elim_core.specs.Keys.{mixed, key_onto}
use Rattle.elim_core.proofs.Tests.{by_bool, zero_is, zero_test, all_zero_test, not_all_zero}
use Rattle.elim_core.proofs.CodeSteps.{entry_take, last_zero, last_found, not_same_cells}

-- the entries from place j on are 0, up to place k
abbrev pub Zeros : List ℤ → ℕ → ℕ → Type 0
Zeros cells j k = (i : ℕ) → j ≤ i → i < k → entry cells i ≡ pos 0

pub nonzero_test : (z : ℤ) → ¬ (z ≡ pos 0) → is_zero z ≡ false
nonzero_test z h = elim (by_bool (is_zero z)) [
  | inl e ↦ absurd (h (zero_is z e))
  | inr e ↦ e
]

-- the entry at a place begins what is left from there
pub cell_first : (cells : List ℤ) (k : ℕ) → k < length cells → drop k cells ≡ entry cells k ∷ drop (suc k) cells
cell_first [] k l = absurd (omega arith)
cell_first (c ∷ cells) zero l = refl
cell_first (c ∷ cells) (suc k) l = cell_first cells k (omega arith)

-- so it does, with the place behind it as code has it
pub cell_from : (cells : List ℤ) (k : ℕ) → k < length cells → drop k cells ≡ entry cells k ∷ drop (k + 1) cells
cell_from cells k l = let s : suc k ≡ k + 1 = omega arith in cell_first cells k l ∙ ap (λ t. entry cells k ∷ drop t cells) s

pub by_order : (x y : ℕ) → (x < y) ⊎ (y ≤ x)
by_order zero zero = inr (omega arith)
by_order zero (suc y) = inl (omega arith)
by_order (suc x) zero = inr (omega arith)
by_order (suc x) (suc y) = elim (by_order x y) [ inl l ↦ inl (omega arith) | inr l ↦ inr (omega arith) ]

zeros_first : (d j k : ℕ) (cells : List ℤ) → k ≡ j + d → k ≤ length cells → Zeros cells j k → drop j cells ≡ replicate d (pos 0) ++ drop k cells
zeros_first zero j k cells e l z = let f : j ≡ k = omega arith in ap (λ t. drop t cells) f
zeros_first (suc d) j k cells e l z =
    let c : entry cells j ≡ pos 0 = z j (omega arith) (omega arith) in
    let r = zeros_first d (suc j) k cells (omega arith) l (λ i a b. z i (omega arith) b) in
    cell_first cells j (omega arith) ∙ (ap (λ t. t ∷ drop (suc j) cells) c ∙ ap (λ t. pos 0 ∷ t) r)

-- what is left from a place begins with the zeros up to the next entry
pub drop_zeros : (j k : ℕ) (cells : List ℤ) → j ≤ k → k ≤ length cells → Zeros cells j k → drop j cells ≡ replicate (k - j) (pos 0) ++ drop k cells
drop_zeros j k cells a b z = zeros_first (k - j) j k cells (omega arith) b z

-- The greatest common divisor, and the division by it.

gcd_zero : (g : ℕ) → gcd g 0 ≡ g
unfolding gcd gcd_within
gcd_zero g = refl

gcd_onto_zeros : (d g : ℕ) (cells : List ℤ) → gcd_onto g (replicate d (pos 0) ++ cells) ≡ gcd_onto g cells
gcd_onto_zeros zero g cells = refl
gcd_onto_zeros (suc d) g cells = ap (λ t. gcd_onto t (replicate d (pos 0) ++ cells)) (gcd_zero g) ∙ gcd_onto_zeros d g cells

pub gcd_passes : (g j k : ℕ) (cells : List ℤ) → j ≤ k → k ≤ length cells → Zeros cells j k → gcd_onto g (drop j cells) ≡ gcd_onto g (drop k cells)
gcd_passes g j k cells a b z = ap (gcd_onto g) (drop_zeros j k cells a b z) ∙ gcd_onto_zeros (k - j) g (drop k cells)

-- the entry at place j is taken in, and then the zeros behind it are passed
pub gcd_turn : (g j k : ℕ) (cells : List ℤ) → j < length cells → j + 1 ≤ k → k ≤ length cells → Zeros cells (j + 1) k
    → gcd_onto (gcd g (unsigned_abs (entry cells j))) (drop k cells) ≡ gcd_onto g (drop j cells)
gcd_turn g j k cells l a b z = sym (gcd_passes (gcd g (unsigned_abs (entry cells j))) (j + 1) k cells a b z) ∙ ap (gcd_onto g) (sym (cell_from cells j l))

zero_divided : (g : ℕ) → 0 < g → int_div (pos 0) (pos g) ≡ pos 0
zero_divided g p = ap pos (omega arith)

pub divided_zeros : (d g : ℕ) (cells : List ℤ) → 0 < g → divided_by g (replicate d (pos 0) ++ cells) ≡ replicate d (pos 0) ++ divided_by g cells
divided_zeros zero g cells p = refl
divided_zeros (suc d) g cells p = let e = zero_divided g p in let f = divided_zeros d g cells p in cc

-- the quotients of nothing
pub divided_begins : (g : ℕ) (made cells : List ℤ) → made ≡ [] → made ++ divided_by g (drop (length made) cells) ≡ divided_by g cells
divided_begins g made cells e = rw e refl

-- zeros are passed
pub divided_passes : (g start end : ℕ) (made new cells : List ℤ) → 0 < g → new ≡ made ++ replicate (end - start) (pos 0)
    → drop start cells ≡ replicate (end - start) (pos 0) ++ drop end cells → new ++ divided_by g (drop end cells) ≡ made ++ divided_by g (drop start cells)
divided_passes g start end made new cells p a b =
    ap (λ t. t ++ divided_by g (drop end cells)) a
    ∙ (append_assoc made (replicate (end - start) (pos 0)) (divided_by g (drop end cells))
    ∙ ap (λ t. made ++ t) (sym (divided_zeros (end - start) g (drop end cells) p) ∙ ap (divided_by g) (sym b)))

pub length_passed : (end : ℕ) (made new : List ℤ) → length made ≤ end → new ≡ made ++ replicate (end - length made) (pos 0) → length new ≡ end
length_passed end made new l a = omega (arith, ap length a, length-append made (replicate (end - length made) (pos 0)), length-replicate (end - length made) (pos 0))

pub length_pushed : (made new : List ℤ) (c : ℤ) → new ≡ made ++ (c ∷ []) → length new ≡ length made + 1
length_pushed made new c e = omega (arith, ap length e, length-append made (c ∷ []))

-- one quotient more
pub divided_turn : (g k : ℕ) (made new cells : List ℤ) → length made ≡ k → k < length cells → new ≡ made ++ (int_div (entry cells k) (pos g) ∷ [])
    → new ++ divided_by g (drop (length new) cells) ≡ made ++ divided_by g (drop k cells)
divided_turn g k made new cells m l p =
    let e : length new ≡ k + 1 = omega (arith, m, length_pushed made new (int_div (entry cells k) (pos g)) p) in
    ap (λ t. new ++ divided_by g (drop t cells)) e
    ∙ (ap (λ t. t ++ divided_by g (drop (k + 1) cells)) p
    ∙ (append_assoc made (int_div (entry cells k) (pos g) ∷ []) (divided_by g (drop (k + 1) cells))
    ∙ ap (λ t. made ++ divided_by g t) (sym (cell_from cells k l))))

-- The key.

key_onto_zeros : (d m j k : ℕ) (cells : List ℤ) → k ≡ j + d → key_onto m j (replicate d (pos 0) ++ cells) ≡ key_onto m k cells
key_onto_zeros zero m j k cells e = let f : j ≡ k = omega arith in ap (λ t. key_onto m t cells) f
key_onto_zeros (suc d) m j k cells e = key_onto_zeros d m (j + 1) k cells (omega arith)

length_take_all : (n : ℕ) (cells : List ℤ) → n ≤ length cells → length (take n cells) ≡ n
length_take_all zero cells l = refl
length_take_all (suc n) [] l = absurd (omega arith)
length_take_all (suc n) (c ∷ cells) l = omega (arith, length_take_all n cells (omega arith))

pub key_passes : (m n j k : ℕ) (cells : List ℤ) → j ≤ k → k ≤ n → n ≤ length cells → Zeros cells j k
    → key_onto m j (drop j (take n cells)) ≡ key_onto m k (drop k (take n cells))
key_passes m n j k cells a b l z =
    let w = length_take_all n cells l in
    let e = drop_zeros j k (take n cells) a (omega (arith, w)) (λ i p q. entry_take n cells i (omega arith) ∙ z i p q) in
    ap (key_onto m j) e ∙ key_onto_zeros (k - j) m j k (drop k (take n cells)) (omega arith)

-- the entry at place j is mixed in, and then the zeros behind it are passed
pub key_turn : (m n j k : ℕ) (cells : List ℤ) → j < n → j + 1 ≤ k → k ≤ n → n ≤ length cells → ¬ (entry cells j ≡ pos 0) → Zeros cells (j + 1) k
    → key_onto (mixed m j (entry cells j)) k (drop k (take n cells)) ≡ key_onto m j (drop j (take n cells))
key_turn m n j k cells p a b l f z =
    let w = length_take_all n cells l in
    let t : is_zero (entry cells j) ≡ false = nonzero_test (entry cells j) f in
    let s : suc j ≡ j + 1 = omega arith in
    let e : drop j (take n cells) ≡ entry cells j ∷ drop (j + 1) (take n cells)
    = cell_first (take n cells) j (omega (arith, w)) ∙ (ap (λ t. t ∷ drop (suc j) (take n cells)) (entry_take n cells j p) ∙ ap (λ t. entry cells j ∷ drop t (take n cells)) s) in
    let g : key_onto m j (entry cells j ∷ drop (j + 1) (take n cells)) ≡ key_onto (mixed m j (entry cells j)) (j + 1) (drop (j + 1) (take n cells)) =
    ap (λ x. key_onto (cond x m (mixed m j (entry cells j))) (j + 1) (drop (j + 1) (take n cells))) t in
    sym (key_passes (mixed m j (entry cells j)) n (j + 1) k cells a b l z) ∙ (sym g ∙ ap (key_onto m j) (sym e))

-- The last variable.

last_zeros : (d j k : ℕ) (cells : List ℤ) → k ≡ j + d → Zeros cells j k → last_variable k cells ≡ last_variable j cells
last_zeros zero j k cells e z = let f : k ≡ j = omega arith in ap (λ t. last_variable t cells) f
last_zeros (suc d) j k cells e z =
    last_zero k (j + d) cells (omega arith) (zero_test (entry cells (j + d)) (z (j + d) (omega arith) (omega arith)))
    ∙ last_zeros d j (j + d) cells refl (λ i a b. z i a (omega arith))

pub last_passes : (j k : ℕ) (cells : List ℤ) → j ≤ k → Zeros cells j k → last_variable k cells ≡ last_variable j cells
last_passes j k cells a z = last_zeros (k - j) j k cells (omega arith) z

pub last_turn : (j k : ℕ) (cells : List ℤ) → j + 1 ≤ k → ¬ (entry cells j ≡ pos 0) → Zeros cells (j + 1) k → last_variable k cells ≡ j
last_turn j k cells a f z = last_passes (j + 1) k cells a z ∙ last_found (j + 1) j cells refl (nonzero_test (entry cells j) f)

-- Rows without variables.

pub constant_by_place : (n k : ℕ) (cells : List ℤ) → k ≤ n → Zeros cells 0 k → (k < n → ¬ (entry cells k ≡ pos 0)) → nat_eq k n ≡ all_zero (take n cells)
constant_by_place n k cells l z f = elim (by_bool (nat_eq k n)) [
  | inl e ↦
      let h : k ≡ n = grind (arith, nat_tests) in
      e ∙ sym (all_zero_test n cells (λ i b. z i (omega arith) (omega arith)))
  | inr e ↦
      let h : k < n = grind (arith, nat_tests) in
      e ∙ sym (not_all_zero n cells k h (nonzero_test (entry cells k) (f h)))
]

-- Equal coefficients.

-- entries that stand at different places next tell rows apart
pub apart_by_places : (n start j k : ℕ) (a b : List ℤ) → start ≤ j → start ≤ k → j ≤ n → k ≤ n → ¬ (j ≡ k) → Zeros a start j → Zeros b start k
    → (j < n → ¬ (entry a j ≡ pos 0)) → (k < n → ¬ (entry b k ≡ pos 0)) → same_cells (take n a) (take n b) ≡ false
apart_by_places n start j k a b sj sk jn kn d za zb fa fb = elim (by_order j k) [
  | inl l ↦ not_same_cells n a b j (omega arith) (λ e. fa (omega arith) (e ∙ zb j sj l))
  | inr l ↦
      let h : k < j = omega arith in
      not_same_cells n a b k (omega arith) (λ e. fb (omega arith) (sym e ∙ za k sk h))
]

-- rows that have no further entry agree
pub same_rest : (start n : ℕ) (a b : List ℤ) → ((i : ℕ) → i < start → entry a i ≡ entry b i) → Zeros a start n → Zeros b start n
    → (i : ℕ) → i < n → entry a i ≡ entry b i
same_rest start n a b h za zb i l = elim (by_order i start) [
  | inl p ↦ h i p
  | inr p ↦ za i p l ∙ sym (zb i p l)
]
