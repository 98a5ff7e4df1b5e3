-- A row and its entries that are not 0 determine each other.
use Rattle.std.specs.Prelude.{ℤ, pos, negsuc, ℕ, zero, suc, ◌+◌, ◌<◌, ◌≤◌, ◌^◌, ◌≡◌, refl, true, false, cond, ◌==◌, List, [], ◌∷◌, ◌++◌, length, drop, replicate, unsigned_abs}
use Rattle.std.proofs.Common.{ap, sym, subst, ◌∙◌, arith, append_assoc}
use Rattle.std.proofs.Math.ListN.{length-append}
use Rattle.std.proofs.lemmas.List.{append-nil}
use Rattle.std.proofs.Math.Seq.{drop-cons}
use Rattle.std.proofs.lemmas.Bool.Decides.{nat_tests}
use Rattle.row_core.specs.declared.entries.Entry.{Entry}
use Rattle.row_core.specs.Rows.{entry, AreCoefficients}
use Rattle.row_core.specs.Sparse.{is_zero, nonzeros, Begins, spread, IsSparse, value_at, past, value_among}
use Rattle.row_core.proofs.Rows.{coefficients_more}

pub zero_is : (c : ℤ) → is_zero c ≡ true → c ≡ pos 0
zero_is (pos zero) e = refl
zero_is (pos (suc n)) e = cc
zero_is (negsuc n) e = cc

begins_later : (k : ℕ) (entries : List Entry) → Begins (suc k) entries → Begins k entries
begins_later k [] h = tt
begins_later k (e ∷ entries) h = omega arith

pub begins : (k : ℕ) (row : List ℤ) → Begins k (nonzeros k row)
begins k [] = tt
begins k (c ∷ row) = elim (is_zero c) as (λ t. Begins k (cond t (nonzeros (suc k) row) (record { place = k; value = c } ∷ nonzeros (suc k) row))) [
  | true ↦ begins_later k (nonzeros (suc k) row) (begins (suc k) row)
  | false ↦ omega arith
]

not_here : (k j : ℕ) → suc k ≤ j → (j == k) ≡ false
not_here k j h = grind (arith, nat_tests)

here : (k : ℕ) → (k == k) ≡ true
here k = grind (arith, nat_tests)

pub length_spread : (k n : ℕ) (entries : List Entry) → length (spread k n entries) ≡ n
length_spread k zero entries = refl
length_spread k (suc n) [] = ap suc (length_spread (suc k) n [])
length_spread k (suc n) (e ∷ entries) = elim (e.place == k) as (λ t. length (cond t (e.value ∷ spread (suc k) n entries) (pos 0 ∷ spread (suc k) n (e ∷ entries))) ≡ suc n) [
  | true ↦ ap suc (length_spread (suc k) n entries)
  | false ↦ ap suc (length_spread (suc k) n (e ∷ entries))
]

spread_skip : (k n : ℕ) (entries : List Entry) → Begins (suc k) entries → spread k (suc n) entries ≡ pos 0 ∷ spread (suc k) n entries
spread_skip k n [] h = refl
spread_skip k n (e ∷ entries) h = simp (not_here k e.place h) refl

pub spread_nonzeros : (k : ℕ) (row : List ℤ) → spread k (length row) (nonzeros k row) ≡ row
spread_nonzeros k [] = refl
spread_nonzeros k (c ∷ row) = elim (is_zero c) as (λ t. t ≡ is_zero c → spread k (suc (length row)) (cond t (nonzeros (suc k) row) (record { place = k; value = c } ∷ nonzeros (suc k) row)) ≡ c ∷ row) [
  | true ↦ λ e.
      spread_skip k (length row) (nonzeros (suc k) row) (begins (suc k) row)
      ∙ ap (λ r. pos 0 ∷ r) (spread_nonzeros (suc k) row)
      ∙ ap (λ x. x ∷ row) (sym (zero_is c (sym e)))
  | false ↦ λ e. simp (here k) (ap (λ r. c ∷ r) (spread_nonzeros (suc k) row))
] refl

nonzeros_zero : (k : ℕ) (row : List ℤ) → nonzeros k (row ++ pos 0 ∷ []) ≡ nonzeros k row
nonzeros_zero k [] = refl
nonzeros_zero k (c ∷ row) = simp (nonzeros_zero (suc k) row) refl

nonzeros_more : (k : ℕ) (row : List ℤ) (x : ℤ) → is_zero x ≡ false → nonzeros k (row ++ x ∷ []) ≡ nonzeros k row ++ record { place = k + length row; value = x } ∷ []
nonzeros_more k [] x e =
    let p : k + 0 ≡ k = omega arith in
    simp (e, p) refl
nonzeros_more k (c ∷ row) x e =
    let p : suc k + length row ≡ k + suc (length row) = omega arith in
    elim (is_zero c) as (λ t. cond t (nonzeros (suc k) (row ++ x ∷ [])) (record { place = k; value = c } ∷ nonzeros (suc k) (row ++ x ∷ [])) ≡ cond t (nonzeros (suc k) row) (record { place = k; value = c } ∷ nonzeros (suc k) row) ++ record { place = k + suc (length row); value = x } ∷ []) [
      | true ↦ subst (λ (n : ℕ). nonzeros (suc k) (row ++ x ∷ []) ≡ nonzeros (suc k) row ++ record { place = n; value = x } ∷ []) p (nonzeros_more (suc k) row x e)
      | false ↦ ap (λ es. record { place = k; value = c } ∷ es) (subst (λ (n : ℕ). nonzeros (suc k) (row ++ x ∷ []) ≡ nonzeros (suc k) row ++ record { place = n; value = x } ∷ []) p (nonzeros_more (suc k) row x e))
    ]

-- a length and entries that come from a row stand for that row
pub spread_is : (n : ℕ) (entries : List Entry) (row : List ℤ) → length row ≡ n → nonzeros 0 row ≡ entries → spread 0 n entries ≡ row
spread_is n entries row l e =
    subst (λ (m : ℕ). spread 0 m entries ≡ row) l
    (subst (λ (es : List Entry). spread 0 (length row) es ≡ row) e (spread_nonzeros 0 row))

pub sparse_is : (n : ℕ) (entries : List Entry) (row : List ℤ) → length row ≡ n → nonzeros 0 row ≡ entries → AreCoefficients row → IsSparse n entries
sparse_is n entries row l e r =
    let s : spread 0 n entries ≡ row = spread_is n entries row l e in
    record {
      exact = sym (ap (nonzeros 0) s ∙ e);
      range = subst AreCoefficients (sym s) r;
    }

length_more : (n : ℕ) (entries : List Entry) (x : ℤ) → length (spread 0 n entries ++ x ∷ []) ≡ n + 1
length_more n entries x = omega (arith, length-append (spread 0 n entries) (x ∷ []), length_spread 0 n entries)

-- one more zero keeps the entries
pub zero_entries : (n : ℕ) (entries : List Entry) → IsSparse n entries → nonzeros 0 (spread 0 n entries ++ pos 0 ∷ []) ≡ entries
zero_entries n entries s = nonzeros_zero 0 (spread 0 n entries) ∙ sym s.exact

pub spread_zero : (n : ℕ) (entries : List Entry) (x : ℤ) → IsSparse n entries → x ≡ pos 0 → spread 0 (n + 1) entries ≡ spread 0 n entries ++ x ∷ []
spread_zero n entries x s e =
    spread_is (n + 1) entries (spread 0 n entries ++ x ∷ []) (length_more n entries x)
    (ap (λ z. nonzeros 0 (spread 0 n entries ++ z ∷ [])) e ∙ zero_entries n entries s)

pub sparse_zero : (n : ℕ) (entries : List Entry) (x : ℤ) → IsSparse n entries → x ≡ pos 0 → IsSparse (n + 1) entries
sparse_zero n entries x s e =
    sparse_is (n + 1) entries (spread 0 n entries ++ pos 0 ∷ []) (length_more n entries (pos 0)) (zero_entries n entries s)
    (coefficients_more (spread 0 n entries) (pos 0) s.range (omega arith))

-- one more entry that is not 0 stands at the row's end
more_entries : (n : ℕ) (entries : List Entry) (x : ℤ) → IsSparse n entries → is_zero x ≡ false
    → nonzeros 0 (spread 0 n entries ++ x ∷ []) ≡ entries ++ record { place = n; value = x } ∷ []
more_entries n entries x s e =
    let p : 0 + length (spread 0 n entries) ≡ n = omega (arith, length_spread 0 n entries) in
    nonzeros_more 0 (spread 0 n entries) x e
    ∙ ap (λ m. nonzeros 0 (spread 0 n entries) ++ record { place = m; value = x } ∷ []) p
    ∙ ap (λ es. es ++ record { place = n; value = x } ∷ []) (sym s.exact)

pub spread_more : (n : ℕ) (entries : List Entry) (x : ℤ) → IsSparse n entries → is_zero x ≡ false
    → spread 0 (n + 1) (entries ++ record { place = n; value = x } ∷ []) ≡ spread 0 n entries ++ x ∷ []
spread_more n entries x s e =
    spread_is (n + 1) _ (spread 0 n entries ++ x ∷ []) (length_more n entries x) (more_entries n entries x s e)

pub sparse_more : (n : ℕ) (entries : List Entry) (x : ℤ) → IsSparse n entries → is_zero x ≡ false → unsigned_abs x < 2 ^ 127
    → IsSparse (n + 1) (entries ++ record { place = n; value = x } ∷ [])
sparse_more n entries x s e r =
    sparse_is (n + 1) _ (spread 0 n entries ++ x ∷ []) (length_more n entries x) (more_entries n entries x s e)
    (coefficients_more (spread 0 n entries) x s.range r)

-- more zeros keep the entries
pub record MoreZeros (count n : ℕ) (entries : List Entry) : Type 0 where
  pub sparse : IsSparse (n + count) entries
  pub row : spread 0 (n + count) entries ≡ spread 0 n entries ++ replicate count (pos 0)

pub more_zeros : (count n : ℕ) (entries : List Entry) → IsSparse n entries → MoreZeros count n entries
more_zeros zero n entries s =
    let e : n ≡ n + 0 = omega arith in
    record {
      sparse = subst (λ (m : ℕ). IsSparse m entries) e s;
      row = ap (λ m. spread 0 m entries) (sym e) ∙ sym (append-nil (spread 0 n entries));
    }
more_zeros (suc count) n entries s =
    let r = more_zeros count (n + 1) entries (sparse_zero n entries (pos 0) s refl) in
    let e : n + 1 + count ≡ n + suc count = omega arith in
    record {
      sparse = subst (λ (m : ℕ). IsSparse m entries) e r.sparse;
      row =
          ap (λ m. spread 0 m entries) (sym e) ∙ r.row
          ∙ ap (λ t. t ++ replicate count (pos 0)) (spread_zero n entries (pos 0) s refl)
          ∙ append_assoc (spread 0 n entries) (pos 0 ∷ []) (replicate count (pos 0));
    }

pub not_zero : (x : ℤ) → (x ≡ pos 0 → ⊥) → is_zero x ≡ false
not_zero (pos zero) h = absurd (h refl)
not_zero (pos (suc n)) h = refl
not_zero (negsuc n) h = refl

differ : (j k : ℕ) → k < j → (j == k) ≡ false
differ j k h = grind (arith, nat_tests)

-- no entry stands before the row's first place
absent : (j k : ℕ) (row : List ℤ) → k < j → value_among k (nonzeros j row) ≡ pos 0
absent j k [] h = refl
absent j k (c ∷ row) h =
    let l : k < suc j = omega arith in
    elim (is_zero c) as (λ t. value_among k (cond t (nonzeros (suc j) row) (record { place = j; value = c } ∷ nonzeros (suc j) row)) ≡ pos 0) [
      | true ↦ absent (suc j) k row l
      | false ↦ simp (differ j k h) (absent (suc j) k row l)
    ]

-- looking an entry up by its place gives the row's entry
pub found_is : (j k : ℕ) (row : List ℤ) → value_among (j + k) (nonzeros j row) ≡ entry row k
found_is j k [] = refl
found_is j zero (c ∷ row) =
    let p : j + 0 ≡ j = omega arith in
    let l : j + 0 < suc j = omega arith in
    elim (is_zero c) as (λ t. t ≡ is_zero c → value_among (j + 0) (cond t (nonzeros (suc j) row) (record { place = j; value = c } ∷ nonzeros (suc j) row)) ≡ c) [
      | true ↦ λ e. absent (suc j) (j + 0) row l ∙ sym (zero_is c (sym e))
      | false ↦ λ e. simp (p, here j) refl
    ] refl
found_is j (suc k) (c ∷ row) =
    let p : suc j + k ≡ j + suc k = omega arith in
    let d : (j == (j + suc k)) ≡ false = grind (arith, nat_tests) in
    let rest : value_among (j + suc k) (nonzeros (suc j) row) ≡ entry row k = subst (λ (m : ℕ). value_among m (nonzeros (suc j) row) ≡ entry row k) p (found_is (suc j) k row) in
    elim (is_zero c) as (λ t. value_among (j + suc k) (cond t (nonzeros (suc j) row) (record { place = j; value = c } ∷ nonzeros (suc j) row)) ≡ entry row k) [
      | true ↦ rest
      | false ↦ simp d rest
    ]

not_first : (k : ℕ) (entries : List Entry) → Begins (suc k) entries → value_at k entries ≡ pos 0
not_first k [] h = refl
not_first k (e ∷ entries) h = simp (not_here k e.place h) refl

stays : (k : ℕ) (entries : List Entry) → Begins (suc k) entries → past k entries ≡ entries
stays k [] h = refl
stays k (e ∷ entries) h = simp (not_here k e.place h) refl

-- the first entries of what is left of a row: the entry at its place, and those past it
value_here : (k : ℕ) (c : ℤ) (row : List ℤ) → value_at k (nonzeros k (c ∷ row)) ≡ c
value_here k c row = elim (is_zero c) as (λ t. t ≡ is_zero c → value_at k (cond t (nonzeros (suc k) row) (record { place = k; value = c } ∷ nonzeros (suc k) row)) ≡ c) [
  | true ↦ λ e. not_first k (nonzeros (suc k) row) (begins (suc k) row) ∙ sym (zero_is c (sym e))
  | false ↦ λ e. simp (here k) refl
] refl

past_here : (k : ℕ) (c : ℤ) (row : List ℤ) → past k (nonzeros k (c ∷ row)) ≡ nonzeros (suc k) row
past_here k c row = elim (is_zero c) as (λ t. past k (cond t (nonzeros (suc k) row) (record { place = k; value = c } ∷ nonzeros (suc k) row)) ≡ nonzeros (suc k) row) [
  | true ↦ stays k (nonzeros (suc k) row) (begins (suc k) row)
  | false ↦ simp (here k) refl
]

pub taken_value : (k : ℕ) (row : List ℤ) (entries : List Entry) → k < length row → entries ≡ nonzeros k (drop k row) → value_at k entries ≡ entry row k
taken_value k row entries h e =
    ap (value_at k) (e ∙ ap (nonzeros k) (drop-cons row k (pos 0) h)) ∙ value_here k (entry row k) (drop (suc k) row)

pub taken_rest : (k : ℕ) (row : List ℤ) (entries : List Entry) → k < length row → entries ≡ nonzeros k (drop k row) → past k entries ≡ nonzeros (k + 1) (drop (k + 1) row)
taken_rest k row entries h e =
    let p : suc k ≡ k + 1 = omega arith in
    ap (past k) (e ∙ ap (nonzeros k) (drop-cons row k (pos 0) h)) ∙ past_here k (entry row k) (drop (suc k) row)
    ∙ ap (λ j. nonzeros j (drop j row)) p
