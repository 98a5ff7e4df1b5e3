-- Steps over what separates tokens.
use Rattle.std.proofs.Common.{◌≡◌, ℕ, zero, suc, ◌+◌, ◌-◌, ◌≤◌, ◌==◌, true, false, if◌then◌else◌, List, [], ◌∷◌, length, drop, Option, Some, None, inl, inr, refl, ap, arith}
use Rattle.std.proofs.lemmas.Bool.Decides.{eqb_tells}
use Rattle.std.specs.Prelude.{slice_index}
use Rattle.std.specs.List.{prefix_len}
use Rattle.suite_base.specs.Bytes.{begins_name, is_name_byte}
use Rattle.c_lexer.specs.Tokens.{separator_len, gap_from, gap}

abbrev pub plus : ℕ → Option ℕ → Option ℕ
plus n None = None
plus n (Some k) = Some (n + k)

gap_from-drop : (n : ℕ) (text : List ℕ) → n ≤ length text → gap_from n text ≡ n + gap (drop n text)
gap_from-drop zero text h = omega arith
gap_from-drop (suc n) [] h = absurd (omega arith)
gap_from-drop (suc n) (b ∷ text) h = let e = gap_from-drop n text (omega arith) in omega arith

drop_less : (n b : ℕ) (text : List ℕ) → 1 ≤ n → drop (n - 1) text ≡ drop n (b ∷ text)
drop_less zero b text h = absurd (omega arith)
drop_less (suc n) b text h = let e : suc n - 1 ≡ n = omega arith in ap (λ k. drop k text) e

-- where no separator stands there is no gap
pub gap_stops : (text : List ℕ) → separator_len text ≡ 0 → gap text ≡ 0
gap_stops [] h = refl
gap_stops (b ∷ text) h = let e : (separator_len (b ∷ text) == 0) ≡ true = (rw h refl) in simp e refl

not_zero : (n : ℕ) → 1 ≤ n → (n == 0) ≡ false
not_zero n h = elim (eqb_tells n 0) [ inl (p, q) ↦ absurd (omega arith) | inr (p, q) ↦ p ]

gap_step : (m n b : ℕ) (text : List ℕ) → n ≡ m → 1 ≤ n → n ≤ suc (length text)
    → (if m == 0 then 0 else suc (gap_from (m - 1) text)) ≡ n + gap (drop n (b ∷ text))
gap_step m zero b text e f h = absurd (omega arith)
gap_step m (suc n) b text e f h =
    let k = gap_from-drop (suc n - 1) text (omega arith) in
    let d = ap gap (drop_less (suc n) b text (omega arith)) in
    rw (← e, not_zero (suc n) f) (omega arith)

-- a separator is the front of the gap
pub gap_goes : (text : List ℕ) (n : ℕ) → n ≡ separator_len text → 1 ≤ n → n ≤ length text → gap text ≡ n + gap (drop n text)
gap_goes [] n e f h = absurd (omega arith)
gap_goes (b ∷ text) n e f h = gap_step (separator_len (b ∷ text)) n b text e f h

-- a byte that begins a name is one of a name
pub begins_word : (b : ℕ) → begins_name b ≡ true → is_name_byte b ≡ true
begins_word b h = simp h refl

-- a name has its first byte
pub name_moves : (text : List ℕ) → begins_name (slice_index text 0) ≡ true → 1 ≤ prefix_len is_name_byte text
name_moves [] h = absurd (cc)
name_moves (b ∷ text) h = let w : is_name_byte b ≡ true = begins_word b h in simp w (omega arith)
