use Rattle.std.proofs.Common.{◌≡◌, inl, inr, ℕ, suc, ◌+◌, ◌-◌, ◌*◌, ◌/◌, ◌%◌, ◌^◌, ◌≤◌, ◌<◌, true, false, ◌==◌, List, [], ◌∷◌, ◌++◌, ℤ, pos, negsuc, unsigned_abs, nat_le, refl, ap, ◌∙◌, arith}
use Rattle.std.proofs.lemmas.Bool.{lt-ltb, le-leb, leb-true, eqb-true, and_parts}
use Rattle.std.proofs.lemmas.Fmt.{decimal_by_steps_wide}
use Rattle.std.proofs.lemmas.Int.{ints}
use Rattle.std.specs.Fmt.{decimal, signed_decimal}
use Rattle.suite_base.specs.declared.numbers.NumberRead.TheVariants.{Value}
use Rattle.suite_base.specs.Lines.{is_blank}
use Rattle.suite_base.specs.Numbers.{is_digit, all_digits, are_digits, is_number_word, digits_after, with_sign, number_value, number_read}
use Rattle.suite_base.specs.Words.{unbroken, is_word}
use Rattle.suite_base.proofs.LineCuts.{bool_tells}

-- ---- digits with one more at the end

all_digits_push : (ds : List ℕ) (c : ℕ) → all_digits ds ≡ true → is_digit c ≡ true → all_digits (ds ++ c ∷ []) ≡ true
all_digits_push [] c h d = simp d refl
all_digits_push (b ∷ ds) c h d =
    elim (bool_tells (is_digit b)) [
      | inl e ↦
          let more : all_digits ds ≡ true = simp e at h in
          simp e (all_digits_push ds c more d)
      | inr e ↦ absurd (let no : false ≡ true = simp e at h in cc)
    ]

digits_after_push : (n : ℕ) (ds : List ℕ) (c : ℕ) → digits_after n (ds ++ c ∷ []) ≡ digits_after n ds * 10 + (c - 48)
digits_after_push n [] c = refl
digits_after_push n (d ∷ ds) c = digits_after_push (n * 10 + (d - 48)) ds c

digit_of : (d : ℕ) → d < 10 → is_digit (48 + d) ≡ true
digit_of d h = rw (le-leb 48 (48 + d) (omega arith), le-leb (48 + d) 57 (omega arith)) refl

-- ---- what decimal digits are

-- digits of the number n
pub record AreDigitsOf (n : ℕ) (ds : List ℕ) : Type 0 where
  pub digits : are_digits ds ≡ true
  pub value : digits_after 0 ds ≡ n

digits_one : (d : ℕ) → d < 10 → AreDigitsOf d ((48 + d) ∷ [])
digits_one d h = record { digits = rw (digit_of d h) refl; value = omega arith }

digits_more : (n : ℕ) (ds : List ℕ) → 10 ≤ n → AreDigitsOf (n / 10) ds → AreDigitsOf n (ds ++ ((48 + n % 10) ∷ []))
digits_more n [] h front = absurd (let no : false ≡ true = front.digits in cc)
digits_more n (d ∷ ds) h front = record {
  digits = all_digits_push (d ∷ ds) (48 + n % 10) front.digits (digit_of (n % 10) (omega arith));
  value = digits_after_push 0 (d ∷ ds) (48 + n % 10) ∙ omega (arith, front.value);
}

pub decimal_digits : (n : ℕ) → n < 10 ^ 64 → AreDigitsOf n (decimal n)
decimal_digits = decimal_by_steps_wide AreDigitsOf digits_one digits_more

-- ---- a number word behind a sign or none

-- digits don't begin with a sign
no_sign : (b : ℕ) (ds : List ℕ) → are_digits (b ∷ ds) ≡ true → (b == 45) ≡ false
no_sign b ds h =
    elim (bool_tells (b == 45)) [
      | inl e ↦ absurd (let at : b ≡ 45 = eqb-true b 45 e in let no : false ≡ true = rw at at h in cc)
      | inr e ↦ e
    ]

unsigned_word : (ds : List ℕ) (n : ℕ) → AreDigitsOf n ds → (is_number_word ds ≡ true) × (number_value ds ≡ pos n)
unsigned_word [] n h = absurd (let no : false ≡ true = h.digits in cc)
unsigned_word (b ∷ ds) n h = rw (no_sign b ds h.digits) (h.digits, ap pos h.value)

-- the decimal text of a number is a number word, and reads as the number
pub signed_decimal_word : (z : ℤ) → unsigned_abs z < 10 ^ 64 → (is_number_word (signed_decimal z) ≡ true) × (number_value (signed_decimal z) ≡ z)
signed_decimal_word (pos n) h = unsigned_word (decimal n) n (decimal_digits n (omega (arith, ints)))
signed_decimal_word (negsuc n) h =
    let word = decimal_digits (suc n) (omega (arith, ints)) in
    (word.digits, ap (with_sign true) word.value ∙ omega (arith, ints))

pub signed_decimal_reads : (z : ℤ) → unsigned_abs z < 2 ^ 127 → number_read (signed_decimal z) ≡ Value z
signed_decimal_reads z h =
    let word = signed_decimal_word z (omega arith) in
    rw (word.0, word.1, lt-ltb (unsigned_abs z) (2 ^ 127) h) refl

-- ---- number words are words of a line

not_equal : (a b : ℕ) → (a ≡ b → ⊥) → (a == b) ≡ false
not_equal a b differ =
    elim (bool_tells (a == b)) [
      | inl e ↦ absurd (differ (eqb-true a b e))
      | inr e ↦ e
    ]

digit_bound : (b : ℕ) → is_digit b ≡ true → 48 ≤ b
digit_bound b h =
    elim (bool_tells (nat_le 48 b)) [
      | inl e ↦ leb-true 48 b e
      | inr e ↦ absurd (let no : false ≡ true = simp e at h in cc)
    ]

digit_not_blank : (b : ℕ) → is_digit b ≡ true → is_blank b ≡ false
digit_not_blank b h =
    let low = digit_bound b h in
    rw (not_equal b 32 (λ e. omega arith), not_equal b 9 (λ e. omega arith), not_equal b 13 (λ e. omega arith)) refl

digits_unbroken : (ds : List ℕ) → all_digits ds ≡ true → unbroken ds ≡ true
digits_unbroken [] h = refl
digits_unbroken (b ∷ ds) h =
    let both = and_parts (is_digit b) (all_digits ds) h in
    rw (digit_not_blank b both.0) (digits_unbroken ds both.1)

digits_word : (ds : List ℕ) → are_digits ds ≡ true → is_word ds ≡ true
digits_word [] h = absurd (let no : false ≡ true = h in cc)
digits_word (b ∷ ds) h =
    let both = and_parts (is_digit b) (all_digits ds) h in
    rw (digit_not_blank b both.0) (digits_unbroken ds both.1)

signed_word : (ds : List ℕ) → are_digits ds ≡ true → is_word (45 ∷ ds) ≡ true
signed_word [] h = absurd (let no : false ≡ true = h in cc)
signed_word (b ∷ ds) h = digits_unbroken (b ∷ ds) h

pub number_is_word : (z : ℤ) → unsigned_abs z < 10 ^ 64 → is_word (signed_decimal z) ≡ true
number_is_word (pos n) h = digits_word (decimal n) (decimal_digits n (omega (arith, ints))).digits
number_is_word (negsuc n) h = signed_word (decimal (suc n)) (decimal_digits (suc n) (omega (arith, ints))).digits
