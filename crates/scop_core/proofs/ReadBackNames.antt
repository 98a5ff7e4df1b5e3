-- The body that a statement without one gets can be printed.
use Rattle.std.proofs.Common.{◌≡◌, ℕ, zero, suc, ◌+◌, ◌<◌, ◌≤◌, ◌^◌, true, false, List, [], ◌∷◌, length, refl, ap, ◌∙◌, arith}
use Rattle.std.specs.Prelude.{◌==◌, ◌||◌, not, nat_le}
use mathlib.Core.List.{reverse_aux}
use Rattle.std.specs.Fmt.{decimal}
use Rattle.std.specs.Str.{bytes_eq}
use Rattle.std.proofs.lemmas.Bool.Decides.{nat_tests}
use Rattle.suite_base.specs.Lines.{is_blank}
use Rattle.suite_base.specs.Words.{begins_word, unbroken, spaced}
use Rattle.suite_base.specs.Numbers.{is_digit, all_digits, are_digits}
use Rattle.suite_base.proofs.NumberLaws.{decimal_digits}
use Rattle.scop_data.specs.declared.statements.Body.{Body}
use Rattle.scop_core.specs.Printable.{has_no, is_name, are_names, end_line, body_name, is_body_line, is_body}
use Rattle.scop_core.specs.Assembly.{default_names}
use Rattle.schedule_forms.proofs.SolvedShapes.{both}
use Rattle.schedule_forms.proofs.ReadBackLists.{and_true, other_number}

-- the default body of statement number k with n iterators
abbrev pub default_body : ℕ → ℕ → Body
default_body k n = record { text = 83 ∷ decimal k; iterators = default_names 1 n }

digit_low : (b : ℕ) → is_digit b ≡ true → 48 ≤ b
digit_low b h = let p = both _ _ h in let low : nat_le 48 b ≡ true = p.0 in grind (arith, nat_tests)

digit_is_no : (b d : ℕ) → is_digit d ≡ true → b < 48 → (b == d) ≡ false
digit_is_no b d h l = let low = digit_low d h in other_number b d (λ e. omega arith)

digits_have_no : (b : ℕ) (ds : List ℕ) → all_digits ds ≡ true → b < 48 → has_no b ds ≡ true
digits_have_no b [] h l = refl
digits_have_no b (d ∷ ds) h l = let p = both _ _ h in and_true _ _ (ap not (digit_is_no b d p.0 l)) (digits_have_no b ds p.1 l)

digit_not_blank : (d : ℕ) → is_digit d ≡ true → is_blank d ≡ false
digit_not_blank d h =
    let low = digit_low d h in
    ap (λ t. t || ((d == 9) || (d == 13))) (other_number d 32 (λ e. omega arith))
    ∙ (ap (λ t. t || (d == 13)) (other_number d 9 (λ e. omega arith)) ∙ other_number d 13 (λ e. omega arith))

digits_unbroken : (ds : List ℕ) → all_digits ds ≡ true → unbroken ds ≡ true
digits_unbroken [] h = refl
digits_unbroken (d ∷ ds) h = let p = both _ _ h in and_true _ _ (ap not (digit_not_blank d p.0)) (digits_unbroken ds p.1)

all_are : (ds : List ℕ) → are_digits ds ≡ true → all_digits ds ≡ true
all_are [] h = refl
all_are (d ∷ ds) h = h

decimal_all : (k : ℕ) → k < 10 ^ 64 → all_digits (decimal k) ≡ true
decimal_all k h = all_are (decimal k) (decimal_digits k h).digits

-- what ends without a blank ends as a word does
ends_word : (bytes front : List ℕ) → unbroken bytes ≡ true → begins_word front ≡ true → begins_word (reverse_aux bytes front) ≡ true
ends_word [] front h g = g
ends_word (b ∷ bytes) front h g = let p = both _ _ h in ends_word bytes (b ∷ front) p.1 p.0

default_name : (k : ℕ) → k < 10 ^ 64 → is_name (105 ∷ decimal k) ≡ true
default_name k h =
    let digits = decimal_all k h in
    and_true _ _ (digits_unbroken (decimal k) digits)
    (and_true _ _ (digits_have_no 10 (decimal k) digits (omega arith)) (digits_have_no 35 (decimal k) digits (omega arith)))

defaults_are_names : (k n : ℕ) → k + n ≤ 10 ^ 64 → are_names (default_names k n) ≡ true
defaults_are_names k zero h = refl
defaults_are_names k (suc n) h = and_true _ _ (default_name k (omega arith)) (defaults_are_names (k + 1) n (omega arith))

no_end_line : (n : ℕ) → not (bytes_eq (spaced (default_names 1 n)) (end_line body_name)) ≡ true
no_end_line zero = refl
no_end_line (suc zero) = refl
no_end_line (suc (suc n)) = refl

default_line : (k : ℕ) → k < 10 ^ 64 → is_body_line (83 ∷ decimal k) ≡ true
default_line k h =
    let digits = decimal_all k h in
    and_true _ _ (and_true _ _ (ends_word (decimal k) (83 ∷ []) (digits_unbroken (decimal k) digits) refl)
    (and_true _ _ (digits_have_no 10 (decimal k) digits (omega arith)) (digits_have_no 35 (decimal k) digits (omega arith)))) refl

pub default_is_body : (k n : ℕ) → k < 10 ^ 64 → 1 + n ≤ 10 ^ 64 → is_body (default_body k n) ≡ true
default_is_body k n h g = and_true _ _ (and_true _ _ (defaults_are_names 1 n g) (no_end_line n)) (default_line k h)

pub default_count : (k n : ℕ) → length (default_names k n) ≡ n
default_count k zero = refl
default_count k (suc n) = ap suc (default_count (k + 1) n)
