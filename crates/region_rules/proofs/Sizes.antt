-- The size of a number, digit by digit.
use Rattle.std.proofs.Common.{◌≡◌, refl, sym, ap, ◌∙◌, ℕ, zero, suc, ◌+◌, ◌-◌, ◌*◌, ◌≤◌, List, [], ◌∷◌, arith}
use Rattle.c_lexer.specs.Symbols.{value_from}
use Rattle.region_rules.specs.declared.facts.Size.{Size}
use Rattle.region_rules.specs.declared.facts.Size.TheVariants as size
use Rattle.region_rules.specs.Facts.{size_of, size_with}

abbrev pub size_from : Size → List ℕ → Size
size_from before [] = before
size_from before (b ∷ digits) = size_from (size_with before (b - 48)) digits

pub zero_size : (n : ℕ) → n ≡ 0 → size_of n ≡ size.Zero
zero_size n e = ap size_of e

pub one_size : (n : ℕ) → n ≡ 1 → size_of n ≡ size.One
one_size n e = ap size_of e

pub large_size : (n : ℕ) → 2 ≤ n → size_of n ≡ size.Larger
large_size zero p = absurd (omega (arith, p))
large_size (suc zero) p = absurd (omega (arith, p))
large_size (suc (suc n)) p = refl

large : (n m : ℕ) → n ≡ suc (suc m) → size_of n ≡ size.Larger
large n m e = ap size_of e

with_digit : (value digit : ℕ) → size_of (10 * value + digit) ≡ size_with (size_of value) digit
with_digit zero digit = let e : 10 * zero + digit ≡ digit = omega arith in ap size_of e
with_digit (suc zero) digit = large (10 * suc zero + digit) (8 + digit) (omega arith)
with_digit (suc (suc n)) digit = large (10 * suc (suc n) + digit) (10 * n + 18 + digit) (omega arith)

pub sizes : (value : ℕ) (digits : List ℕ) → size_of (value_from value digits) ≡ size_from (size_of value) digits
sizes value [] = refl
sizes value (b ∷ digits) = sizes (10 * value + (b - 48)) digits ∙ ap (λ s. size_from s digits) (with_digit value (b - 48))

pub by_digits : (digits : List ℕ) (s : Size) → s ≡ size_from size.Zero digits → s ≡ size_of (value_from 0 digits)
by_digits digits s e = e ∙ sym (sizes 0 digits)
