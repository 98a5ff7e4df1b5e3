use Rattle.std.specs.Prelude.{ℕ, ◌+◌, ◌-◌, ◌*◌, ◌^◌, ◌<◌, Bool, true, false, ◌&&◌, ◌==◌, List, [], ◌∷◌, ℤ, pos, neg_ℤ, unsigned_abs, nat_le, nat_lt, if◌then◌else◌}
use Rattle.suite_base.specs.declared.numbers.NumberRead.{NumberRead}
use Rattle.suite_base.specs.declared.numbers.NumberRead.TheVariants.{Value, TooLarge, NotNumber}

-- a decimal digit, from `0` to `9`
abbrev pub is_digit : ℕ → Bool
is_digit b = nat_le 48 b && nat_le b 57

-- only digits stand here
abbrev pub all_digits : List ℕ → Bool
all_digits [] = true
all_digits (d ∷ ds) = is_digit d && all_digits ds

-- one or more digits
abbrev pub are_digits : List ℕ → Bool
are_digits [] = false
are_digits (d ∷ ds) = all_digits (d ∷ ds)

-- an optional `-` and one or more digits
abbrev pub is_number_word : List ℕ → Bool
is_number_word [] = false
is_number_word (b ∷ ds) = if b == 45 then are_digits ds else are_digits (b ∷ ds)

-- the number that digits write when they follow those of n
abbrev pub digits_after : ℕ → List ℕ → ℕ
digits_after n [] = n
digits_after n (d ∷ ds) = digits_after (n * 10 + (d - 48)) ds

-- a number, negated where the sign says so
abbrev pub with_sign : Bool → ℕ → ℤ
with_sign negative n = if negative then neg_ℤ (pos n) else pos n

-- the number that a number word writes
abbrev pub number_value : List ℕ → ℤ
number_value [] = pos 0
number_value (b ∷ ds) = if b == 45 then with_sign true (digits_after 0 ds) else with_sign false (digits_after 0 (b ∷ ds))

-- a number that a coefficient can be: below 2 ^ 127 in absolute value
abbrev pub is_coefficient : ℤ → Bool
is_coefficient z = nat_lt (unsigned_abs z) (2 ^ 127)

-- what a word says as a number
abbrev pub number_read : List ℕ → NumberRead
number_read word = if is_number_word word then (if is_coefficient (number_value word) then Value (number_value word) else TooLarge) else NotNumber

-- what the digits behind a sign, or behind none, say as a number
abbrev pub digits_read : Bool → List ℕ → NumberRead
digits_read negative ds = if are_digits ds then (if is_coefficient (with_sign negative (digits_after 0 ds)) then Value (with_sign negative (digits_after 0 ds)) else TooLarge) else NotNumber

-- a number that was read is a coefficient
abbrev pub IsInRange : NumberRead → Type 0
IsInRange (Value z) = unsigned_abs z < 2 ^ 127
IsInRange TooLarge = Unit {0}
IsInRange NotNumber = Unit {0}
