-- The bytes of names.
use Rattle.std.specs.Prelude.{ℕ, Bool, ◌&&◌, ◌||◌, ◌==◌, nat_le}
use Rattle.suite_base.specs.Numbers.{is_digit}

-- a letter, small or capital
abbrev pub is_letter : ℕ → Bool
is_letter b = (nat_le 65 b && nat_le b 90) || (nat_le 97 b && nat_le b 122)

-- a byte that begins a name: a letter or `_`
abbrev pub begins_name : ℕ → Bool
begins_name b = is_letter b || (b == 95)

-- a byte of a name: a letter, `_` or a digit
abbrev pub is_name_byte : ℕ → Bool
is_name_byte b = begins_name b || is_digit b
