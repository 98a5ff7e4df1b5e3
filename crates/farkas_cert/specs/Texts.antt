-- The line of a certificate, printed and read.
use Rattle.std.specs.Prelude.{ℤ, ℕ, ◌≡◌, List, [], ◌∷◌, ◌++◌, map, Option, Some, None}
use Rattle.std.specs.Fmt.{signed_decimal}
use Rattle.row_core.specs.Rows.{AreCoefficients}
use Rattle.suite_base.specs.Numbers.{number_read}
use Rattle.suite_base.specs.Words.{words, spaced}
use Rattle.suite_base.specs.declared.numbers.NumberRead.{NumberRead}
use Rattle.suite_base.specs.declared.numbers.NumberRead.TheVariants.{Value, TooLarge, NotNumber}

-- the multipliers as decimal numbers, with single spaces between them
abbrev pub certificate_line : List ℤ → List ℕ
certificate_line multipliers = spaced (map signed_decimal multipliers)

-- the line and its newline
abbrev pub certificate_text : List ℤ → List ℕ
certificate_text multipliers = certificate_line multipliers ++ 10 ∷ []

-- a number word that is in range
abbrev pub in_range : NumberRead → Option ℤ
in_range (Value z) = Some z
in_range TooLarge = None
in_range NotNumber = None

-- the multiplier that a word writes
abbrev pub multiplier_read : List ℕ → Option ℤ
multiplier_read word = in_range (number_read word)

-- numbers before those that are read, if they are
abbrev pub prepended : List ℤ → Option (List ℤ) → Option (List ℤ)
prepended before None = None
prepended before (Some multipliers) = Some (before ++ multipliers)

-- one number more in front, where both are numbers
abbrev pub one_more : Option ℤ → Option (List ℤ) → Option (List ℤ)
one_more None rest = None
one_more (Some l) rest = prepended (l ∷ []) rest

-- the multipliers that words write; none where some word is no number in range
abbrev pub multipliers_read : List (List ℕ) → Option (List ℤ)
multipliers_read [] = Some []
multipliers_read (word ∷ more) = one_more (multiplier_read word) (multipliers_read more)

-- the certificate that a line writes
abbrev pub certificate_read : List ℕ → Option (List ℤ)
certificate_read line = multipliers_read (words line)

-- a printed line reads as the certificate that was printed
abbrev pub ReadsBack : Type 0
ReadsBack = (multipliers : List ℤ) → AreCoefficients multipliers → certificate_read (certificate_line multipliers) ≡ Some multipliers
