-- What the lines of a block say.
use Rattle.std.specs.Prelude.{◌≡◌, ℤ, ℕ, ◌≤◌, drop, Bool, true, false, List, [], ◌∷◌, length, bytes_eq}
use Rattle.suite_base.specs.Words.{content, words}
use Rattle.suite_base.specs.Numbers.{number_read}
use Rattle.scop_data.specs.LineWords.{is_value, are_numbers}

-- a line that says something, before the others
abbrev pub before : List ℕ → List (List ℕ) → List (List ℕ)
before [] lines = lines
before (b ∷ said) lines = (b ∷ said) ∷ lines

-- what lines say, in order; lines that say nothing are left out
abbrev pub contents : List (List ℕ) → List (List ℕ)
contents [] = []
contents (line ∷ lines) = before (content line) (contents lines)

-- the line says these numbers
abbrev pub says : List ℕ → List ℤ → Bool
says line numbers = are_numbers (words line) numbers

-- the first of these words is this one
abbrev pub is_first : List ℕ → List (List ℕ) → Bool
is_first word [] = false
is_first word (v ∷ vs) = bytes_eq v word

-- the first of these words is a number word of this number
abbrev pub begins_with : ℤ → List (List ℕ) → Bool
begins_with z [] = false
begins_with z (w ∷ ws) = is_value z (number_read w)

-- the first word of a line at or after a place is this one, and ends before another place
pub record WordEnds (line : List ℕ) (from : ℕ) (word : List ℕ) (end : ℕ) : Type 0 where
  pub within : end ≤ length line
  pub first : words (drop from line) ≡ word ∷ words (drop end line)

-- the first word of a line at or after a place is a number word of this number, and ends before another place
pub record NumberEnds (line : List ℕ) (from : ℕ) (number : ℤ) (end : ℕ) : Type 0 where
  pub within : end ≤ length line
  pub word : List ℕ
  pub first : words (drop from line) ≡ word ∷ words (drop end line)
  pub value : is_value number (number_read word) ≡ true
