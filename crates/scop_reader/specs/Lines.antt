-- Lines of a text that are still to come, and the words of a line with their columns.
use Rattle.std.specs.Prelude.{◌≡◌, ℕ, ◌+◌, Bool, true, false, List, [], ◌∷◌, length, max, Option, Some, None, if◌then◌else◌}
use Rattle.suite_base.specs.Lines.{is_blank}
use Rattle.suite_base.specs.Words.{content, begins_word, without_comment}

-- the lines that are left; the first of them, or the end of the text, has this number
pub record Rest : Type 0 where
  pub number : ℕ
  pub lines : List (List ℕ)

-- a line and its number, from 1
pub record Line : Type 0 where
  pub number : ℕ
  pub bytes : List ℕ

-- a word and the column of its first byte, from 1
pub record Word : Type 0 where
  pub column : ℕ
  pub bytes : List ℕ

-- the bytes that lines take at the least: an empty line has a newline
abbrev pub extent : List (List ℕ) → ℕ
extent [] = 0
extent (line ∷ lines) = max 1 (length line) + extent lines

-- the next line was taken, if there was one
abbrev pub TakesLine : Rest → Option Line → Rest → Type 0
TakesLine old None new = (old.lines ≡ []) × (new ≡ old)
TakesLine old (Some line) new =
    (old ≡ record { number = line.number; lines = line.bytes ∷ new.lines }) × (new ≡ record { number = line.number + 1; lines = new.lines })

abbrev pub is_empty : List ℕ → Bool
is_empty [] = true
is_empty (b ∷ bytes) = false

-- a line of blanks and comment alone
abbrev pub is_silent : List ℕ → Bool
is_silent line = is_empty (content line)

-- what is left behind the silent lines at the front
abbrev pub behind_silent : ℕ → List (List ℕ) → Rest
behind_silent number [] = record { number = number; lines = [] }
behind_silent number (line ∷ lines) =
    if is_silent line then behind_silent (number + 1) lines else record { number = number; lines = line ∷ lines }

-- words with one more byte at the front of the first, which begins in this column
abbrev pub put_word : ℕ → ℕ → List Word → List Word
put_word column b [] = record { column = column; bytes = b ∷ [] } ∷ []
put_word column b (word ∷ words) = record { column = column; bytes = b ∷ word.bytes } ∷ words

-- the words of a line whose first byte stands in this column
abbrev pub words_from : ℕ → List ℕ → List Word
words_from column [] = []
words_from column (b ∷ line) =
    if is_blank b then words_from (column + 1) line
    else (if begins_word line then put_word column b (words_from (column + 1) line)
    else record { column = column; bytes = b ∷ [] } ∷ words_from (column + 1) line)

-- the words of a line, without its comment
abbrev pub words_of : List ℕ → List Word
words_of line = words_from 1 (without_comment line)

-- the bytes of each word
abbrev pub word_bytes : List Word → List (List ℕ)
word_bytes [] = []
word_bytes (word ∷ words) = word.bytes ∷ word_bytes words
