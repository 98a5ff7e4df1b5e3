-- Reading a text line by line: each step takes lines from the front, or stops with the first refusal.
use Rattle.std.specs.Prelude.{◌≡◌, ℤ, pos, ℕ, ◌+◌, Bool, true, List, [], ◌∷◌, length, Option, Some, None, Result, Ok, Err, if◌then◌else◌, ◌==◌, int_le}
use Rattle.std.specs.Str.{bytes_eq}
use Rattle.suite_base.specs.Results as results
use Rattle.suite_base.specs.declared.places.Place.{Place}
use Rattle.suite_base.specs.declared.refusals.Fail.{Fail}
use Rattle.suite_base.specs.declared.refusals.Fail.TheVariants as fail
use Rattle.suite_base.specs.declared.refusals.Refusal.{Refusal}
use Rattle.suite_base.specs.declared.refusals.Refusal.TheVariants.{BadScop, NumberTooLarge}
use Rattle.suite_base.specs.declared.numbers.NumberRead.{NumberRead}
use Rattle.suite_base.specs.declared.numbers.NumberRead.TheVariants.{Value, TooLarge, NotNumber}
use Rattle.suite_base.specs.Lines.{trim}
use Rattle.suite_base.specs.Words.{content}
use Rattle.suite_base.specs.Numbers.{number_read}
use Rattle.scop_reader.specs.Lines.{Rest, Line, Word, behind_silent, words_of, word_bytes}

abbrev pub Outcome : Type 0 → Type 0
Outcome A = Result (A × Rest) Refusal

abbrev pub Reader : Type 0 → Type 0
Reader A = Rest → Outcome A

abbrev pub and_then : {A B : Type 0} → Outcome A → (A → Reader B) → Outcome B
and_then o f = results.and_then o (λ p. f p.0 p.1)

infixl 10 ◌>>=◌
abbrev pub ◌>>=◌ : {A B : Type 0} → Reader A → (A → Reader B) → Reader B
r >>= f = λ rest. and_then (r rest) f

infixl 10 ◌>>◌
abbrev pub ◌>>◌ : {A B : Type 0} → Reader A → Reader B → Reader B
r >> q = r >>= (λ _. q)

abbrev pub pure : {A : Type 0} → A → Reader A
pure a = λ rest. Ok (a, rest)

abbrev pub refuse : {A : Type 0} → Refusal → Reader A
refuse refusal = λ rest. Err refusal

-- goes on where this holds
abbrev pub check : Bool → Refusal → Reader (Unit {0})
check holds refusal = if holds then pure tt else refuse refusal

-- goes on where nothing is refused
abbrev pub unless : Option Refusal → Reader (Unit {0})
unless None = pure tt
unless (Some refusal) = refuse refusal

-- the first line as it stands; where none is left, the end of the text is at fault
abbrev pub first_line : Rest → Outcome Line
first_line rest = elim rest.lines [
  | [] ↦ Err (BadScop rest.number)
  | line ∷ lines ↦ Ok (record { number = rest.number; bytes = line }, record { number = rest.number + 1; lines = lines })
]

-- the next line that says something
unfoldable pub said_line : Reader Line
said_line = λ rest. first_line (behind_silent rest.number rest.lines)

-- the next line that says something, which is left where it is; none at the end of the text
abbrev pub first_of : List (List ℕ) → List ℕ
first_of [] = []
first_of (line ∷ lines) = line

unfoldable pub next_said : Rest → List ℕ
next_said rest = first_of (behind_silent rest.number rest.lines).lines

-- ---- what a line says

-- a line that says exactly this
unfoldable pub literal : List ℕ → Reader (Unit {0})
literal text = do
  line ← said_line
  check (bytes_eq (content line.bytes) text) (BadScop line.number)

-- a line that is exactly this but for blanks at its ends
unfoldable pub closing : List ℕ → Reader (Unit {0})
closing text = do
  line ← said_line
  check (bytes_eq (trim line.bytes) text) (BadScop line.number)

-- a line of n words
unfoldable pub word_line : ℕ → Reader (List (List ℕ))
word_line n = do
  line ← said_line
  check (length (words_of line.bytes) == n) (BadScop line.number)
  pure (word_bytes (words_of line.bytes))

abbrev pub place_of : Line → Word → Place
place_of line word = record { line = line.number; column = word.column }

-- what a word of a line says as a number; only numbers that pass the test may stand there
abbrev pub number_in : Line → (ℤ → Bool) → Word → NumberRead → Result ℤ Refusal
number_in line allowed word NotNumber = Err (BadScop line.number)
number_in line allowed word TooLarge = Err (NumberTooLarge (place_of line word))
number_in line allowed word (Value n) = if allowed n then Ok n else Err (BadScop line.number)

abbrev pub with_number : Result ℤ Refusal → Result (List ℤ) Refusal → Result (List ℤ) Refusal
with_number (Err e) more = Err e
with_number (Ok n) (Err e) = Err e
with_number (Ok n) (Ok ns) = Ok (n ∷ ns)

-- the numbers of these words from left to right, up to the first that may not stand there
abbrev pub numbers_in : Line → (ℤ → Bool) → List Word → Result (List ℤ) Refusal
numbers_in line allowed [] = Ok []
numbers_in line allowed (word ∷ words) =
    with_number (number_in line allowed word (number_read word.bytes)) (numbers_in line allowed words)

abbrev pub of_result : {A : Type 0} → Result A Refusal → Reader A
of_result (Ok a) = pure a
of_result (Err e) = refuse e

-- a function of what was read
abbrev pub mapped : {A B : Type 0} → (A → B) → Result A Refusal → Result B Refusal
mapped f (Ok a) = Ok (f a)
mapped f (Err e) = Err e

-- at least 0; at least 1; any number
abbrev pub is_count : ℤ → Bool
is_count n = int_le (pos 0) n

abbrev pub at_least : ℕ → ℤ → Bool
at_least least n = int_le (pos least) n

abbrev pub is_any : ℤ → Bool
is_any n = true

-- ---- what a function that reads ensures: the reader's outcome, unless memory is wanting

abbrev pub Reads : {A : Type 0} → Outcome A → Result A Fail → Rest → Type 0
Reads outcome (Ok a) now = outcome ≡ Ok (a, now)
Reads outcome (Err fail.Memory) now = Unit {0}
Reads outcome (Err (fail.Refused refusal)) now = outcome ≡ Err refusal

-- the same for a function that puts what it reads in a place of the caller's
abbrev pub ReadsTo : {A : Type 0} → Outcome A → Result (Unit {0}) Fail → A → Rest → Type 0
ReadsTo outcome (Ok _) value now = outcome ≡ Ok (value, now)
ReadsTo outcome (Err fail.Memory) value now = Unit {0}
ReadsTo outcome (Err (fail.Refused refusal)) value now = outcome ≡ Err refusal

-- the same for a function that takes no line
abbrev pub Gives : {A : Type 0} → Result A Refusal → Result A Fail → Type 0
Gives wanted (Ok a) = wanted ≡ Ok a
Gives wanted (Err fail.Memory) = Unit {0}
Gives wanted (Err (fail.Refused refusal)) = wanted ≡ Err refusal
