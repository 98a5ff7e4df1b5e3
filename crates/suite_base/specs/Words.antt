use Rattle.std.specs.Prelude.{ℕ, ◌≡◌, ◌-◌, ◌<◌, ◌≤◌, Bool, true, false, ◌&&◌, ◌==◌, List, [], ◌∷◌, ◌++◌, length, take, drop, not, if◌then◌else◌}
use Rattle.suite_base.specs.Lines.{is_blank, trim, trim_front, put}

-- the part of a line before its first `#`
abbrev pub without_comment : List ℕ → List ℕ
without_comment [] = []
without_comment (b ∷ line) = if b == 35 then [] else b ∷ without_comment line

-- what a line says: without its comment, and without blanks at both ends
abbrev pub content : List ℕ → List ℕ
content line = trim (without_comment line)

-- a byte of a word stands first
abbrev pub begins_word : List ℕ → Bool
begins_word [] = false
begins_word (b ∷ line) = not (is_blank b)

-- the words of a line: its runs of bytes that are not blank
abbrev pub words : List ℕ → List (List ℕ)
words [] = []
words (b ∷ line) = if is_blank b then words line else (if begins_word line then put b (words line) else (b ∷ []) ∷ words line)

-- the first word at or after `from` stands from `start` to before `end`
pub record FirstWord (line : List ℕ) (from start end : ℕ) : Type 0 where
  pub after : from ≤ start
  pub some : start < end
  pub within : end ≤ length line
  pub gap : trim_front (drop from line) ≡ drop start line
  pub word : words (drop from line) ≡ take (end - start) (drop start line) ∷ words (drop end line)

-- no byte is blank
abbrev pub unbroken : List ℕ → Bool
unbroken [] = true
unbroken (b ∷ word) = not (is_blank b) && unbroken word

-- one or more bytes, none of them blank
abbrev pub is_word : List ℕ → Bool
is_word word = begins_word word && unbroken word

-- every one of these is a word
abbrev pub are_words : List (List ℕ) → Bool
are_words [] = true
are_words (word ∷ more) = is_word word && are_words more

-- words with a single space between each two
abbrev pub spaced : List (List ℕ) → List ℕ
spaced [] = []
spaced (word ∷ []) = word
spaced (word ∷ next ∷ more) = word ++ (32 ∷ spaced (next ∷ more))
