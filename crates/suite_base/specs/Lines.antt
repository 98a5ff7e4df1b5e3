use Rattle.std.specs.Prelude.{ℕ, Bool, List, [], ◌∷◌, ◌==◌, ◌||◌, if◌then◌else◌, reverse}

-- a byte that stands between words: space, tab or carriage return
abbrev pub is_blank : ℕ → Bool
is_blank b = (b == 32) || ((b == 9) || (b == 13))

-- the lines with one more byte at the front of the first
abbrev pub put : ℕ → List (List ℕ) → List (List ℕ)
put b [] = (b ∷ []) ∷ []
put b (line ∷ more) = (b ∷ line) ∷ more

-- the lines of a text, which newlines end; what follows the last newline is a line where it is not empty
abbrev pub lines : List ℕ → List (List ℕ)
lines [] = []
lines (b ∷ bytes) = if b == 10 then [] ∷ lines bytes else put b (lines bytes)

-- without the blanks at the front
abbrev pub trim_front : List ℕ → List ℕ
trim_front [] = []
trim_front (b ∷ bytes) = if is_blank b then trim_front bytes else b ∷ bytes

-- without the blanks at both ends
abbrev pub trim : List ℕ → List ℕ
trim bytes = reverse (trim_front (reverse (trim_front bytes)))
