-- What separates tokens, by its own bytes and by what follows it: no definition here cuts a text. And the law of gaps.
use Rattle.std.specs.Prelude.{◌≡◌, ℕ, Bool, true, false, not, ◌&&◌, ◌||◌, ◌==◌, List, [], ◌∷◌, ◌++◌, take, drop, slice_index, codes}
use Rattle.std.specs.List.{list_all}
use Rattle.c_lexer.specs.Tokens.{is_space, gap}

-- nothing of a line is left: the text ends, or its newline follows
abbrev pub EndsLine : List ℕ → Type 0
EndsLine [] = Unit {0}
EndsLine (b ∷ more) = b ≡ 10

-- `*/` stands somewhere in a text
abbrev pub has_close : List ℕ → Bool
has_close [] = false
has_close (b ∷ more) = (b == 42 && slice_index more 0 == 47) || has_close more

-- one separator, before what follows it
pub data IsSeparator (piece after : List ℕ) : Type 0 where
  -- a blank or a newline
  space : (b : ℕ) → is_space b ≡ true → piece ≡ b ∷ [] → IsSeparator piece after
  -- `//` and the rest of its line
  line : (body : List ℕ) → list_all (λ b. not (b == 10)) body ≡ true → EndsLine after → piece ≡ codes "//" ++ body → IsSeparator piece after
  -- `/*` and what follows up to the first `*/`
  comment : (body : List ℕ) → has_close (body ++ codes "*") ≡ false → piece ≡ codes "/*" ++ (body ++ codes "*/") → IsSeparator piece after

-- separators one after another, before the rest of a text
pub data AreSeparators (rest : List ℕ) : List ℕ → Type 0 where
  none : AreSeparators rest []
  one : (piece more : List ℕ) → IsSeparator piece (more ++ rest) → AreSeparators rest more → AreSeparators rest (piece ++ more)

-- no front of a text is a separator
abbrev pub HasNoSeparator : List ℕ → Type 0
HasNoSeparator text = (piece after : List ℕ) → text ≡ piece ++ after → ¬ IsSeparator piece after

-- the gap before a token is separators, and no other follows
abbrev pub GapsAreSeparators : Type 0
GapsAreSeparators = (text : List ℕ) → AreSeparators (drop (gap text) text) (take (gap text) text) × HasNoSeparator (drop (gap text) text)
