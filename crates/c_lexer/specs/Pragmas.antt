-- Pragma lines: apart from blanks `#`, `pragma`, and `scop` or `endscop`, with a blank before the last word.
use Rattle.std.specs.Prelude.{ℕ, Bool, false, ◌&&◌, if◌then◌else◌, ◌==◌, List, [], ◌∷◌, Option, Some, None, codes}
use Rattle.std.specs.List.{list_all}
use Rattle.suite_base.specs.Lines.{is_blank, trim_front}
use Rattle.c_lexer.specs.declared.pragmas.Pragma.{Pragma}
use Rattle.c_lexer.specs.declared.pragmas.Pragma.TheVariants.{Scop, Endscop}

-- what follows a word at the front of a text, where the text begins with it
abbrev pub after : List ℕ → List ℕ → Option (List ℕ)
after [] text = Some text
after (w ∷ word) [] = None
after (w ∷ word) (b ∷ text) = if b == w then after word text else None

-- the same with blanks before the word
abbrev pub after_blanks : List ℕ → Option (List ℕ) → Option (List ℕ)
after_blanks word None = None
after_blanks word (Some text) = after word (trim_front text)

-- what follows `#` and `pragma` on a line that begins so
abbrev pub pragma_rest : List ℕ → Option (List ℕ)
pragma_rest line = after_blanks (codes "pragma") (after_blanks (codes "#") (Some line))

-- nothing but blanks is left
abbrev pub is_bare : List ℕ → Bool
is_bare text = list_all is_blank text

abbrev pub is_bare_rest : Option (List ℕ) → Bool
is_bare_rest None = false
is_bare_rest (Some text) = is_bare text

-- what is left is a blank, and then this word among blanks
abbrev pub says : List ℕ → Option (List ℕ) → Bool
says word None = false
says word (Some []) = false
says word (Some (b ∷ text)) = is_blank b && is_bare_rest (after_blanks word (Some text))

-- the line opens a region
abbrev pub is_scop_line : List ℕ → Bool
is_scop_line line = says (codes "scop") (pragma_rest line)

-- the line closes a region
abbrev pub is_endscop_line : List ℕ → Bool
is_endscop_line line = says (codes "endscop") (pragma_rest line)

-- the line is this pragma
abbrev pub is_pragma : Pragma → List ℕ → Bool
is_pragma Scop line = is_scop_line line
is_pragma Endscop line = is_endscop_line line
