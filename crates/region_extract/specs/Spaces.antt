-- Bytes that begin nothing that separates.
use Rattle.std.specs.Prelude.{ℕ, Bool, not, ◌||◌, ◌==◌}
use Rattle.c_lexer.specs.Tokens.{is_space}

-- no blank, newline or comment begins with the byte
abbrev pub is_plain : ℕ → Bool
is_plain b = not (is_space b || b == 47)
