-- The bytes of a piece of a text.
use Rattle.std.specs.Prelude.{ℕ, List}
use Rattle.c_lexer.specs.Readings.{slice}
use Rattle.c_lexer.specs.declared.pieces.Piece.{Piece}

-- from its first byte up to its end, as far as the text has them
abbrev pub bytes_of : List ℕ → Piece → List ℕ
bytes_of text piece = slice text piece.from piece.to
