-- What a `Tokens` shows, and what it keeps ready.
use Rattle.std.specs.Prelude.{◌≡◌, ◌<◌, ◌≤◌, ◌-◌, ◌^◌, length}
use Rattle.c_lexer.specs.declared.cursors.Tokens.TheInside.{Inside}
use Rattle.c_lexer.specs.Readings.{Reading}
use Rattle.c_lexer.specs.Input.{symbol, start, behind}

abbrev pub reading_of : Inside → Reading
reading_of t = record { text = t.text.now; at = t.at }

abbrev pub IsReady : Inside → Type 0
IsReady t = (t.symbol ≡ symbol (reading_of t)) × (t.from ≡ start (reading_of t)) × (t.to ≡ behind (reading_of t))
    × (t.at ≤ length t.text.now) × (t.to ≤ length t.text.now) × (length t.text.now < 2 ^ 32 - 1)
