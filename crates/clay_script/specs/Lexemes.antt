-- The tokens of a script's text with their places.
use Rattle.std.specs.Prelude.{ℕ, zero, suc, ◌+◌, ◌-◌, Bool, ◌&&◌, ◌||◌, ◌==◌, not, nat_le, List, [], ◌∷◌, take, if◌then◌else◌}
use Rattle.std.specs.List.{prefix_len}
use Rattle.suite_base.specs.declared.places.Place.{Place}
use Rattle.suite_base.specs.declared.numbers.NumberRead.{NumberRead}
use Rattle.suite_base.specs.declared.numbers.NumberRead.TheVariants as read
use Rattle.suite_base.specs.Places.{first_place, after_byte}
use Rattle.suite_base.specs.Bytes.{is_letter}
use Rattle.suite_base.specs.Lines.{is_blank}
use Rattle.suite_base.specs.Numbers.{is_digit, number_read}
use Rattle.clay_script.specs.declared.tokens.Token.{Token}
use Rattle.clay_script.specs.declared.tokens.Token.TheVariants.{Name, Number, TooLarge, OpenRound, CloseRound, OpenSquare, CloseSquare, Comma, Semicolon, Stray, End}
use Rattle.clay_script.specs.declared.tokens.Lexeme.{Lexeme}
use Rattle.clay_script.specs.Names.{named}

-- a byte between tokens: a blank or a newline
abbrev pub is_gap : ℕ → Bool
is_gap b = is_blank b || (b == 10)

-- the token that a sign is
abbrev pub sign_token : ℕ → Token
sign_token b = if b == 40 then OpenRound else (if b == 41 then CloseRound else (if b == 91 then OpenSquare else (if b == 93 then CloseSquare else (if b == 44 then Comma else (if b == 59 then Semicolon else Stray)))))

-- the token that a number word is
abbrev pub number_token : NumberRead → Token
number_token (read.Value z) = Number z
number_token read.TooLarge = TooLarge
number_token read.NotNumber = Stray

-- the first byte of a number
abbrev pub begins_number : ℕ → Bool
begins_number b = is_digit b || (b == 45)

-- the number of bytes of the token that a text begins with: all letters or all digits that follow belong to it
abbrev pub token_length : List ℕ → ℕ
token_length [] = 0
token_length (b ∷ rest) = if is_letter b then 1 + prefix_len is_letter rest else (if begins_number b then 1 + prefix_len is_digit rest else 1)

-- the token that these bytes are
abbrev pub token_of : List ℕ → Token
token_of [] = End
token_of (b ∷ word) = if is_letter b then Name (named (b ∷ word)) else (if begins_number b then number_token (number_read (b ∷ word)) else sign_token b)

-- the number of bytes before the first newline
abbrev pub line_length : List ℕ → ℕ
line_length = prefix_len (λ b. not (b == 10))

-- The tokens of a text that begins at a place, each with its own place, and at last the end.
-- The first `skip` bytes of the text belong to what stands before it.
abbrev pub lexemes : ℕ → Place → List ℕ → List Lexeme
lexemes skip at [] = record { token = End; place = at } ∷ []
lexemes (suc skip) at (b ∷ rest) = lexemes skip (after_byte at b) rest
lexemes zero at (b ∷ rest) =
    if is_gap b then lexemes 0 (after_byte at b) rest
    else (if b == 35 then lexemes (line_length rest) (after_byte at b) rest
    else record { token = token_of (take (token_length (b ∷ rest)) (b ∷ rest)); place = at } ∷ lexemes (token_length (b ∷ rest) - 1) (after_byte at b) rest)

-- the tokens of a whole text
abbrev pub lexemes_of : List ℕ → List Lexeme
lexemes_of bytes = lexemes 0 first_place bytes
