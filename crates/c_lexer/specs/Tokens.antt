-- Tokens of C, and what separates them. Each definition speaks of what stands at the front of a text;
-- a text reads as 0 past its end, and no token or separator has that byte.
use Rattle.std.specs.Prelude.{ℕ, suc, zero, ◌+◌, ◌-◌, Bool, not, ◌&&◌, ◌||◌, if◌then◌else◌, ◌==◌, List, [], ◌∷◌, length, take, drop, slice_index, Option, Some, None, codes}
use Rattle.std.specs.Char.{is_ascii_digit}
use Rattle.std.specs.List.{prefix_len, list_all, list_any}
use Rattle.suite_base.specs.Bytes.{begins_name, is_name_byte}
use Rattle.suite_base.specs.Lines.{is_blank}
use Rattle.c_lexer.specs.declared.tokens.TokenKind.{TokenKind}
use Rattle.c_lexer.specs.declared.tokens.TokenKind.TheVariants.{Name, Integer, Literal, Sign}

abbrev pub is_one_of : ℕ → List ℕ → Bool
is_one_of b bytes = list_any (λ x. x == b) bytes

-- ---- separators: blanks, newlines and comments

abbrev pub is_space : ℕ → Bool
is_space b = is_blank b || b == 10

abbrev pub one_more : Option ℕ → Option ℕ
one_more None = None
one_more (Some n) = Some (suc n)

-- how many bytes a text has up to and with its first `*/`
abbrev pub past_close : List ℕ → Option ℕ
past_close [] = None
past_close (b ∷ text) = if b == 42 && slice_index text 0 == 47 then Some 2 else one_more (past_close text)

-- a comment with its opening, and none where it has no end
abbrev pub comment_len : Option ℕ → ℕ
comment_len None = 0
comment_len (Some n) = 2 + n

abbrev pub opens_line_comment : List ℕ → Bool
opens_line_comment text = slice_index text 0 == 47 && slice_index text 1 == 47

abbrev pub opens_comment : List ℕ → Bool
opens_comment text = slice_index text 0 == 47 && slice_index text 1 == 42

-- how long the separator at the front is, 0 where none stands there: blanks and newlines, a comment up to the
-- end of its line, or one up to its `*/`
abbrev pub separator_len : List ℕ → ℕ
separator_len text =
    if is_space (slice_index text 0) then prefix_len is_space text
    else (if opens_line_comment text then prefix_len (λ b. not (b == 10)) text
    else (if opens_comment text then comment_len (past_close (drop 2 text)) else 0))

-- how many bytes separate, where the first number of them are already known to
abbrev pub gap_from : ℕ → List ℕ → ℕ
gap_from left [] = 0
gap_from (suc left) (b ∷ text) = suc (gap_from left text)
gap_from zero (b ∷ text) = if separator_len (b ∷ text) == 0 then 0 else suc (gap_from (separator_len (b ∷ text) - 1) text)

-- how many bytes separate the front of the text from its first token
abbrev pub gap : List ℕ → ℕ
gap text = gap_from 0 text

-- ---- numbers

-- a number begins with a digit, or with a point and a digit
abbrev pub begins_number : List ℕ → Bool
begins_number text = is_ascii_digit (slice_index text 0) || (slice_index text 0 == 46 && is_ascii_digit (slice_index text 1))

-- a number goes on with a letter, a digit, `_` or a point, and after `e` or `E` with a sign
abbrev pub goes_on : ℕ → ℕ → Bool
goes_on before b = is_name_byte b || b == 46 || (is_one_of b (codes "+-") && is_one_of before (codes "eE"))

-- how many bytes of a number follow the byte before
abbrev pub number_len : ℕ → List ℕ → ℕ
number_len before [] = 0
number_len before (b ∷ text) = if goes_on before b then suc (number_len b text) else 0

-- digits that do not begin with 0, or 0 alone
abbrev pub is_integer : List ℕ → Bool
is_integer text = list_all is_ascii_digit text && (not (slice_index text 0 == 48) || length text == 1)

abbrev pub number_kind : List ℕ → TokenKind
number_kind text = if is_integer text then Integer else Literal

-- ---- signs

-- `=` after a byte that makes a sign with it, or a byte twice
abbrev pub is_pair : ℕ → ℕ → Bool
is_pair a b = (b == 61 && is_one_of a (codes "+-*/%<>=!")) || (b == a && is_one_of a (codes "+-&|"))

abbrev pub is_single : ℕ → Bool
is_single b = is_one_of b (codes "()[]{};,?:=+-*/%<>!")

abbrev pub sign_len : List ℕ → ℕ
sign_len text = if is_pair (slice_index text 0) (slice_index text 1) then 2 else (if is_single (slice_index text 0) then 1 else 0)

-- ---- tokens: the longest one at the front, as its kind and its length

abbrev pub sign_of : ℕ → Option (TokenKind × ℕ)
sign_of zero = None
sign_of (suc n) = Some (Sign, suc n)

-- The token at the front of a text that begins with no separator. A comment without end is none.
abbrev pub token_at : List ℕ → Option (TokenKind × ℕ)
token_at text =
    if begins_name (slice_index text 0) then Some (Name, prefix_len is_name_byte text)
    else (if begins_number text then Some (number_kind (take (number_len 0 text) text), number_len 0 text)
    else (if opens_comment text then None else sign_of (sign_len text)))
