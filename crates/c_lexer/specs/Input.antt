-- What a rule of the grammar reads from, and the steps that every rule is made of.
use Rattle.std.specs.Prelude.{◌≡◌, ◌≢◌, ℕ, ◌+◌, ◌-◌, Bool, false, if◌then◌else◌, ◌==◌, List, length, Option, Some, None, Result, Ok, Err}
use Rattle.std.specs.Str.{bytes_eq}
use Rattle.suite_base.specs.Results as results
use Rattle.suite_base.specs.declared.places.Place.{Place}
use Rattle.suite_base.specs.declared.refusals.Refusal.{Refusal}
use Rattle.suite_base.specs.declared.refusals.Refusal.TheVariants.{BadToken, NumberTooLarge, BadSyntax, TooDeep}
use Rattle.c_lexer.specs.declared.stops.Stop.{Stop}
use Rattle.c_lexer.specs.declared.stops.Stop.TheVariants.{Memory, Refused}
use Rattle.c_lexer.specs.declared.pieces.Piece.{Piece}
use Rattle.c_lexer.specs.declared.symbols.Symbol.{Symbol}
use Rattle.c_lexer.specs.declared.symbols.Symbol.TheVariants as s
use Rattle.suite_base.specs.Places.{place_at}
use Rattle.c_lexer.specs.Readings.{Reading, Lexeme, slice, next}
use Rattle.c_lexer.specs.Pieces.{bytes_of}
use Rattle.c_lexer.specs.Symbols.{symbol_of, same_symbol}

-- ---- the next token

abbrev pub symbol_from : List ℕ → Result (Option Lexeme) ℕ → Symbol
symbol_from text (Err at) = s.Bad
symbol_from text (Ok None) = s.End
symbol_from text (Ok (Some w)) = symbol_of w.kind (slice text w.from w.to)

abbrev pub start_from : Reading → Result (Option Lexeme) ℕ → ℕ
start_from r (Err at) = r.at
start_from r (Ok None) = length r.text
start_from r (Ok (Some w)) = w.from

abbrev pub here_from : List ℕ → Result (Option Lexeme) ℕ → Place
here_from text (Err at) = place_at text at
here_from text (Ok None) = place_at text (length text)
here_from text (Ok (Some w)) = place_at text w.from

abbrev pub behind_from : Reading → Result (Option Lexeme) ℕ → ℕ
behind_from r (Err at) = r.at
behind_from r (Ok None) = length r.text
behind_from r (Ok (Some w)) = w.to

-- what stands next
unfoldable pub symbol : Reading → Symbol
symbol r = symbol_from r.text (next r)

-- where the next token begins, or the end
unfoldable pub start : Reading → ℕ
start r = start_from r (next r)

-- where the next token ends
unfoldable pub behind : Reading → ℕ
behind r = behind_from r (next r)

-- the place of the next token, or of the end, or where no token begins
unfoldable pub here : Reading → Place
here r = here_from r.text (next r)

-- what is read behind the next token
unfoldable pub after : Reading → Reading
after r = record { text = r.text; at = behind r }

unfoldable pub piece : Reading → Piece
piece r = record { from = start r; to = behind r }

-- more turns than tokens are to come: one more than the bytes that are unread
abbrev pub left : Reading → ℕ
left r = length r.text - r.at + 1

-- ---- parsers

abbrev pub Outcome : Type 0 → Type 0
Outcome A = Result (A × Reading) Stop

abbrev pub Parser : Type 0 → Type 0
Parser A = Reading → Outcome A

abbrev pub and_then : {A B : Type 0} → Outcome A → (A → Parser B) → Outcome B
and_then o f = results.and_then o (λ p. f p.0 p.1)

infixl 10 ◌>>=◌
abbrev pub ◌>>=◌ : {A B : Type 0} → Parser A → (A → Parser B) → Parser B
p >>= f = λ r. and_then (p r) f

infixl 10 ◌>>◌
abbrev pub ◌>>◌ : {A B : Type 0} → Parser A → Parser B → Parser B
p >> q = p >>= (λ _. q)

abbrev pub pure : {A : Type 0} → A → Parser A
pure a = λ r. Ok (a, r)

infixr 11 ◌<$>◌
abbrev pub ◌<$>◌ : {A B : Type 0} → (A → B) → Parser A → Parser B
f <$> p = p >>= (λ x. pure (f x))

abbrev pub refusal_at : Symbol → Place → Refusal
refusal_at s.Bad place = BadToken place
refusal_at s.TooLarge place = NumberTooLarge place
refusal_at _ place = BadSyntax place

-- why no rule goes on with what stands next
unfoldable pub refusal : Reading → Refusal
refusal r = refusal_at (symbol r) (here r)

abbrev pub refuse : {A : Type 0} → Parser A
refuse = λ r. Err (Refused (refusal r))

abbrev pub peek : Parser Symbol
peek = λ r. Ok (symbol r, r)

-- where the next token begins
abbrev pub position : Parser ℕ
position = λ r. Ok (start r, r)

-- takes the next token, whatever it is
abbrev pub take_token : Parser Piece
take_token = λ r. Ok (piece r, after r)

unfoldable pub sees : Symbol → Reading → Bool
sees k r = same_symbol (symbol r) k

unfoldable pub after_if : Symbol → Reading → Reading
after_if k r = if sees k r then after r else r

-- takes this token, if it comes next
abbrev pub eat : Symbol → Parser Bool
eat k = λ r. Ok (sees k r, after_if k r)

-- takes this token, which has to come next
unfoldable pub expect : Symbol → Parser Piece
expect k = λ r. if sees k r then Ok (piece r, after r) else refuse r

-- the next token opens a nest, of which so many may still be opened
unfoldable pub open_nest : ℕ → Parser (Unit {0})
open_nest nests = λ r. if nests == 0 then Err (Refused (TooDeep (here r))) else Ok (tt, r)

-- the next token opens a loop, of which so many may still be opened
unfoldable pub open_loop : ℕ → Parser (Unit {0})
open_loop loops = λ r. if loops == 0 then Err (Refused (TooDeep (here r))) else Ok (tt, r)

-- two pieces of a text have the same bytes
abbrev pub same_text : List ℕ → Piece → Piece → Bool
same_text text a b = bytes_eq (bytes_of text a) (bytes_of text b)

-- the next token is the name that stands there
unfoldable pub sees_name : Piece → Reading → Bool
sees_name name r = if sees s.Name r then same_text r.text name (piece r) else false

-- takes that name, which has to come next
unfoldable pub same_name : Piece → Parser (Unit {0})
same_name name = λ r. if sees_name name r then Ok (tt, after r) else refuse r

-- ---- what a function that parses ensures: the parser's outcome, unless memory is wanting

abbrev pub Reads : {A : Type 0} → Outcome A → Result A Stop → Reading → Type 0
Reads outcome (Ok a) new = outcome ≡ Ok (a, new)
Reads outcome (Err e) new = e ≢ Memory → outcome ≡ Err e
