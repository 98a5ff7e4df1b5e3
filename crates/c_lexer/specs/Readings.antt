-- A text that is read token by token.
use Rattle.std.specs.Prelude.{◌≡◌, ℕ, ◌+◌, ◌-◌, if◌then◌else◌, ◌==◌, List, length, take, drop, Option, Some, None, Result, Ok, Err}
use Rattle.c_lexer.specs.declared.tokens.TokenKind.{TokenKind}
use Rattle.c_lexer.specs.declared.tokens.Token.{Token}
use Rattle.c_lexer.specs.declared.tokens.BadToken.{BadToken}
use Rattle.suite_base.specs.Places.{place_at}
use Rattle.c_lexer.specs.Tokens.{gap, token_at}

-- a text, and how many of its bytes were read
pub record Reading : Type 0 where
  pub text : List ℕ
  pub at : ℕ

-- a token of a text: its kind, and the bytes from which and up to which it stands
pub record Lexeme : Type 0 where
  pub kind : TokenKind
  pub from : ℕ
  pub to : ℕ

-- the bytes of a text from one place up to another
abbrev pub slice : List ℕ → ℕ → ℕ → List ℕ
slice text from to = take (to - from) (drop from text)

-- where the next token has to stand: behind blanks, newlines and comments
abbrev pub start : Reading → ℕ
start r = r.at + gap (drop r.at r.text)

abbrev pub lexeme_at : ℕ → Option (TokenKind × ℕ) → Result (Option Lexeme) ℕ
lexeme_at from None = Err from
lexeme_at from (Some t) = Ok (Some (record { kind = t.0; from = from; to = from + t.1 }))

-- the token at a place, none at the end, or the place itself where no token begins there
abbrev pub next_from : List ℕ → ℕ → Result (Option Lexeme) ℕ
next_from text from = if from == length text then Ok None else lexeme_at from (token_at (drop from text))

abbrev pub next : Reading → Result (Option Lexeme) ℕ
next r = next_from r.text (start r)

-- the token that ends where reading went on, as the text has it
abbrev pub lexeme_of : Token → Reading → Lexeme
lexeme_of token new = record { kind = token.kind; from = new.at - length token.text.now; to = new.at }

pub record IsToken (text : List ℕ) (lexeme : Lexeme) (token : Token) : Type 0 where
  pub bytes : token.text.now ≡ slice text lexeme.from lexeme.to
  pub placed : token.place ≡ place_at text lexeme.from

-- What an answer says of the text, and where reading goes on: behind the token, at the end, or where it was.
abbrev pub Answers : Reading → Result (Option Token) BadToken → Reading → Type 0
Answers old (Ok (Some token)) new = (new.text ≡ old.text) × (next old ≡ Ok (Some (lexeme_of token new))) × IsToken old.text (lexeme_of token new) token
Answers old (Ok None) new = (new.text ≡ old.text) × (new.at ≡ length old.text) × (next old ≡ Ok None)
Answers old (Err bad) new = (new ≡ old) × (next old ≡ Err (start old)) × (bad.0 ≡ place_at old.text (start old))
