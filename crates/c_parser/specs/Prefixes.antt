-- The tokens with which a text begins, and what stands among them.
use Rattle.std.specs.Prelude.{◌≡◌, ◌⊎◌, ◌≤◌, ℕ, zero, suc, ◌+◌, true, List, Option, Some, None, Ok, Err}
use Rattle.suite_base.specs.Limits.{max_nests, max_loops}
use Rattle.suite_base.specs.declared.places.Place.{Place}
use Rattle.suite_base.specs.declared.refusals.Refusal.{Refusal}
use Rattle.suite_base.specs.declared.refusals.Refusal.TheVariants.{BadToken, NumberTooLarge, BadSyntax, TooDeep}
use Rattle.c_lexer.specs.declared.tokens.TokenKind.TheVariants as kind
use Rattle.c_lexer.specs.declared.symbols.Symbol.{Symbol}
use Rattle.c_lexer.specs.declared.symbols.Symbol.TheVariants as s
use Rattle.c_lexer.specs.Readings.{Reading, Lexeme, slice, next}
use Rattle.c_lexer.specs.Readings as lexer
use Rattle.c_lexer.specs.Symbols.{is_too_large, is_sound}
use Rattle.c_lexer.specs.Input.{here, symbol, piece, after}
use Rattle.c_lexer.specs.Pieces.{bytes_of}
use Rattle.c_parser.specs.declared.tree.Node.{Node}
use Rattle.c_parser.specs.Derivations.{Derived}

-- where a text is read on behind so many tokens
abbrev pub later : ℕ → Reading → Reading
later zero r = r
later (suc k) r = after (later k r)

-- the next token of two texts is the same, wherever it stands
abbrev pub SameNext : Reading → Reading → Type 0
SameNext r x = (symbol r ≡ symbol x) × (bytes_of r.text (piece r) ≡ bytes_of x.text (piece x))

-- two texts begin with the same tokens, so many of them
abbrev pub SameTokens : ℕ → Reading → Reading → Type 0
SameTokens zero r x = Unit {0}
SameTokens (suc k) r x = SameTokens k r x × SameNext (later k r) (later k x)

-- so many tokens of the grammar come next
abbrev pub Sound : ℕ → Reading → Type 0
Sound zero r = Unit {0}
Sound (suc k) r = Sound k r × (is_sound (symbol (later k r)) ≡ true)

-- the tokens that open nests: ( [ { if else + - ! ?
abbrev pub opens_nest : Symbol → ℕ
opens_nest s.OpenRound = 1
opens_nest s.OpenSquare = 1
opens_nest s.OpenCurly = 1
opens_nest s.If = 1
opens_nest s.Else = 1
opens_nest s.Plus = 1
opens_nest s.Minus = 1
opens_nest s.Not = 1
opens_nest s.Question = 1
opens_nest _ = 0

-- how many of the next tokens are among those
abbrev pub nests_among : ℕ → Reading → ℕ
nests_among zero r = 0
nests_among (suc k) r = nests_among k r + opens_nest (symbol (later k r))

abbrev pub opens_loop : Symbol → ℕ
opens_loop s.For = 1
opens_loop _ = 0

-- how many of the next tokens are the word `for`
abbrev pub loops_among : ℕ → Reading → ℕ
loops_among zero r = 0
loops_among (suc k) r = loops_among k r + opens_loop (symbol (later k r))

-- No text that begins with the tokens of this one, up to and with the one behind so many, is derived to statements
-- within these depths. Where the end stands behind so many, such a text has the tokens of this one and no more.
abbrev pub NoneBegins : ℕ → Reading → ℕ → ℕ → Type 0
NoneBegins k r nests loops = (x : Reading) (nodes : List Node) → SameTokens (suc k) r x → Derived nests loops nodes x → ⊥

-- at a word `for` behind `max_loops` others or more, or behind `max_nests` tokens that open nests
abbrev pub IsDeep : ℕ → Reading → Type 0
IsDeep k r = ((symbol (later k r) ≡ s.For) × (max_loops ≤ loops_among k r)) ⊎ (max_nests ≤ nests_among k r)

-- no token begins behind what separates
abbrev pub NoToken : Reading → Type 0
NoToken r = next r ≡ Err (lexer.start r)

-- the next token is an integer outside the range of coefficients
abbrev pub LargeInteger : Reading → Type 0
LargeInteger r = (w : Lexeme) × (next r ≡ Ok (Some w)) × (w.kind ≡ kind.Integer) × (is_too_large (slice r.text w.from w.to) ≡ true)

-- why a text is refused at the token behind so many tokens of the grammar
abbrev pub Causes : Reading → Refusal → ℕ → Type 0
Causes r (BadToken place) k = NoToken (later k r)
Causes r (NumberTooLarge place) k = LargeInteger (later k r)
Causes r (BadSyntax place) k = (nests loops : ℕ) → NoneBegins k r nests loops
Causes r (TooDeep place) k = IsDeep k r × NoneBegins k r max_nests max_loops
Causes r _ k = ⊥

abbrev pub place_of : Refusal → Option Place
place_of (BadToken place) = Some place
place_of (NumberTooLarge place) = Some place
place_of (BadSyntax place) = Some place
place_of (TooDeep place) = Some place
place_of _ = None

-- a refusal has its place and its cause at one token, or at the end, behind tokens of the grammar alone
abbrev pub HasCause : Reading → Refusal → Type 0
HasCause r refusal = (k : ℕ) × Sound k r × (place_of refusal ≡ Some (here (later k r))) × Causes r refusal k
