-- What a token is to the grammar.
use Rattle.std.specs.Prelude.{ℕ, ◌+◌, ◌-◌, ◌*◌, Bool, true, false, if◌then◌else◌, ◌==◌, nat_lt, List, [], ◌∷◌, ◌++◌, map, codes}
use Rattle.std.specs.Str.{bytes_eq}
use denote.Enum.Bare.{sameb}
use Rattle.c_lexer.specs.contracts.symbols.Symbol.{the_type}
use Rattle.c_lexer.specs.declared.tokens.TokenKind.{TokenKind}
use Rattle.c_lexer.specs.declared.tokens.TokenKind.TheVariants as kind
use Rattle.c_lexer.specs.declared.symbols.Symbol.{Symbol}
use Rattle.c_lexer.specs.declared.symbols.Symbol.TheVariants as s
use Rattle.suite_base.specs.Limits.{max_weight}

-- `==` on symbols
unfoldable pub same_symbol : Symbol → Symbol → Bool
same_symbol = sameb the_type

-- what a table of words has for a name, and a free name where it has none
abbrev pub lookup : List (List ℕ × Symbol) → List ℕ → Symbol
lookup [] text = s.Name
lookup (w ∷ words) text = if bytes_eq w.0 text then w.1 else lookup words text

-- the operators of bounds, which are names only before `(`
abbrev pub operator_names : List (List ℕ)
operator_names = codes "max" ∷ codes "min" ∷ codes "ceild" ∷ codes "floord" ∷ []

-- the reserved words of C that have no place in the grammar
abbrev pub other_words : List (List ℕ)
other_words =
    codes "auto" ∷ codes "break" ∷ codes "case" ∷ codes "char" ∷ codes "const" ∷ codes "continue" ∷ codes "default" ∷
    codes "do" ∷ codes "double" ∷ codes "enum" ∷ codes "extern" ∷ codes "float" ∷ codes "goto" ∷ codes "long" ∷
    codes "register" ∷ codes "return" ∷ codes "short" ∷ codes "signed" ∷ codes "sizeof" ∷ codes "static" ∷ codes "struct" ∷
    codes "switch" ∷ codes "typedef" ∷ codes "union" ∷ codes "unsigned" ∷ codes "void" ∷ codes "volatile" ∷ codes "while" ∷ []

-- the 32 reserved words of C and the 4 operators of bounds, with what each is to the grammar
abbrev pub word_symbols : List (List ℕ × Symbol)
word_symbols =
    (codes "for", s.For) ∷ (codes "if", s.If) ∷ (codes "else", s.Else) ∷ (codes "int", s.Int)
    ∷ (map (λ w. (w, s.Operator)) operator_names ++ map (λ w. (w, s.Reserved)) other_words)

unfoldable pub name_symbol : List ℕ → Symbol
name_symbol = lookup word_symbols

-- the number that digits stand for, behind others that stand for one
abbrev pub value_from : ℕ → List ℕ → ℕ
value_from value [] = value
value_from value (b ∷ digits) = value_from (10 * value + (b - 48)) digits

-- more than the greatest coefficient
abbrev pub is_too_large : List ℕ → Bool
is_too_large digits = nat_lt max_weight (value_from 0 digits)

-- ---- signs, by their bytes

abbrev pub operation : ℕ → Symbol
operation b =
    if b == 43 then s.Plus else (if b == 45 then s.Minus else (if b == 42 then s.Times else (if b == 47 then s.Divide
    else (if b == 37 then s.Remainder else (if b == 60 then s.Less else (if b == 62 then s.Greater else (if b == 33 then s.Not else s.Bad)))))))

abbrev pub single : ℕ → Symbol
single b =
    if b == 40 then s.OpenRound else (if b == 41 then s.CloseRound else (if b == 91 then s.OpenSquare else (if b == 93 then s.CloseSquare
    else (if b == 123 then s.OpenCurly else (if b == 125 then s.CloseCurly else (if b == 59 then s.Semicolon else (if b == 44 then s.Comma
    else (if b == 63 then s.Question else (if b == 58 then s.Colon else (if b == 61 then s.Assign else operation b))))))))))

-- `=` behind another byte
abbrev pub assigned : ℕ → Symbol
assigned b =
    if b == 43 then s.PlusAssign else (if b == 45 then s.MinusAssign else (if b == 42 then s.TimesAssign else (if b == 47 then s.DivideAssign
    else (if b == 37 then s.RemainderAssign else (if b == 60 then s.LessEqual else (if b == 62 then s.GreaterEqual else (if b == 61 then s.Same
    else (if b == 33 then s.Differ else s.Bad))))))))

-- a byte twice
abbrev pub doubled : ℕ → Symbol
doubled b = if b == 43 then s.Increment else (if b == 45 then s.Decrement else (if b == 38 then s.And else (if b == 124 then s.Or else s.Bad)))

abbrev pub sign_symbol : List ℕ → Symbol
sign_symbol [] = s.Bad
sign_symbol (a ∷ []) = single a
sign_symbol (a ∷ b ∷ []) = if b == 61 then assigned a else doubled a
sign_symbol (a ∷ b ∷ c ∷ more) = s.Bad

abbrev pub symbol_of : TokenKind → List ℕ → Symbol
symbol_of kind.Name text = name_symbol text
symbol_of kind.Integer text = if is_too_large text then s.TooLarge else s.Integer
symbol_of kind.Literal text = s.Literal
symbol_of kind.Sign text = sign_symbol text

-- a token of the grammar: a place without a token is none, nor is an integer outside the range, nor the end
abbrev pub is_sound : Symbol → Bool
is_sound s.End = false
is_sound s.Bad = false
is_sound s.TooLarge = false
is_sound _ = true
