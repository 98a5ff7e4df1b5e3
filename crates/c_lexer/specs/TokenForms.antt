-- What a token of C is, by its own bytes: no definition here cuts a text. And the laws of the cutting: a token is
-- the longest there is, and where none is cut there is none.
use Rattle.std.specs.Prelude.{◌≡◌, ◌⊎◌, ◌↔◌, ℕ, ◌<◌, ◌≤◌, Bool, true, false, not, ◌&&◌, List, [], ◌∷◌, ◌++◌, length, take, Some, None, codes}
use Rattle.std.specs.List.{list_all, list_any}
use Rattle.std.specs.Str.{bytes_eq}
use Rattle.c_lexer.specs.declared.tokens.TokenKind.{TokenKind}
use Rattle.c_lexer.specs.declared.tokens.TokenKind.TheVariants.{Name, Integer, Literal, Sign}
use Rattle.suite_base.specs.Bytes.{begins_name, is_name_byte}
use Rattle.c_lexer.specs.Tokens.{begins_number, goes_on, is_integer, opens_comment, token_at}

-- a letter or `_`, then letters, digits and `_`
abbrev pub is_name : List ℕ → Bool
is_name [] = false
is_name (b ∷ more) = begins_name b && list_all is_name_byte more

-- each byte goes on with a number, seen from the byte before it
abbrev pub all_go_on : ℕ → List ℕ → Bool
all_go_on before [] = true
all_go_on before (b ∷ more) = goes_on before b && all_go_on b more

-- a digit, or a point and a digit, then letters, digits, `_`, points, and signs right after `e` or `E`
abbrev pub is_number : List ℕ → Bool
is_number [] = false
is_number (b ∷ more) = begins_number (b ∷ more) && all_go_on b more

-- the signs of one byte
abbrev pub single_signs : List (List ℕ)
single_signs =
    codes "(" ∷ codes ")" ∷ codes "[" ∷ codes "]" ∷ codes "{" ∷ codes "}" ∷ codes ";" ∷ codes "," ∷ codes "?" ∷ codes ":"
    ∷ codes "=" ∷ codes "+" ∷ codes "-" ∷ codes "*" ∷ codes "/" ∷ codes "%" ∷ codes "<" ∷ codes ">" ∷ codes "!" ∷ []

-- the signs of two bytes
abbrev pub double_signs : List (List ℕ)
double_signs =
    codes "+=" ∷ codes "-=" ∷ codes "*=" ∷ codes "/=" ∷ codes "%=" ∷ codes "++" ∷ codes "--" ∷ codes "<=" ∷ codes ">="
    ∷ codes "==" ∷ codes "!=" ∷ codes "&&" ∷ codes "||" ∷ []

-- one of the listed texts
abbrev pub is_sign : List ℕ → Bool
is_sign text = list_any (bytes_eq text) (single_signs ++ double_signs)

-- the text is a token of this kind
abbrev pub is_token_of : TokenKind → List ℕ → Bool
is_token_of Name text = is_name text
is_token_of Integer text = is_number text && is_integer text
is_token_of Literal text = is_number text && not (is_integer text)
is_token_of Sign text = is_sign text

-- the first n bytes of a text are a token of this kind, and no longer front of it is a token of any kind
pub record IsLongest (text : List ℕ) (kind : TokenKind) (n : ℕ) : Type 0 where
  pub within : n ≤ length text
  pub token : is_token_of kind (take n text) ≡ true
  pub longest : (other : TokenKind) (m : ℕ) → n < m → m ≤ length text → is_token_of other (take m text) ≡ false

-- no front of a text is a token
abbrev pub HasNoToken : List ℕ → Type 0
HasNoToken text = (kind : TokenKind) (m : ℕ) → m ≤ length text → is_token_of kind (take m text) ≡ false

-- a kind and a length are cut exactly if no `/*` begins the text, and they are those of the longest token at its front
abbrev pub TokensAreLongest : Type 0
TokensAreLongest = (text : List ℕ) (kind : TokenKind) (n : ℕ) → (token_at text ≡ Some (kind, n)) ↔ ((opens_comment text ≡ false) × IsLongest text kind n)

-- nothing is cut exactly if a `/*` begins the text, or no front of it is a token
abbrev pub NoTokenIsMissed : Type 0
NoTokenIsMissed = (text : List ℕ) → (token_at text ≡ None) ↔ ((opens_comment text ≡ true) ⊎ HasNoToken text)

-- a text is a token of at most one kind
abbrev pub TokensHaveOneKind : Type 0
TokensHaveOneKind = (text : List ℕ) (kind other : TokenKind) → is_token_of kind text ≡ true → is_token_of other text ≡ true → kind ≡ other
