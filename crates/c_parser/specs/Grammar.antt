-- The grammar of values, apart from how a text is read: which tokens are derived to which tree, one definition for
-- each production. The number is that of the nests that may be open at once.
use Rattle.std.specs.Prelude.{◌≡◌, ◌⊎◌, ℕ, zero, suc, ◌<◌, List, [], ◌∷◌, Option, Some, None}
use Rattle.c_lexer.specs.declared.symbols.Symbol.{Symbol}
use Rattle.c_lexer.specs.declared.symbols.Symbol.TheVariants as s
use Rattle.c_lexer.specs.declared.pieces.Piece.{Piece}
use Rattle.c_lexer.specs.Readings.{Reading}
use Rattle.c_lexer.specs.Input.{symbol, piece, start, after}
use Rattle.c_parser.specs.declared.tree.Value.{Value, roll-Value}
use Rattle.c_parser.specs.declared.tree.Arms.{Arms, roll-Arms}
use Rattle.c_parser.specs.declared.tree.Or.{Or, roll-Or}
use Rattle.c_parser.specs.declared.tree.And.{And, roll-And}
use Rattle.c_parser.specs.declared.tree.Equal.{Equal, roll-Equal}
use Rattle.c_parser.specs.declared.tree.EqualSign.{EqualSign}
use Rattle.c_parser.specs.declared.tree.EqualSign.TheVariants as eq
use Rattle.c_parser.specs.declared.tree.Compare.{Compare, roll-Compare}
use Rattle.c_parser.specs.declared.tree.Rel.{Rel}
use Rattle.c_parser.specs.declared.tree.Rel.TheVariants as rl
use Rattle.c_parser.specs.declared.tree.Sum.{Sum, roll-Sum}
use Rattle.c_parser.specs.declared.tree.SumSign.{SumSign}
use Rattle.c_parser.specs.declared.tree.SumSign.TheVariants as sm
use Rattle.c_parser.specs.declared.tree.Product.{Product, roll-Product}
use Rattle.c_parser.specs.declared.tree.ProductSign.{ProductSign}
use Rattle.c_parser.specs.declared.tree.ProductSign.TheVariants as pr
use Rattle.c_parser.specs.declared.tree.Unary.{Unary, roll-Unary}
use Rattle.c_parser.specs.declared.tree.UnarySign.{UnarySign}
use Rattle.c_parser.specs.declared.tree.UnarySign.TheVariants as un
use Rattle.c_parser.specs.declared.tree.Primary.{Primary}
use Rattle.c_parser.specs.declared.tree.Primary.TheVariants as pri
use Rattle.c_parser.specs.declared.tree.Target.{Target, roll-Target}

-- ---- phrases: the tokens from one place of a text up to another

abbrev pub Phrase : Type 1
Phrase = Reading → Reading → Type 0

-- no token
abbrev pub empty : Phrase
empty r r' = r ≡ r'

-- no tokens are derived
abbrev pub none : Phrase
none r r' = ⊥

-- this token
abbrev pub token : Symbol → Phrase
token k r r' = (symbol r ≡ k) × (after r ≡ r')

-- this token, which stands at this piece
abbrev pub word : Symbol → Piece → Phrase
word k p r r' = (symbol r ≡ k) × (piece r ≡ p) × (after r ≡ r')

-- the next token begins at this byte
abbrev pub begins : ℕ → Phrase
begins at r r' = (start r ≡ at) × (r ≡ r')

-- one phrase, and then another
infixr 12 ◌then◌
abbrev pub ◌then◌ : Phrase → Phrase → Phrase
d then e = λ r r'. (m : Reading) × d r m × e m r'

-- `{ sign item }`
abbrev pub signed : {S A : Type 0} → (S → Symbol) → (A → Phrase) → List (S × A) → Phrase
signed sign item [] = empty
signed sign item (x ∷ more) = token (sign x.0) then item x.1 then signed sign item more

-- `{ separator item }`
abbrev pub others : {A : Type 0} → Symbol → (A → Phrase) → List A → Phrase
others separator item [] = empty
others separator item (x ∷ more) = token separator then item x then others separator item more

-- `item { separator item }`
abbrev pub separated : {A : Type 0} → Symbol → (A → Phrase) → List A → Phrase
separated separator item [] = none
separated separator item (x ∷ more) = item x then others separator item more

-- `{ item }`
abbrev pub each : {A : Type 0} → (A → Phrase) → List A → Phrase
each item [] = empty
each item (x ∷ more) = item x then each item more

-- ---- signs

abbrev pub equal_token : EqualSign → Symbol
equal_token eq.Same = s.Same
equal_token eq.Differ = s.Differ

abbrev pub rel_token : Rel → Symbol
rel_token rl.Less = s.Less
rel_token rl.LessEqual = s.LessEqual
rel_token rl.Greater = s.Greater
rel_token rl.GreaterEqual = s.GreaterEqual

abbrev pub sum_token : SumSign → Symbol
sum_token sm.Plus = s.Plus
sum_token sm.Minus = s.Minus

abbrev pub product_token : ProductSign → Symbol
product_token pr.Times = s.Times
product_token pr.Divide = s.Divide
product_token pr.Remainder = s.Remainder

abbrev pub unary_token : UnarySign → Symbol
unary_token un.Plus = s.Plus
unary_token un.Minus = s.Minus
unary_token un.Not = s.Not

-- ---- the productions, over those of one nest more
pub record Forms : Type 1 where
  pub value : Value → Phrase
  pub sum : Sum → Phrase
  -- an operand with the signs before it
  pub operand : List UnarySign → Primary → Phrase

abbrev pub no_forms : Forms
no_forms = record { value = λ v. none; sum = λ v. none; operand = λ signs p. none }

-- a phrase that opens a nest, of which so many may be opened
abbrev pub nest : ℕ → Phrase → Phrase
nest nests d r r' = (0 < nests) × d r r'

module _ (nests : ℕ) (inner : Forms) where
  -- "[" sum "]"
  abbrev pub subscript : Sum → Phrase
  subscript sum = nest nests (token s.OpenSquare then inner.sum sum then token s.CloseSquare)

  -- name { "[" sum "]" }
  pub record IsTarget (t : Target) (r r' : Reading) : Type 0 where
    pub name : Piece
    pub subscripts : List Sum
    pub is : roll-Target (record { name = name; subscripts = subscripts }) ≡ t
    pub derived : (word s.Name name then each subscript subscripts) r r'

  -- [ value { "," value } ] ")"
  abbrev pub arguments : List Value → Phrase
  arguments [] = token s.CloseRound
  arguments (v ∷ more) = separated s.Comma inner.value (v ∷ more) then token s.CloseRound

  -- a called name, which may be that of an operator
  abbrev pub called : Piece → Phrase
  called name r r' = word s.Name name r r' ⊎ word s.Operator name r r'

  pub data IsPrimary (t : Primary) (r r' : Reading) : Type 0 where
    integer : (p : Piece) → pri.Integer p ≡ t → word s.Integer p r r' → IsPrimary t r r'
    literal : (p : Piece) → pri.Literal p ≡ t → word s.Literal p r r' → IsPrimary t r r'
    target : (target : Target) → pri.Target target ≡ t → IsTarget target r r' → IsPrimary t r r'
    -- name "(" [ value { "," value } ] ")"
    call : (name : Piece) → (values : List Value) → pri.Call name values ≡ t
        → (called name then nest nests (token s.OpenRound then arguments values)) r r' → IsPrimary t r r'
    -- "(" value ")"
    bracket : (v : Value) → pri.Bracket v ≡ t → nest nests (token s.OpenRound then inner.value v then token s.CloseRound) r r' → IsPrimary t r r'

  -- { "+" | "-" | "!" } primary
  abbrev pub operand : List UnarySign → Primary → Phrase
  operand [] p = IsPrimary p
  operand (sign ∷ signs) p = nest nests (token (unary_token sign) then inner.operand signs p)

  pub record IsUnary (t : Unary) (r r' : Reading) : Type 0 where
    pub signs : List UnarySign
    pub primary : Primary
    pub is : roll-Unary (record { signs = signs; primary = primary }) ≡ t
    pub derived : operand signs primary r r'

  -- unary { ("*" | "/" | "%") unary }
  pub record IsProduct (t : Product) (r r' : Reading) : Type 0 where
    pub first : Unary
    pub rest : List (ProductSign × Unary)
    pub is : roll-Product (record { first = first; rest = rest }) ≡ t
    pub derived : (IsUnary first then signed product_token IsUnary rest) r r'

  -- product { ("+" | "-") product }
  pub record IsSum (t : Sum) (r r' : Reading) : Type 0 where
    pub first : Product
    pub rest : List (SumSign × Product)
    pub is : roll-Sum (record { at = start r; first = first; rest = rest }) ≡ t
    pub derived : (IsProduct first then signed sum_token IsProduct rest) r r'

  -- sum { ("<" | "<=" | ">" | ">=") sum }
  pub record IsCompare (t : Compare) (r r' : Reading) : Type 0 where
    pub first : Sum
    pub rest : List (Rel × Sum)
    pub is : roll-Compare (record { first = first; rest = rest }) ≡ t
    pub derived : (IsSum first then signed rel_token IsSum rest) r r'

  -- compare { ("==" | "!=") compare }
  pub record IsEqual (t : Equal) (r r' : Reading) : Type 0 where
    pub first : Compare
    pub rest : List (EqualSign × Compare)
    pub is : roll-Equal (record { first = first; rest = rest }) ≡ t
    pub derived : (IsCompare first then signed equal_token IsCompare rest) r r'

  -- equal { "&&" equal }
  pub record IsAnd (t : And) (r r' : Reading) : Type 0 where
    pub items : List Equal
    pub is : roll-And (record { items = items }) ≡ t
    pub derived : separated s.And IsEqual items r r'

  -- and { "||" and }
  pub record IsOr (t : Or) (r r' : Reading) : Type 0 where
    pub items : List And
    pub is : roll-Or (record { items = items }) ≡ t
    pub derived : separated s.Or IsAnd items r r'

  -- [ "?" value ":" value ]
  pub data IsArms (t : Option Arms) (r r' : Reading) : Type 0 where
    absent : None ≡ t → empty r r' → IsArms t r r'
    present : (one other : Value) → Some (roll-Arms (record { yes = one; no = other })) ≡ t
        → nest nests (token s.Question then inner.value one then token s.Colon then inner.value other) r r' → IsArms t r r'

  -- or [ "?" value ":" value ]
  pub record IsValue (t : Value) (r r' : Reading) : Type 0 where
    pub test : Or
    pub arms : Option Arms
    pub is : roll-Value (record { at = start r; test = test; arms = arms }) ≡ t
    pub derived : (IsOr test then IsArms arms) r r'

  abbrev pub forms : Forms
  forms = record { value = IsValue; sum = IsSum; operand = operand }

-- the productions in one nest more than these that may be open
abbrev pub nested : ℕ → Forms
nested zero = no_forms
nested (suc n) = forms n (nested n)
