-- Values: one rule for each production of the grammar, from the least binding to the most. The number is that of
-- the nests that may still be opened.
use Rattle.std.specs.Prelude.{ℕ, zero, suc, if◌then◌else◌, List, [], ◌∷◌, ◌++◌, Option, Some, None}
use Rattle.c_lexer.specs.declared.symbols.Symbol.{Symbol}
use Rattle.c_lexer.specs.declared.symbols.Symbol.TheVariants as s
use Rattle.c_lexer.specs.declared.pieces.Piece.{Piece}
use Rattle.c_lexer.specs.Input.{Parser, ◌>>=◌, ◌>>◌, ◌<$>◌, pure, refuse, peek, position, take_token, eat, expect, open_nest, left}
use Rattle.c_lexer.specs.Symbols.{same_symbol}
use Rattle.c_parser.specs.declared.tree.Value.{Value, roll-Value}
use Rattle.c_parser.specs.declared.tree.Arms.{Arms, roll-Arms}
use Rattle.c_parser.specs.declared.tree.Or.{Or, roll-Or}
use Rattle.c_parser.specs.declared.tree.And.{And, roll-And}
use Rattle.c_parser.specs.declared.tree.Equal.{Equal, roll-Equal}
use Rattle.c_parser.specs.declared.tree.EqualSign.{EqualSign}
use Rattle.c_parser.specs.declared.tree.EqualSign.TheVariants as eq
use Rattle.c_parser.specs.declared.tree.Compare.{Compare, roll-Compare}
use Rattle.c_parser.specs.declared.tree.Rel.{Rel}
use Rattle.c_parser.specs.declared.tree.Rel.TheVariants as rl
use Rattle.c_parser.specs.declared.tree.Sum.{Sum, roll-Sum}
use Rattle.c_parser.specs.declared.tree.SumSign.{SumSign}
use Rattle.c_parser.specs.declared.tree.SumSign.TheVariants as sm
use Rattle.c_parser.specs.declared.tree.Product.{Product, roll-Product}
use Rattle.c_parser.specs.declared.tree.ProductSign.{ProductSign}
use Rattle.c_parser.specs.declared.tree.ProductSign.TheVariants as pr
use Rattle.c_parser.specs.declared.tree.Unary.{Unary, roll-Unary}
use Rattle.c_parser.specs.declared.tree.UnarySign.{UnarySign}
use Rattle.c_parser.specs.declared.tree.UnarySign.TheVariants as un
use Rattle.c_parser.specs.declared.tree.Primary.{Primary}
use Rattle.c_parser.specs.declared.tree.Primary.TheVariants as pri
use Rattle.c_parser.specs.declared.tree.Target.{Target, roll-Target}

-- ---- signs

abbrev pub equal_sign : Symbol → Option EqualSign
equal_sign s.Same = Some eq.Same
equal_sign s.Differ = Some eq.Differ
equal_sign _ = None

abbrev pub rel_sign : Symbol → Option Rel
rel_sign s.Less = Some rl.Less
rel_sign s.LessEqual = Some rl.LessEqual
rel_sign s.Greater = Some rl.Greater
rel_sign s.GreaterEqual = Some rl.GreaterEqual
rel_sign _ = None

abbrev pub sum_sign : Symbol → Option SumSign
sum_sign s.Plus = Some sm.Plus
sum_sign s.Minus = Some sm.Minus
sum_sign _ = None

abbrev pub product_sign : Symbol → Option ProductSign
product_sign s.Times = Some pr.Times
product_sign s.Divide = Some pr.Divide
product_sign s.Remainder = Some pr.Remainder
product_sign _ = None

abbrev pub unary_sign : Symbol → Option UnarySign
unary_sign s.Plus = Some un.Plus
unary_sign s.Minus = Some un.Minus
unary_sign s.Not = Some un.Not
unary_sign _ = None

-- ---- repetition. The number bounds the turns; each turn takes a token, so the count of bytes is enough.

abbrev pub go_on : {S A : Type 0} → Parser A → (List (S × A) → Parser (List (S × A))) → List (S × A) → Option S → Parser (List (S × A))
go_on item more found None = pure found
go_on item more found (Some mark) = do
  take_token
  x ← item
  more (found ++ (mark, x) ∷ [])

-- `{ sign item }`, behind those that were found
unfoldable pub signed_from : {S A : Type 0} → (Symbol → Option S) → Parser A → ℕ → List (S × A) → Parser (List (S × A))
signed_from sign item zero found = refuse
signed_from sign item (suc n) found = peek >>= (λ k. go_on item (signed_from sign item n) found (sign k))

-- `item { sign item }`, behind those that were found
unfoldable pub separated_from : {A : Type 0} → Symbol → Parser A → ℕ → List A → Parser (List A)
separated_from sign item zero found = refuse
separated_from sign item (suc n) found = do
  x ← item
  more ← eat sign
  if more then separated_from sign item n (found ++ x ∷ []) else pure (found ++ x ∷ [])

abbrev pub separated : {A : Type 0} → Symbol → Parser A → Parser (List A)
separated sign item = λ r. separated_from sign item (left r) [] r

-- ---- the rules, over those that stand in one nest more
pub record Rules : Type 0 where
  pub value : Parser Value
  pub sum : Parser Sum
  -- behind the signs that were read
  pub unary : List UnarySign → Parser Unary

abbrev pub no_rules : Rules
no_rules = record { value = refuse; sum = refuse; unary = λ signs. refuse }

module _ (nests : ℕ) (inner : Rules) where
  -- `"[" sum "]"`, whose first token comes next
  unfoldable pub subscript : Parser Sum
  subscript = do
    open_nest nests
    take_token
    found ← inner.sum
    expect s.CloseSquare
    pure found

  -- `{ "[" sum "]" }`, behind those that were found
  unfoldable pub subscripts_from : ℕ → List Sum → Parser (List Sum)
  subscripts_from zero found = refuse
  subscripts_from (suc n) found = do
    kind ← peek
    if same_symbol kind s.OpenSquare then (do sum ← subscript; subscripts_from n (found ++ sum ∷ [])) else pure found

  unfoldable pub subscripts : Parser (List Sum)
  subscripts = λ r. subscripts_from (left r) [] r

  unfoldable pub target : Parser Target
  target = do
    name ← expect s.Name
    found ← subscripts
    pure (roll-Target (record { name = name; subscripts = found }))

  -- behind the opening bracket
  unfoldable pub arguments : Parser (List Value)
  arguments = do
    is_empty ← eat s.CloseRound
    if is_empty then pure [] else (do found ← separated s.Comma inner.value; expect s.CloseRound; pure found)

  -- behind a name; its opening bracket comes next
  unfoldable pub call : Piece → Parser Primary
  call name = do
    open_nest nests
    take_token
    found ← arguments
    pure (pri.Call name found)

  unfoldable pub named : Parser Primary
  named = do
    name ← take_token
    kind ← peek
    if same_symbol kind s.OpenRound then call name else (do found ← subscripts; pure (pri.Target (roll-Target (record { name = name; subscripts = found }))))

  -- `max`, `min`, `ceild` and `floord` are names only before `(`
  unfoldable pub operator : Parser Primary
  operator = do
    name ← take_token
    kind ← peek
    if same_symbol kind s.OpenRound then call name else refuse

  unfoldable pub bracket : Parser Primary
  bracket = do
    open_nest nests
    take_token
    value ← inner.value
    expect s.CloseRound
    pure (pri.Bracket value)

  abbrev pub primary_by : Symbol → Parser Primary
  primary_by s.Integer = pri.Integer <$> take_token
  primary_by s.Literal = pri.Literal <$> take_token
  primary_by s.Name = named
  primary_by s.Operator = operator
  primary_by s.OpenRound = bracket
  primary_by _ = refuse

  unfoldable pub primary : Parser Primary
  primary = peek >>= primary_by

  unfoldable pub operand : List UnarySign → Parser Unary
  operand signs = do
    found ← primary
    pure (roll-Unary (record { signs = signs; primary = found }))

  abbrev pub unary_by : List UnarySign → Option UnarySign → Parser Unary
  unary_by signs None = operand signs
  unary_by signs (Some sign) = do
    open_nest nests
    take_token
    inner.unary (signs ++ sign ∷ [])

  -- `{ sign } primary`, behind the signs that were read
  unfoldable pub unary : List UnarySign → Parser Unary
  unary signs = peek >>= (λ k. unary_by signs (unary_sign k))

  unfoldable pub product_rest : Parser (List (ProductSign × Unary))
  product_rest = λ r. signed_from product_sign (unary []) (left r) [] r

  unfoldable pub product : Parser Product
  product = do
    first ← unary []
    rest ← product_rest
    pure (roll-Product (record { first = first; rest = rest }))

  unfoldable pub sum_rest : Parser (List (SumSign × Product))
  sum_rest = λ r. signed_from sum_sign product (left r) [] r

  unfoldable pub sum : Parser Sum
  sum = do
    at ← position
    first ← product
    rest ← sum_rest
    pure (roll-Sum (record { at = at; first = first; rest = rest }))

  unfoldable pub compare_rest : Parser (List (Rel × Sum))
  compare_rest = λ r. signed_from rel_sign sum (left r) [] r

  unfoldable pub compare : Parser Compare
  compare = do
    first ← sum
    rest ← compare_rest
    pure (roll-Compare (record { first = first; rest = rest }))

  unfoldable pub equal_rest : Parser (List (EqualSign × Compare))
  equal_rest = λ r. signed_from equal_sign compare (left r) [] r

  unfoldable pub equal : Parser Equal
  equal = do
    first ← compare
    rest ← equal_rest
    pure (roll-Equal (record { first = first; rest = rest }))

  unfoldable pub and_value : Parser And
  and_value = do
    items ← separated s.And equal
    pure (roll-And (record { items = items }))

  unfoldable pub or_value : Parser Or
  or_value = do
    items ← separated s.Or and_value
    pure (roll-Or (record { items = items }))

  -- behind a test: `"?" value ":" value`, if it follows
  unfoldable pub arms : Parser (Option Arms)
  arms = do
    kind ← peek
    if same_symbol kind s.Question then (do open_nest nests; take_token; one ← inner.value; expect s.Colon; other ← inner.value; pure (Some (roll-Arms (record { yes = one; no = other })))) else pure None

  unfoldable pub value : Parser Value
  value = do
    at ← position
    test ← or_value
    found ← arms
    pure (roll-Value (record { at = at; test = test; arms = found }))

  abbrev pub rules : Rules
  rules = record { value = value; sum = sum; unary = unary }

-- the rules for one nest more than these that may still be opened
unfoldable pub below : ℕ → Rules
below zero = no_rules
below (suc n) = rules n (below n)
