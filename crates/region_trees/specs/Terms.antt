-- Values as terms: what the parser's trees say, with the brackets of the text, one sign between two operands, and the bytes of names.
use Rattle.std.specs.Prelude.{ℕ, List, [], ◌∷◌, Option, Some, None}
use Rattle.c_lexer.specs.declared.pieces.Piece.{Piece}
use Rattle.c_lexer.specs.Pieces.{bytes_of}
use Rattle.c_lexer.specs.Symbols.{value_from}
use Rattle.c_parser.specs.declared.tree.Rel.{Rel}
use Rattle.c_parser.specs.declared.tree.Rel.TheVariants as rl
use Rattle.c_parser.specs.declared.tree.EqualSign.{EqualSign}
use Rattle.c_parser.specs.declared.tree.EqualSign.TheVariants as eq
use Rattle.c_parser.specs.declared.tree.SumSign.{SumSign}
use Rattle.c_parser.specs.declared.tree.SumSign.TheVariants as sm
use Rattle.c_parser.specs.declared.tree.ProductSign.{ProductSign}
use Rattle.c_parser.specs.declared.tree.ProductSign.TheVariants as pr
use Rattle.c_parser.specs.declared.tree.UnarySign.{UnarySign}
use Rattle.c_parser.specs.declared.tree.Sum.{Sum}
use Rattle.c_parser.specs.declared.tree.Value.{Value}
use Rattle.c_parser.specs.declared.tree.Target.{Target}
use Rattle.c_parser.specs.declared.tree.Product.{Product}
use Rattle.c_parser.specs.declared.tree.Unary.{Unary}
use Rattle.c_parser.specs.declared.tree.Primary.{Primary}
use Rattle.c_parser.specs.declared.tree.Compare.{Compare}
use Rattle.c_parser.specs.declared.tree.Equal.{Equal}
use Rattle.c_parser.specs.declared.tree.And.{And}
use Rattle.c_parser.specs.declared.tree.Or.{Or}
use Rattle.c_parser.specs.declared.tree.Arms.{Arms}
use Rattle.c_parser.specs.declared.tree.Primary.TheOpen.{Primary-F, And-F, Arms-F, Compare-F, Equal-F, Or-F, Product-F, Sum-F, Target-F, Unary-F, Value-F}
use Rattle.c_parser.specs.declared.tree.Primary.TheFolds.{fold-Sum, fold-Value, fold-Target, fold-Product, fold-Unary, fold-Primary, fold-Compare, fold-Equal, fold-And, fold-Or, fold-Arms}
use Rattle.clan_extract.specs.Regions.{Comparison, IsLess, IsLessOrEqual, IsGreater, IsGreaterOrEqual, IsEqual, IsUnequal}

-- a sign between two operands
pub data Operation : Type 0 where
  Plus : Operation
  Minus : Operation
  Times : Operation
  Divide : Operation
  Modulo : Operation
  Conjunction : Operation
  Disjunction : Operation
  Compares : (comparison : Comparison) → Operation

-- a term, and a list of terms, each with the place of its first byte. A name, also before a bracket of arguments, has its own place
mutual
  pub data Term : Type 0 where
    Integer : (value : ℕ) → Term
    Literal : Term
    Named : (name : List ℕ) → (at : ℕ) → (subscripts : Terms) → Term
    Call : (name : List ℕ) → (at : ℕ) → (arguments : Terms) → Term
    Bracket : (of : Term) → Term
    Signed : (sign : UnarySign) → (of : Term) → Term
    Joined : (operation : Operation) → (left : Term) → (right : Term) → Term
    Choice : (test : Term) → (one : Term) → (other : Term) → Term

  pub data Terms : Type 0 where
    NoTerms : Terms
    More : (at : ℕ) → (first : Term) → (rest : Terms) → Terms

-- a term with the place of its first byte
pub record Located : Type 0 where
  pub at : ℕ
  pub term : Term

-- a name with its place and its subscripts
pub record Element : Type 0 where
  pub name : List ℕ
  pub at : ℕ
  pub subscripts : Terms

-- the two arms of a choice
pub record Pair : Type 0 where
  pub yes : Term
  pub no : Term

-- ---- signs

abbrev pub order_of : Rel → Comparison
order_of rl.Less = IsLess
order_of rl.LessEqual = IsLessOrEqual
order_of rl.Greater = IsGreater
order_of rl.GreaterEqual = IsGreaterOrEqual

abbrev pub of_rel : Rel → Operation
of_rel rel = Compares (order_of rel)

abbrev pub of_equal : EqualSign → Operation
of_equal eq.Same = Compares IsEqual
of_equal eq.Differ = Compares IsUnequal

abbrev pub of_sum : SumSign → Operation
of_sum sm.Plus = Plus
of_sum sm.Minus = Minus

abbrev pub of_product : ProductSign → Operation
of_product pr.Times = Times
of_product pr.Divide = Divide
of_product pr.Remainder = Modulo

-- ---- lists

abbrev pub terms : List Located → Terms
terms [] = NoTerms
terms (x ∷ xs) = More x.at x.term (terms xs)

-- the operands behind a term, from the left
abbrev pub joined_from : {S : Type 0} → (S → Operation) → Term → List (S × Term) → Term
joined_from of left [] = left
joined_from of left (x ∷ xs) = joined_from of (Joined (of x.0) left x.1) xs

abbrev pub located_from : {S : Type 0} → (S → Operation) → Term → List (S × Located) → Term
located_from of left [] = left
located_from of left (x ∷ xs) = located_from of (Joined (of x.0) left x.1.term) xs

abbrev pub all_from : Operation → Term → List Term → Term
all_from operation left [] = left
all_from operation left (x ∷ xs) = all_from operation (Joined operation left x) xs

-- one or more operands; a list of the parser is never empty
abbrev pub all_joined : Operation → List Term → Term
all_joined operation [] = Literal
all_joined operation (x ∷ xs) = all_from operation x xs

abbrev pub all_signed : List UnarySign → Term → Term
all_signed [] of = of
all_signed (sign ∷ signs) of = Signed sign (all_signed signs of)

abbrev pub chosen : Term → Option Pair → Term
chosen test None = test
chosen test (Some arms) = Choice test arms.yes arms.no

-- ---- what each form of the tree says

-- the number that the digits stand for
abbrev pub number_of : List ℕ → Piece → ℕ
number_of source piece = value_from 0 (bytes_of source piece)

-- a layer of a tree, in which each tree below is what it says
abbrev pub primary_says : List ℕ → Primary-F Term Term Pair Term Term Term Term Located Element Term Located → Term
primary_says source (Primary-F.Integer piece) = Integer (number_of source piece)
primary_says source (Primary-F.Literal piece) = Literal
primary_says source (Primary-F.Target e) = Named e.name e.at e.subscripts
primary_says source (Primary-F.Call piece arguments) = Call (bytes_of source piece) piece.from (terms arguments)
primary_says source (Primary-F.Bracket v) = Bracket v.term

abbrev pub and_says : And-F Term Term Pair Term Term Term Term Located Element Term Located → Term
and_says x = all_joined Conjunction x.items

abbrev pub arms_says : Arms-F Term Term Pair Term Term Term Term Located Element Term Located → Pair
arms_says x = record { yes = x.yes.term; no = x.no.term }

abbrev pub compare_says : Compare-F Term Term Pair Term Term Term Term Located Element Term Located → Term
compare_says x = located_from of_rel x.first.term x.rest

abbrev pub equal_says : Equal-F Term Term Pair Term Term Term Term Located Element Term Located → Term
equal_says x = joined_from of_equal x.first x.rest

abbrev pub or_says : Or-F Term Term Pair Term Term Term Term Located Element Term Located → Term
or_says x = all_joined Disjunction x.items

abbrev pub product_says : Product-F Term Term Pair Term Term Term Term Located Element Term Located → Term
product_says x = joined_from of_product x.first x.rest

abbrev pub sum_says : Sum-F Term Term Pair Term Term Term Term Located Element Term Located → Located
sum_says x = record { at = x.at; term = joined_from of_sum x.first x.rest }

abbrev pub target_says : List ℕ → Target-F Term Term Pair Term Term Term Term Located Element Term Located → Element
target_says source x = record { name = bytes_of source x.name; at = x.name.from; subscripts = terms x.subscripts }

abbrev pub unary_says : Unary-F Term Term Pair Term Term Term Term Located Element Term Located → Term
unary_says x = all_signed x.signs x.primary

abbrev pub value_says : Value-F Term Term Pair Term Term Term Term Located Element Term Located → Located
value_says x = record { at = x.at; term = chosen x.test x.arms }

-- what each form of the source says
abbrev pub sum_of : List ℕ → Sum → Located
sum_of source =
    fold-Sum Term Term Pair Term Term Term Term Located Element Term Located
    (primary_says source) and_says arms_says compare_says equal_says or_says product_says sum_says (target_says source) unary_says value_says

abbrev pub value_of : List ℕ → Value → Located
value_of source =
    fold-Value Term Term Pair Term Term Term Term Located Element Term Located
    (primary_says source) and_says arms_says compare_says equal_says or_says product_says sum_says (target_says source) unary_says value_says

abbrev pub target_of : List ℕ → Target → Element
target_of source =
    fold-Target Term Term Pair Term Term Term Term Located Element Term Located
    (primary_says source) and_says arms_says compare_says equal_says or_says product_says sum_says (target_says source) unary_says value_says

abbrev pub product_of : List ℕ → Product → Term
product_of source =
    fold-Product Term Term Pair Term Term Term Term Located Element Term Located
    (primary_says source) and_says arms_says compare_says equal_says or_says product_says sum_says (target_says source) unary_says value_says

abbrev pub unary_of : List ℕ → Unary → Term
unary_of source =
    fold-Unary Term Term Pair Term Term Term Term Located Element Term Located
    (primary_says source) and_says arms_says compare_says equal_says or_says product_says sum_says (target_says source) unary_says value_says

abbrev pub primary_of : List ℕ → Primary → Term
primary_of source =
    fold-Primary Term Term Pair Term Term Term Term Located Element Term Located
    (primary_says source) and_says arms_says compare_says equal_says or_says product_says sum_says (target_says source) unary_says value_says

abbrev pub compare_of : List ℕ → Compare → Term
compare_of source =
    fold-Compare Term Term Pair Term Term Term Term Located Element Term Located
    (primary_says source) and_says arms_says compare_says equal_says or_says product_says sum_says (target_says source) unary_says value_says

abbrev pub equal_of : List ℕ → Equal → Term
equal_of source =
    fold-Equal Term Term Pair Term Term Term Term Located Element Term Located
    (primary_says source) and_says arms_says compare_says equal_says or_says product_says sum_says (target_says source) unary_says value_says

abbrev pub and_of : List ℕ → And → Term
and_of source =
    fold-And Term Term Pair Term Term Term Term Located Element Term Located
    (primary_says source) and_says arms_says compare_says equal_says or_says product_says sum_says (target_says source) unary_says value_says

abbrev pub or_of : List ℕ → Or → Term
or_of source =
    fold-Or Term Term Pair Term Term Term Term Located Element Term Located
    (primary_says source) and_says arms_says compare_says equal_says or_says product_says sum_says (target_says source) unary_says value_says

abbrev pub arms_of : List ℕ → Arms → Pair
arms_of source =
    fold-Arms Term Term Pair Term Term Term Term Located Element Term Located
    (primary_says source) and_says arms_says compare_says equal_says or_says product_says sum_says (target_says source) unary_says value_says
