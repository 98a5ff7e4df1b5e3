-- The region that statements stand for, or the place of the first subscript, start, bound, condition or step that breaks the rules.
use Rattle.std.specs.Prelude.{ℕ, List, [], ◌∷◌, ◌++◌, ℤ, pos, negsuc, unsigned_abs, int_le, Bool, true, false, cond, ◌&&◌, ◌||◌, nat_eq, bytes_eq, Option, Some, None, Result, Ok, Err, codes}
use Rattle.c_parser.specs.declared.tree.UnarySign.{UnarySign}
use Rattle.c_parser.specs.declared.tree.UnarySign.TheVariants as un
use Rattle.clan_extract.specs.Regions.{Expression, Number, Name, Sum, Difference, Product, Negation, Maximum, Minimum, Ceiling, Floor, Remainder, Comparison, IsLess, IsLessOrEqual, IsGreater, IsGreaterOrEqual, IsEqual, IsUnequal, Condition, Compare, Both, Either, Opposite, Reference, Node, For, If, Assign, Nodes, NoNodes, Then}
use Rattle.clan_extract.specs.Regions as region
use Rattle.clan_extract.specs.Forms.{is_affine}
use Rattle.clan_extract.specs.Scops.{is_lower_bound, is_upper_bound, is_condition}
use Rattle.region_trees.specs.Terms.{Operation, Plus, Minus, Times, Modulo, Conjunction, Disjunction, Compares, Term, Integer, Literal, Named, Call, Bracket, Signed, Joined, Choice, Terms, NoTerms, More, Located}
use Rattle.region_trees.specs.Statements.{Statement, Loop, Branch, Block, Assignment, Statements, NoStatements, Next}

-- ---- options and results

abbrev pub option_map : {A B : Type 0} → (A → B) → Option A → Option B
option_map f None = None
option_map f (Some a) = Some (f a)

abbrev pub option_map2 : {A B C : Type 0} → (A → B → C) → Option A → Option B → Option C
option_map2 f (Some a) (Some b) = Some (f a b)
option_map2 f a b = None

abbrev pub first_some : {A : Type 0} → Option A → Option A → Option A
first_some None b = b
first_some (Some a) b = Some a

-- what passes the test, or this place
abbrev pub passed : {A : Type 0} → (A → Bool) → ℕ → Option A → Result A ℕ
passed test at None = Err at
passed test at (Some a) = cond (test a) (Ok a) (Err at)

abbrev pub result_map : {A B : Type 0} → (A → B) → Result A ℕ → Result B ℕ
result_map f (Ok a) = Ok (f a)
result_map f (Err at) = Err at

-- both, or the first place that the one or the other has
abbrev pub result_map2 : {A B C : Type 0} → (A → B → C) → Result A ℕ → Result B ℕ → Result C ℕ
result_map2 f (Ok a) (Ok b) = Ok (f a b)
result_map2 f (Ok a) (Err at) = Err at
result_map2 f (Err at) b = Err at

-- ---- expressions

abbrev pub signed : UnarySign → Option Expression → Option Expression
signed un.Plus e = e
signed un.Minus e = option_map Negation e
signed un.Not e = None

abbrev pub combined : Operation → Option Expression → Option Expression → Option Expression
combined Plus left right = option_map2 Sum left right
combined Minus left right = option_map2 Difference left right
combined Times left right = option_map2 Product left right
combined operation left right = None

abbrev pub plain : List ℕ → Terms → Option Expression
plain name NoTerms = Some (Name name)
plain name (More at first rest) = None

-- the expression of integers, plain names, sums, differences, products and signs
abbrev pub expression_of : Term → Option Expression
expression_of (Integer value) = Some (Number value)
expression_of Literal = None
expression_of (Named name at subscripts) = plain name subscripts
expression_of (Call name at arguments) = None
expression_of (Bracket of) = expression_of of
expression_of (Signed sign of) = signed sign (expression_of of)
expression_of (Joined operation left right) = combined operation (expression_of left) (expression_of right)
expression_of (Choice test one other) = None

-- ---- bounds: max and min of bounds, ceild and floord of an expression and a bare integer, without brackets round them

abbrev pub of_two : (Expression → Expression → Expression) → List (Option Expression) → Option Expression
of_two make (a ∷ b ∷ []) = option_map2 make a b
of_two make es = None

abbrev pub divisor_of : Term → Option ℕ
divisor_of (Integer value) = Some value
divisor_of of = None

abbrev pub divisor_in : Terms → Option ℕ
divisor_in (More at first NoTerms) = divisor_of first
divisor_in es = None

abbrev pub quotient : (Expression → ℕ → Expression) → Terms → Option Expression
quotient make NoTerms = None
quotient make (More at first rest) = option_map2 make (expression_of first) (divisor_in rest)

abbrev pub operator : List ℕ → List (Option Expression) → Terms → Option Expression
operator name bounds arguments =
    cond (bytes_eq name (codes "max")) (of_two Maximum bounds)
    (cond (bytes_eq name (codes "min")) (of_two Minimum bounds)
    (cond (bytes_eq name (codes "ceild")) (quotient Ceiling arguments)
    (cond (bytes_eq name (codes "floord")) (quotient Floor arguments) None)))

abbrev mutual
  pub bound_of : Term → Option Expression
  bound_of (Call name at arguments) = operator name (bounds_of arguments) arguments
  bound_of (Integer value) = expression_of (Integer value)
  bound_of Literal = None
  bound_of (Named name at subscripts) = expression_of (Named name at subscripts)
  bound_of (Bracket of) = expression_of (Bracket of)
  bound_of (Signed sign of) = expression_of (Signed sign of)
  bound_of (Joined operation left right) = expression_of (Joined operation left right)
  bound_of (Choice test one other) = None

  pub bounds_of : Terms → List (Option Expression)
  bounds_of NoTerms = []
  bounds_of (More at first rest) = bound_of first ∷ bounds_of rest

-- ---- conditions

-- an integer, in brackets or not
abbrev pub integer_of : Term → Option ℕ
integer_of (Integer value) = Some value
integer_of (Bracket of) = integer_of of
integer_of of = None

abbrev pub remainder_by : Operation → Option Expression → Option ℕ → Option Expression
remainder_by Modulo e c = option_map2 Remainder e c
remainder_by operation e c = None

-- e % c, in brackets or not
abbrev pub remainder_of : Term → Option Expression
remainder_of (Bracket of) = remainder_of of
remainder_of (Joined operation left right) = remainder_by operation (expression_of left) (integer_of right)
remainder_of of = None

-- the comparison of a remainder with an integer, or of two expressions
abbrev pub compared : Comparison → Term → Term → Option Condition
compared comparison left right =
    first_some (option_map2 (Compare comparison) (remainder_of left) (option_map Number (integer_of right)))
    (option_map2 (Compare comparison) (expression_of left) (expression_of right))

abbrev pub condition_by : Operation → Term → Term → Option Condition → Option Condition → Option Condition
condition_by Conjunction left right c d = option_map2 Both c d
condition_by Disjunction left right c d = option_map2 Either c d
condition_by (Compares comparison) left right c d = compared comparison left right
condition_by operation left right c d = None

abbrev pub negated : UnarySign → Option Condition → Option Condition
negated un.Not c = option_map Opposite c
negated sign c = None

abbrev pub condition_of : Term → Option Condition
condition_of (Bracket of) = condition_of of
condition_of (Signed sign of) = negated sign (condition_of of)
condition_of (Joined operation left right) = condition_by operation left right (condition_of left) (condition_of right)
condition_of of = None

-- ---- references

-- the subscripts, each affine
abbrev pub subscripts_of : Terms → Result (List Expression) ℕ
subscripts_of NoTerms = Ok []
subscripts_of (More at first rest) = result_map2 (λ e es. e ∷ es) (passed is_affine at (expression_of first)) (subscripts_of rest)

abbrev pub reference_of : List ℕ → Terms → Result Reference ℕ
reference_of name subscripts = result_map (λ es. record { name = name; subscripts = es }) (subscripts_of subscripts)

-- the names of values with their subscripts, in the order of the text
abbrev mutual
  pub references_of : Term → Result (List Reference) ℕ
  references_of (Integer value) = Ok []
  references_of Literal = Ok []
  references_of (Named name at subscripts) = result_map (λ r. r ∷ []) (reference_of name subscripts)
  references_of (Call name at arguments) = references_of_all arguments
  references_of (Bracket of) = references_of of
  references_of (Signed sign of) = references_of of
  references_of (Joined operation left right) = result_map2 (λ rs ss. rs ++ ss) (references_of left) (references_of right)
  references_of (Choice test one other) =
      result_map2 (λ rs ss. rs ++ ss) (references_of test) (result_map2 (λ rs ss. rs ++ ss) (references_of one) (references_of other))

  pub references_of_all : Terms → Result (List Reference) ℕ
  references_of_all NoTerms = Ok []
  references_of_all (More at first rest) = result_map2 (λ rs ss. rs ++ ss) (references_of first) (references_of_all rest)

-- ---- statements

abbrev pub is_downward : Comparison → Bool
is_downward IsGreater = true
is_downward IsGreaterOrEqual = true
is_downward comparison = false

-- the size of the step is 0 or 1
abbrev pub is_short : ℤ → Bool
is_short step = nat_eq (unsigned_abs step) 0 || nat_eq (unsigned_abs step) 1

-- an upward loop begins with a lower bound, a downward one with an upper bound, and one with a step of at least 2 with an affine value
abbrev pub is_start : Comparison → ℤ → Expression → Bool
is_start comparison step e = cond (is_downward comparison) (is_upper_bound e) (is_lower_bound e) && (is_short step || is_affine e)

abbrev pub is_bound : Comparison → Expression → Bool
is_bound comparison e = cond (is_downward comparison) (is_lower_bound e) (is_upper_bound e)

-- the step goes toward the bound; a step of 0 does not
abbrev pub is_step : Comparison → ℤ → Bool
is_step IsLess step = int_le (pos 1) step
is_step IsLessOrEqual step = int_le (pos 1) step
is_step IsGreater step = int_le step (negsuc 0)
is_step IsGreaterOrEqual step = int_le step (negsuc 0)
is_step IsEqual step = false
is_step IsUnequal step = false

abbrev pub start_of : Comparison → ℤ → Located → Result Expression ℕ
start_of comparison step x = passed (is_start comparison step) x.at (bound_of x.term)

abbrev pub limit_of : Comparison → Located → Result Expression ℕ
limit_of comparison x = passed (is_bound comparison) x.at (bound_of x.term)

-- a loop of a start, a bound, a step and a body
abbrev pub for_of : List ℕ → Comparison → Result Expression ℕ → Result Expression ℕ → Result ℤ ℕ → Result Nodes ℕ → Result Node ℕ
for_of name comparison start bound step body =
    result_map2 (λ (ends : Expression × Expression). λ (rest : ℤ × Nodes). For name ends.0 comparison ends.1 rest.0 rest.1)
    (result_map2 (λ s b. (s, b)) start bound) (result_map2 (λ z nodes. (z, nodes)) step body)

abbrev mutual
  pub node_of : Statement → Result Node ℕ
  node_of (Loop name at start comparison bound step step_at body) =
      for_of name comparison (start_of comparison step start) (limit_of comparison bound) (passed (is_step comparison) step_at (Some step)) (nodes_of body)
  node_of (Branch condition then_statements else_statements) =
      result_map2 (λ c. λ (branches : Nodes × Nodes). If c branches.0 branches.1) (passed is_condition condition.at (condition_of condition.term))
      (result_map2 (λ t e. (t, e)) (nodes_of then_statements) (nodes_of else_statements))
  node_of (Block statements) = result_map region.Block (nodes_of statements)
  node_of (Assignment text target updates right) =
      result_map2 (λ t rs. Assign (record { text = text; target = t; updates = updates; right = rs }))
      (reference_of target.name target.subscripts) (references_of right.term)

  pub nodes_of : Statements → Result Nodes ℕ
  nodes_of NoStatements = Ok NoNodes
  nodes_of (Next first rest) = result_map2 Then (node_of first) (nodes_of rest)
