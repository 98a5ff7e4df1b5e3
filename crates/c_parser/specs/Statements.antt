-- Statements: one rule for each production of the grammar. The numbers are those of the nests and of the loops
-- that may still be opened.
use Rattle.std.specs.Prelude.{ℕ, zero, suc, Bool, true, false, if◌then◌else◌, List, [], ◌∷◌, ◌++◌, Option, Some, None}
use Rattle.suite_base.specs.Limits.{max_nests, max_loops}
use Rattle.c_lexer.specs.declared.symbols.Symbol.{Symbol}
use Rattle.c_lexer.specs.declared.symbols.Symbol.TheVariants as s
use Rattle.c_lexer.specs.declared.pieces.Piece.{Piece}
use Rattle.c_lexer.specs.Symbols.{same_symbol}
use Rattle.c_lexer.specs.Input.{Parser, ◌>>=◌, ◌>>◌, ◌<$>◌, pure, refuse, peek, position, take_token, eat, expect, open_nest, left, same_name, open_loop}
use Rattle.c_parser.specs.declared.tree.Rel.{Rel}
use Rattle.c_parser.specs.declared.tree.Rel.TheVariants as rl
use Rattle.c_parser.specs.declared.tree.Step.{Step}
use Rattle.c_parser.specs.declared.tree.Step.TheVariants as st
use Rattle.c_parser.specs.declared.tree.AssignSign.{AssignSign}
use Rattle.c_parser.specs.declared.tree.AssignSign.TheVariants as sign
use Rattle.c_parser.specs.declared.tree.Assign.{Assign}
use Rattle.c_parser.specs.declared.tree.Node.{Node}
use Rattle.c_parser.specs.declared.tree.Node.TheVariants as node
use Rattle.c_parser.specs.declared.tree.Loop.{Loop, roll-Loop}
use Rattle.c_parser.specs.declared.tree.Branch.{roll-Branch}
use Rattle.c_parser.specs.declared.heads.Head.{Head}
use Rattle.c_parser.specs.declared.tree.Sum.{Sum}
use Rattle.c_parser.specs.declared.tree.Value.{Value}
use Rattle.c_parser.specs.Values.{below, value, target, rel_sign}

-- ---- what stands between the rules of values

abbrev pub assign_sign : Symbol → Option AssignSign
assign_sign s.Assign = Some sign.Plain
assign_sign s.PlusAssign = Some sign.Plus
assign_sign s.MinusAssign = Some sign.Minus
assign_sign s.TimesAssign = Some sign.Times
assign_sign s.DivideAssign = Some sign.Divide
assign_sign s.RemainderAssign = Some sign.Remainder
assign_sign _ = None

-- a comparison goes upwards or downwards
abbrev pub is_upward : Rel → Bool
is_upward rl.Less = true
is_upward rl.LessEqual = true
is_upward rl.Greater = false
is_upward rl.GreaterEqual = false

abbrev pub some_of : {A : Type 0} → Option A → Parser A
some_of None = refuse
some_of (Some a) = take_token >> pure a

unfoldable pub rel : Parser Rel
rel = peek >>= (λ k. some_of (rel_sign k))

unfoldable pub assigned : Parser AssignSign
assigned = peek >>= (λ k. some_of (assign_sign k))

-- ---- the head of a loop

abbrev pub step_sign : Bool → Symbol
step_sign up = if up then s.Increment else s.Decrement

abbrev pub add_sign : Bool → Symbol
add_sign up = if up then s.PlusAssign else s.MinusAssign

-- behind a sign of one, behind a name alone, and with a number
abbrev pub pre_step : Bool → Step
pre_step up = if up then st.PreUp else st.PreDown

abbrev pub post_step : Bool → Step
post_step up = if up then st.PostUp else st.PostDown

abbrev pub number_step : Bool → Piece → Step
number_step up number = if up then st.AddUp number else st.SubDown number

unfoldable pub step_behind : Bool → Piece → Parser Step
step_behind up name = do
  same_name name
  is_one ← eat (step_sign up)
  if is_one then pure (post_step up) else (do expect (add_sign up); number ← expect s.Integer; pure (number_step up number))

unfoldable pub step : Bool → Piece → Parser Step
step up name = do
  is_first ← eat (step_sign up)
  if is_first then (do same_name name; pure (pre_step up)) else step_behind up name

-- a round bracket, which opens a nest
unfoldable pub open_round : ℕ → Parser (Unit {0})
open_round nests = do
  kind ← peek
  if same_symbol kind s.OpenRound then (do open_nest nests; take_token; pure tt) else refuse

-- the second half of a head, from the name before the comparison on
unfoldable pub head_rest : ℕ → Piece → Sum → Parser Head
head_rest nests name start = do
  same_name name
  order ← rel
  bound ← (below nests).sum
  expect s.Semicolon
  at ← position
  found ← step (is_upward order) name
  expect s.CloseRound
  pure (record { name = name; start = start; rel = order; bound = bound; step = found; step_at = at })

unfoldable pub head : ℕ → Parser Head
head nests = do
  open_round nests
  is_declared ← eat s.Int
  name ← expect s.Name
  expect s.Assign
  start ← (below nests).sum
  expect s.Semicolon
  head_rest nests name start

unfoldable pub assign : ℕ → Parser Assign
assign nests = do
  from ← position
  found ← target nests (below nests)
  mark ← assigned
  right ← value nests (below nests)
  to ← position
  expect s.Semicolon
  pure (record { body = record { from = from; to = to }; target = found; sign = mark; value = right })

-- ---- the rules, over those of a statement in one nest more, and of a statement in one loop more

abbrev pub begins_statement : Symbol → Bool
begins_statement s.For = true
begins_statement s.If = true
begins_statement s.OpenCurly = true
begins_statement s.Semicolon = true
begins_statement s.Name = true
begins_statement _ = false

abbrev pub loop_of : Head → Node → Loop
loop_of h body = roll-Loop (record { name = h.name; start = h.start; rel = h.rel; bound = h.bound; step = h.step; step_at = h.step_at; body = body })

abbrev pub branch_of : Value → Node → Option Node → Node
branch_of condition one other = node.If (roll-Branch (record { condition = condition; then = one; other = other }))

-- the statements up to a closing bracket, behind those that were found
unfoldable pub block_from : Parser Node → ℕ → List Node → Parser (List Node)
block_from inner zero found = refuse
block_from inner (suc n) found = do
  is_closed ← eat s.CloseCurly
  if is_closed then pure found else (do next ← inner; block_from inner n (found ++ next ∷ []))

unfoldable pub for_loop : ℕ → ℕ → Parser Node → Parser Node
for_loop nests loops body = do
  open_loop loops
  take_token
  found ← head nests
  repeated ← body
  pure (node.For (loop_of found repeated))

-- a branch opens a nest with its first token
unfoldable pub branch : ℕ → Parser Node → Parser Node
branch nests inner = do
  kind ← peek
  if begins_statement kind then (do open_nest nests; inner) else refuse

-- an `else` belongs to the nearest `if`
unfoldable pub else_branch : ℕ → Parser Node → Parser (Option Node)
else_branch nests inner = do
  is_else ← eat s.Else
  if is_else then (do found ← branch nests inner; pure (Some found)) else pure None

unfoldable pub if_branch : ℕ → Parser Node → Parser Node
if_branch nests inner = do
  take_token
  open_round nests
  condition ← (below nests).value
  expect s.CloseRound
  one ← branch nests inner
  other ← else_branch nests inner
  pure (branch_of condition one other)

unfoldable pub block_nodes : Parser Node → Parser (List Node)
block_nodes inner = λ r. block_from inner (left r) [] r

unfoldable pub block : ℕ → Parser Node → Parser Node
block nests inner = do
  open_nest nests
  take_token
  nodes ← block_nodes inner
  pure (node.Block nodes)

abbrev pub statement_by : ℕ → ℕ → Parser Node → Parser Node → Symbol → Parser Node
statement_by nests loops inner body s.For = for_loop nests loops body
statement_by nests loops inner body s.If = if_branch nests inner
statement_by nests loops inner body s.OpenCurly = block nests inner
statement_by nests loops inner body s.Semicolon = take_token >> pure node.Empty
statement_by nests loops inner body s.Name = node.Assign <$> assign nests
statement_by nests loops inner body _ = refuse

unfoldable pub statement_rule : ℕ → ℕ → Parser Node → Parser Node → Parser Node
statement_rule nests loops inner body = peek >>= statement_by nests loops inner body

-- with so many loops, where a statement in one nest more is known for each number of loops
unfoldable pub level : ℕ → (ℕ → Parser Node) → ℕ → Parser Node
level nests inner zero = statement_rule nests zero (inner zero) refuse
level nests inner (suc loops) = statement_rule nests (suc loops) (inner (suc loops)) (level nests inner loops)

-- a statement in which so many nests and loops may still be opened
unfoldable pub statement : ℕ → ℕ → Parser Node
statement zero = level zero (λ loops. refuse)
statement (suc nests) = level (suc nests) (statement nests)

-- the same in one nest more
unfoldable pub inner : ℕ → ℕ → Parser Node
inner zero loops = refuse
inner (suc nests) loops = statement nests loops

-- the same in one loop more
unfoldable pub body : ℕ → ℕ → Parser Node
body nests zero = refuse
body nests (suc loops) = statement nests loops

-- the statements up to the end, behind those that were found
unfoldable pub region_from : ℕ → List Node → Parser (List Node)
region_from zero found = do
  expect s.End
  pure found
region_from (suc n) found = do
  kind ← peek
  if same_symbol kind s.End then pure found else (do next ← statement max_nests max_loops; region_from n (found ++ next ∷ []))

-- all statements of a region
unfoldable pub region : Parser (List Node)
region = λ r. region_from (left r) [] r
