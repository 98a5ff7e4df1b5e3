-- The grammar of statements and regions, apart from how a text is read: which tokens are derived to which tree, one
-- definition for each production. The numbers are those of the nests and of the loops that may be open at once.
use Rattle.std.specs.Prelude.{◌≡◌, ◌≢◌, ◌⊎◌, ℕ, zero, suc, ◌<◌, Bool, true, false, List, Option, Some, None}
use Rattle.c_lexer.specs.declared.symbols.Symbol.{Symbol}
use Rattle.c_lexer.specs.declared.symbols.Symbol.TheVariants as s
use Rattle.c_lexer.specs.declared.pieces.Piece.{Piece}
use Rattle.c_lexer.specs.Readings.{Reading}
use Rattle.c_lexer.specs.Pieces.{bytes_of}
use Rattle.c_lexer.specs.Input.{symbol, piece, after}
use Rattle.c_parser.specs.declared.tree.Step.{Step}
use Rattle.c_parser.specs.declared.tree.Step.TheVariants as st
use Rattle.c_parser.specs.declared.tree.AssignSign.{AssignSign}
use Rattle.c_parser.specs.declared.tree.AssignSign.TheVariants as sign
use Rattle.c_parser.specs.declared.tree.Assign.{Assign}
use Rattle.c_parser.specs.declared.tree.Node.{Node}
use Rattle.c_parser.specs.declared.tree.Node.TheVariants as node
use Rattle.c_parser.specs.declared.heads.Head.{Head}
use Rattle.c_parser.specs.declared.tree.Value.{Value}
use Rattle.c_parser.specs.Statements.{is_upward, loop_of, branch_of}
use Rattle.c_parser.specs.Grammar.{Phrase, ◌then◌, empty, none, token, word, begins, each, nest, rel_token, IsTarget, IsValue, nested}

abbrev pub assign_token : AssignSign → Symbol
assign_token sign.Plain = s.Assign
assign_token sign.Plus = s.PlusAssign
assign_token sign.Minus = s.MinusAssign
assign_token sign.Times = s.TimesAssign
assign_token sign.Divide = s.DivideAssign
assign_token sign.Remainder = s.RemainderAssign

-- a name with the bytes of the one that stands at this piece
abbrev pub same : Piece → Phrase
same name r r' = (symbol r ≡ s.Name) × (bytes_of r.text (piece r) ≡ bytes_of r.text name) × (after r ≡ r')

-- ["int"]
abbrev pub declared : Phrase
declared r r' = token s.Int r r' ⊎ empty r r'

-- name "++" | "++" name | name "+=" Integer | name "--" | "--" name | name "-=" Integer
abbrev pub step : Piece → Step → Phrase
step name st.PostUp = same name then token s.Increment
step name st.PreUp = token s.Increment then same name
step name (st.AddUp number) = same name then token s.PlusAssign then word s.Integer number
step name st.PostDown = same name then token s.Decrement
step name st.PreDown = token s.Decrement then same name
step name (st.SubDown number) = same name then token s.MinusAssign then word s.Integer number

abbrev pub is_up : Step → Bool
is_up st.PostUp = true
is_up st.PreUp = true
is_up (st.AddUp number) = true
is_up st.PostDown = false
is_up st.PreDown = false
is_up (st.SubDown number) = false

module _ (nests : ℕ) where
  -- name rel sum ";" step ")"
  abbrev pub second_half : Head → Phrase
  second_half h =
      same h.name then token (rel_token h.rel) then (nested nests).sum h.bound then token s.Semicolon
      then begins h.step_at then step h.name h.step then token s.CloseRound

  -- "(" ["int"] name "=" sum ";" name rel sum ";" step ")", where step and rel go the same way
  abbrev pub head : Head → Phrase
  head h r r' =
      (is_up h.step ≡ is_upward h.rel)
      × nest nests (token s.OpenRound then declared then word s.Name h.name then token s.Assign then (nested nests).sum h.start then token s.Semicolon then second_half h) r r'

  -- target ("=" | "+=" | "-=" | "*=" | "/=" | "%=") value ";", with its body from the target up to the ";"
  abbrev pub assignment : Assign → Phrase
  assignment a =
      begins a.body.from then IsTarget nests (nested nests) a.target then token (assign_token a.sign) then IsValue nests (nested nests) a.value
      then begins a.body.to then token s.Semicolon

module _ (nests loops : ℕ) (inner body : Node → Phrase) where
  -- ["else" statement]: without it the next token is no `else`, so that an `else` belongs to the nearest `if`
  abbrev pub alternative : Option Node → Phrase
  alternative None = λ r r'. (symbol r ≢ s.Else) × empty r r'
  alternative (Some other) = token s.Else then nest nests (inner other)

  -- a statement, where `inner` is one in a nest more, and `body` one in a loop more
  pub data IsStatement (t : Node) (r r' : Reading) : Type 0 where
    -- "for" head statement
    loop : (h : Head) → (repeated : Node) → node.For (loop_of h repeated) ≡ t → 0 < loops
        → (token s.For then head nests h then body repeated) r r' → IsStatement t r r'
    -- "if" "(" value ")" statement ["else" statement]
    choice : (condition : Value) → (one : Node) → (other : Option Node) → branch_of condition one other ≡ t
        → (token s.If then nest nests (token s.OpenRound then (nested nests).value condition then token s.CloseRound) then nest nests (inner one) then alternative other) r r'
        → IsStatement t r r'
    -- "{" { statement } "}"
    block : (nodes : List Node) → node.Block nodes ≡ t → nest nests (token s.OpenCurly then each inner nodes then token s.CloseCurly) r r' → IsStatement t r r'
    assign : (a : Assign) → node.Assign a ≡ t → assignment nests a r r' → IsStatement t r r'
    blank : node.Empty ≡ t → token s.Semicolon r r' → IsStatement t r r'

-- with so many loops, where a statement in one nest more is known for each number of loops
abbrev pub level : ℕ → (ℕ → Node → Phrase) → ℕ → Node → Phrase
level nests inner zero = IsStatement nests zero (inner zero) (λ t. none)
level nests inner (suc loops) = IsStatement nests (suc loops) (inner (suc loops)) (level nests inner loops)

-- a statement in which so many nests and loops may be open at once
abbrev pub statement : ℕ → ℕ → Node → Phrase
statement zero = level zero (λ loops t. none)
statement (suc nests) = level (suc nests) (statement nests)

-- all tokens from a place of a text to its end are derived to these statements
abbrev pub Derived : ℕ → ℕ → List Node → Reading → Type 0
Derived nests loops nodes r = (end : Reading) × each (statement nests loops) nodes r end × (symbol end ≡ s.End)
