-- A function value that parses an operand with its signs, to a depth.
use Rattle.std.specs.Prelude.{ℕ, ◌<◌, List, Result}
use Rattle.std.specs.declared.alloc.Global.{Global}
use denote.Ref.{MutBor}
use Rattle.c_lexer.specs.declared.stops.Stop.{Stop}
use Rattle.c_lexer.specs.Readings.{Reading}
use Rattle.c_lexer.specs.Input.{Reads}
use Rattle.c_parser.specs.declared.tree.Unary.{Unary}
use Rattle.c_parser.specs.declared.tree.UnarySign.{UnarySign}
use Rattle.c_parser.specs.Values.{unary, below}

pub record Nests (limit : ℕ) (pre : Global → MutBor Reading → ℕ → List UnarySign → Type 0)
    (post : Global → MutBor Reading → ℕ → List UnarySign → Result Unary Stop → MutBor Reading → Type 0) : Type 0 where
  pub callable : (alloc : Global) (old : MutBor Reading) (nests : ℕ) (signs : List UnarySign) → nests < limit → pre alloc old nests signs
  pub reads : (alloc : Global) (old new : MutBor Reading) (nests : ℕ) (signs : List UnarySign) (r : Result Unary Stop) → post alloc old nests signs r new
      → Reads (unary nests (below nests) signs old.now) r new.now
