-- What holds of the leaves between two commands of a script that is not refused: closed, they are statements of a SCoP.
use Rattle.std.specs.Prelude.{ℕ, ◌≡◌, ◌≤◌, ◌<◌, ◌^◌, unsigned_abs, true, None, List, length, All}
use Rattle.suite_base.specs.Limits.{max_statements}
use Rattle.scop_data.specs.declared.statements.Statement.{Statement}
use Rattle.scop_data.specs.declared.raw_pieces.RawStatement.{RawStatement}
use Rattle.scop_core.specs.ReadBack.{statement_pieces}
use Rattle.scop_core.specs.Printable.{is_body}
use Rattle.scop_core.specs.Shapes.{IsShapedStatement}
use Rattle.scop_core.specs.KeptLimits.{StatementKeepsLimits}
use Rattle.clay_script.specs.declared.commands.Command.{Command}
use Rattle.clay_script.specs.declared.commands.Command.TheVariants.{Stripmine, Tile}
use Rattle.clay_commands.specs.declared.leaves.Leaf.{Leaf}
use Rattle.clay_commands.specs.Arguments.{prefix_in}
use Rattle.clay_commands.specs.Drafts.{Draft, betas_of, draft_after}
use Rattle.clay_commands.specs.Refusals.{refusal_at}
use Rattle.clay_commands.specs.Steps.{refusal_under}
use Rattle.clay_commands.specs.Afters.{closed_leaf}

-- the statement of a leaf, with the leaf's vector, has its shapes over so many parameters, keeps the limits and has a body
pub record IsSoundLeaf (parameters : ℕ) (leaf : Leaf) : Type 0 where
  pub shape : IsShapedStatement parameters (closed_leaf leaf)
  pub limits : StatementKeepsLimits (closed_leaf leaf)
  pub body : is_body leaf.statement.body ≡ true

-- each leaf is such, and there are no more than statements of a SCoP
pub record IsSound (parameters : ℕ) (D : Draft) : Type 0 where
  pub leaves : All (IsSoundLeaf parameters) D
  pub few : length D ≤ max_statements

-- command number i, whose prefix has statements, is not refused, and makes of the leaves D the leaves E, which have the vectors V
pub record IsStep (parameters i : ℕ) (command : Command) (D E : Draft) (V : List (List ℕ)) : Type 0 where
  pub unrefused : refusal_under parameters i command (prefix_in command) D ≡ None
  pub draft : E ≡ draft_after command D
  pub vectors : V ≡ betas_of E

-- the same of any command number i
pub record IsCommandStep (parameters i : ℕ) (command : Command) (D E : Draft) (V : List (List ℕ)) : Type 0 where
  pub unrefused : refusal_at parameters i command D ≡ None
  pub draft : E ≡ draft_after command D
  pub vectors : V ≡ betas_of E

-- the size of a cut is a coefficient
abbrev pub SizesFit : Command → Type 0
SizesFit (Stripmine p k size) = unsigned_abs size < 2 ^ 127
SizesFit (Tile p k size t) = unsigned_abs size < 2 ^ 127
SizesFit other = Unit {0}

-- a leaf of statement number k
abbrev pub numbered_leaf : List ℕ → Statement → ℕ → Leaf
numbered_leaf v statement k = record { beta = v; statement = statement; original = k }

-- the pieces of the statement of a leaf
abbrev pub raw_of : ℕ → Leaf → RawStatement
raw_of parameters leaf = statement_pieces parameters (closed_leaf leaf)

-- the number of the statement that a leaf comes from
abbrev pub original_of : Leaf → ℕ
original_of leaf = leaf.original
