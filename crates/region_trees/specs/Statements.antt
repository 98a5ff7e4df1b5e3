-- Statements of terms: what the parser's trees of statements say.
use Rattle.std.specs.Prelude.{ℕ, zero, suc, ◌-◌, List, [], ◌∷◌, ◌++◌, ℤ, pos, negsuc, neg_ℤ, Bool, true, false, if◌then◌else◌, ◌==◌, Option, Some, None, codes}
use Rattle.c_lexer.specs.declared.pieces.Piece.{Piece}
use Rattle.c_lexer.specs.Tokens.{gap}
use Rattle.c_lexer.specs.Pieces.{bytes_of}
use Rattle.c_parser.specs.declared.tree.Step.{Step}
use Rattle.c_parser.specs.declared.tree.Step.TheVariants as st
use Rattle.c_parser.specs.declared.tree.AssignSign.{AssignSign}
use Rattle.c_parser.specs.declared.tree.AssignSign.TheVariants as sign
use Rattle.c_parser.specs.declared.tree.Assign.{Assign}
use Rattle.c_parser.specs.declared.tree.Node.{Node}
use Rattle.c_parser.specs.declared.tree.Branch.{Branch as BranchTree}
use Rattle.c_parser.specs.declared.tree.Loop.{Loop as LoopTree}
use Rattle.c_parser.specs.declared.tree.Node.TheOpen.{Node-F, Branch-F, Loop-F}
use Rattle.c_parser.specs.declared.tree.Node.TheFolds.{fold-Node, fold-Branch, fold-Loop}
use Rattle.clan_extract.specs.Regions.{Comparison}
use Rattle.region_trees.specs.Terms.{Located, Element, order_of, number_of, sum_of, value_of, target_of}

-- a statement, and a list of statements; an empty one is a block without any. A loop has its name's place and its step's; a downward
-- loop has a negative step
mutual
  pub data Statement : Type 0 where
    Loop : (name : List ℕ) → (at : ℕ) → (start : Located) → (comparison : Comparison) → (bound : Located) → (step : ℤ) → (step_at : ℕ)
        → (body : Statements) → Statement
    Branch : (condition : Located) → (then_statements : Statements) → (else_statements : Statements) → Statement
    Block : (statements : Statements) → Statement
    Assignment : (text : List ℕ) → (target : Element) → (updates : Bool) → (right : Located) → Statement

  pub data Statements : Type 0 where
    NoStatements : Statements
    Next : (first : Statement) → (rest : Statements) → Statements

abbrev pub statements : List Statement → Statements
statements [] = NoStatements
statements (x ∷ xs) = Next x (statements xs)

abbrev pub if_any : Option Statement → Statements
if_any None = NoStatements
if_any (Some x) = Next x NoStatements

-- the step, negative for a downward loop
abbrev pub step_of : List ℕ → Step → ℤ
step_of source st.PostUp = pos 1
step_of source st.PreUp = pos 1
step_of source (st.AddUp piece) = pos (number_of source piece)
step_of source st.PostDown = negsuc 0
step_of source st.PreDown = negsuc 0
step_of source (st.SubDown piece) = neg_ℤ (pos (number_of source piece))

-- the sign is another than `=`
abbrev pub is_update : AssignSign → Bool
is_update sign.Plain = false
is_update sign.Plus = true
is_update sign.Minus = true
is_update sign.Times = true
is_update sign.Divide = true
is_update sign.Remainder = true

-- each run of blanks, newlines and comments made one space, where the first number of bytes belong to a run
abbrev pub spaced_from : ℕ → List ℕ → List ℕ
spaced_from left [] = []
spaced_from (suc left) (b ∷ text) = spaced_from left text
spaced_from zero (b ∷ text) = (if gap (b ∷ text) == 0 then b else 32) ∷ spaced_from (gap (b ∷ text) - 1) text

-- the text of an assignment, from its target's first byte to `;`
abbrev pub text_of : List ℕ → Piece → List ℕ
text_of source body = spaced_from 0 (bytes_of source body) ++ codes ";"

abbrev pub assignment_of : List ℕ → Assign → Statement
assignment_of source a = Assignment (text_of source a.body) (target_of source a.target) (is_update a.sign) (value_of source a.value)

-- a layer of a tree, in which each tree below is what it says
abbrev pub node_says : List ℕ → Node-F Statement Statement Statement → Statement
node_says source (Node-F.For x) = x
node_says source (Node-F.If x) = x
node_says source (Node-F.Block xs) = Block (statements xs)
node_says source (Node-F.Assign a) = assignment_of source a
node_says source Node-F.Empty = Block NoStatements

abbrev pub branch_says : List ℕ → Branch-F Statement Statement Statement → Statement
branch_says source x = Branch (value_of source x.condition) (Next x.then NoStatements) (if_any x.other)

abbrev pub loop_says : List ℕ → Loop-F Statement Statement Statement → Statement
loop_says source x =
    Loop (bytes_of source x.name) x.name.from (sum_of source x.start) (order_of x.rel) (sum_of source x.bound)
    (step_of source x.step) x.step_at (Next x.body NoStatements)

-- what a statement of the source says, and what all of a region say
abbrev pub statement_of : List ℕ → Node → Statement
statement_of source = fold-Node Statement Statement Statement (node_says source) (branch_says source) (loop_says source)

abbrev pub branch_of : List ℕ → BranchTree → Statement
branch_of source = fold-Branch Statement Statement Statement (node_says source) (branch_says source) (loop_says source)

abbrev pub loop_of : List ℕ → LoopTree → Statement
loop_of source = fold-Loop Statement Statement Statement (node_says source) (branch_says source) (loop_says source)

abbrev pub statements_of : List ℕ → List Node → Statements
statements_of source [] = NoStatements
statements_of source (x ∷ xs) = Next (statement_of source x) (statements_of source xs)
