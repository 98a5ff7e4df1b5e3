-- Statements whose names are names of C, whose texts are lines of a body, and whose loops are few.
use Rattle.std.specs.Prelude.{ℕ, zero, suc, Bool, true, false, ◌&&◌}
use Rattle.c_lexer.specs.TokenForms.{is_name}
use Rattle.scop_core.specs.Printable.{is_body_line}
use Rattle.region_trees.specs.Terms.{Term, Integer, Literal, Named, Call, Bracket, Signed, Joined, Choice, Terms, NoTerms, More}
use Rattle.region_trees.specs.Statements.{Statement, Loop, Branch, Block, Assignment, Statements, NoStatements, Next}

-- each name of a term is a name of C
abbrev mutual
  pub is_named : Term → Bool
  is_named (Integer value) = true
  is_named Literal = true
  is_named (Named name at subscripts) = is_name name && are_named subscripts
  is_named (Call name at arguments) = is_name name && are_named arguments
  is_named (Bracket of) = is_named of
  is_named (Signed sign of) = is_named of
  is_named (Joined operation left right) = is_named left && is_named right
  is_named (Choice test one other) = is_named test && (is_named one && is_named other)

  pub are_named : Terms → Bool
  are_named NoTerms = true
  are_named (More at first rest) = is_named first && are_named rest

-- each name of a statement is one, each text is a line of a body, and at most so many loops stand one inside another
abbrev mutual
  pub is_sound : ℕ → Statement → Bool
  is_sound zero (Loop name at start comparison bound step step_at body) = false
  is_sound (suc loops) (Loop name at start comparison bound step step_at body) =
      is_name name && (is_named start.term && (is_named bound.term && are_sound loops body))
  is_sound loops (Branch condition then_statements else_statements) =
      is_named condition.term && (are_sound loops then_statements && are_sound loops else_statements)
  is_sound loops (Block statements) = are_sound loops statements
  is_sound loops (Assignment text target updates right) =
      is_body_line text && (is_name target.name && (are_named target.subscripts && is_named right.term))

  pub are_sound : ℕ → Statements → Bool
  are_sound loops NoStatements = true
  are_sound loops (Next first rest) = is_sound loops first && are_sound loops rest
