-- The occurrences of names in statements, in the order of the text.
use Rattle.std.specs.Prelude.{ℕ, zero, suc, List, [], ◌∷◌, ◌++◌, Bool, true, false, cond, Option, Some, None}
use Rattle.c_lexer.specs.Symbols.{operator_names}
use Rattle.clan_extract.specs.Regions.{is_among}
use Rattle.clan_extract.specs.Names.{Role, Function, ArrayOf, Iterator, Parameter, Occurrence}
use Rattle.region_trees.specs.Terms.{Term, Integer, Literal, Named, Call, Bracket, Signed, Joined, Choice, Terms, NoTerms, More, Element}
use Rattle.region_trees.specs.Statements.{Statement, Loop, Branch, Block, Assignment, Statements, NoStatements, Next}

abbrev pub count : Terms → ℕ
count NoTerms = 0
count (More at first rest) = suc (count rest)

-- the role of a plain name: in the scope of a loop of its name; else a parameter at a place of control, and open in a right side
abbrev pub plain_role : Bool → List (List ℕ) → List ℕ → Option Role
plain_role control scope name = cond (is_among name scope) (Some Iterator) (cond control (Some Parameter) None)

-- with subscripts it is an array
abbrev pub role_with : Bool → List (List ℕ) → List ℕ → ℕ → Option Role
role_with control scope name zero = plain_role control scope name
role_with control scope name (suc k) = Some (ArrayOf (suc k))

abbrev pub occurrence : List ℕ → Option Role → ℕ → Occurrence
occurrence name role at = record { name = name; role = role; shadows = false; at = at }

-- the names of a term, at a place of control or in a right side, in the scope of these loops. A subscript is a place of control;
-- the operators of bounds are no names
abbrev mutual
  pub occurrences_of : Bool → List (List ℕ) → Term → List Occurrence
  occurrences_of control scope (Integer value) = []
  occurrences_of control scope Literal = []
  occurrences_of control scope (Named name at subscripts) =
      occurrence name (role_with control scope name (count subscripts)) at ∷ occurrences_of_all true scope subscripts
  occurrences_of control scope (Call name at arguments) =
      cond (is_among name operator_names) [] (occurrence name (Some Function) at ∷ []) ++ occurrences_of_all control scope arguments
  occurrences_of control scope (Bracket of) = occurrences_of control scope of
  occurrences_of control scope (Signed sign of) = occurrences_of control scope of
  occurrences_of control scope (Joined operation left right) = occurrences_of control scope left ++ occurrences_of control scope right
  occurrences_of control scope (Choice test one other) =
      occurrences_of control scope test ++ (occurrences_of control scope one ++ occurrences_of control scope other)

  pub occurrences_of_all : Bool → List (List ℕ) → Terms → List Occurrence
  occurrences_of_all control scope NoTerms = []
  occurrences_of_all control scope (More at first rest) = occurrences_of control scope first ++ occurrences_of_all control scope rest

-- the names of a left side: an array of as many subscripts as it has, none too
abbrev pub occurrences_left : List (List ℕ) → Element → List Occurrence
occurrences_left scope target =
    occurrence target.name (Some (ArrayOf (count target.subscripts))) target.at ∷ occurrences_of_all true scope target.subscripts

-- the name of a loop, inside these loops
abbrev pub loop_name : List (List ℕ) → List ℕ → ℕ → Occurrence
loop_name scope name at = record { name = name; role = Some Iterator; shadows = is_among name scope; at = at }

-- the names of statements. A loop's name counts once for its head, in which it stands three times; its scope is the body
abbrev mutual
  pub occurrences_in : List (List ℕ) → Statement → List Occurrence
  occurrences_in scope (Loop name at start comparison bound step step_at body) =
      loop_name scope name at
      ∷ (occurrences_of true scope start.term ++ (occurrences_of true scope bound.term ++ occurrences_in_all (name ∷ scope) body))
  occurrences_in scope (Branch condition then_statements else_statements) =
      occurrences_of true scope condition.term ++ (occurrences_in_all scope then_statements ++ occurrences_in_all scope else_statements)
  occurrences_in scope (Block statements) = occurrences_in_all scope statements
  occurrences_in scope (Assignment text target updates right) = occurrences_left scope target ++ occurrences_of false scope right.term

  pub occurrences_in_all : List (List ℕ) → Statements → List Occurrence
  occurrences_in_all scope NoStatements = []
  occurrences_in_all scope (Next first rest) = occurrences_in scope first ++ occurrences_in_all scope rest
