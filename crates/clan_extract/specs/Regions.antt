-- The C region as a tree, and the names and numbers of its parameters and arrays.
use Rattle.std.specs.Prelude.{ℕ, List, [], ◌∷◌, ℤ, Bool, true, false, cond, not, ◌||◌, bytes_eq, filter, pos, ◌+ℤ◌, Option, None, Some}

-- an expression at a place of control: a subscript, a start, a bound or a side of a comparison
pub data Expression : Type 0 where
  Number : (value : ℕ) → Expression
  Name : (name : List ℕ) → Expression
  Sum : (left : Expression) → (right : Expression) → Expression
  Difference : (left : Expression) → (right : Expression) → Expression
  Product : (left : Expression) → (right : Expression) → Expression
  Negation : (of : Expression) → Expression
  Maximum : (left : Expression) → (right : Expression) → Expression
  Minimum : (left : Expression) → (right : Expression) → Expression
  Ceiling : (of : Expression) → (divisor : ℕ) → Expression
  Floor : (of : Expression) → (divisor : ℕ) → Expression
  Remainder : (of : Expression) → (divisor : ℕ) → Expression

-- the sign of a comparison
pub data Comparison : Type 0 where
  IsLess : Comparison
  IsLessOrEqual : Comparison
  IsGreater : Comparison
  IsGreaterOrEqual : Comparison
  IsEqual : Comparison
  IsUnequal : Comparison

-- the condition of a branch
pub data Condition : Type 0 where
  Compare : (comparison : Comparison) → (left : Expression) → (right : Expression) → Condition
  Both : (left : Condition) → (right : Condition) → Condition
  Either : (left : Condition) → (right : Condition) → Condition
  Opposite : (of : Condition) → Condition

-- a name with its subscripts; a plain name has none
pub record Reference : Type 0 where
  pub name : List ℕ
  pub subscripts : List Expression

-- an assignment: its text from the target to `;`, its target, whether its sign is another than `=`,
-- and the references of its right side in the order of the text
pub record Assignment : Type 0 where
  pub text : List ℕ
  pub target : Reference
  pub updates : Bool
  pub right : List Reference

-- a statement, and a list of statements; an empty statement is a block without any, a missing branch the list without any.
-- The step of a loop is negative for a downward one
mutual
  pub data Node : Type 0 where
    For : (name : List ℕ) → (start : Expression) → (comparison : Comparison) → (bound : Expression) → (step : ℤ) → (body : Nodes) → Node
    If : (condition : Condition) → (then_nodes : Nodes) → (else_nodes : Nodes) → Node
    Block : (nodes : Nodes) → Node
    Assign : (assignment : Assignment) → Node

  pub data Nodes : Type 0 where
    NoNodes : Nodes
    Then : (first : Node) → (rest : Nodes) → Nodes

-- the name stands in the list
abbrev pub is_among : List ℕ → List (List ℕ) → Bool
is_among name [] = false
is_among name (x ∷ xs) = bytes_eq x name || is_among name xs

-- the names but for this one
abbrev pub without : List ℕ → List (List ℕ) → List (List ℕ)
without name [] = []
without name (x ∷ xs) = cond (bytes_eq x name) (without name xs) (x ∷ without name xs)

-- each name once, where it first occurs
abbrev pub first_occurrences : List (List ℕ) → List (List ℕ)
first_occurrences [] = []
first_occurrences (x ∷ xs) = x ∷ without x (first_occurrences xs)

-- there are no expressions
abbrev pub is_empty : List Expression → Bool
is_empty [] = true
is_empty (e ∷ es) = false

-- a name without subscripts
abbrev pub is_plain : Reference → Bool
is_plain reference = is_empty reference.subscripts

-- an occurrence of an array: with subscripts, or plain and neither a loop's name in its scope nor a parameter
abbrev pub is_array : List (List ℕ) → List (List ℕ) → Reference → Bool
is_array parameters scope r = not (is_plain r) || not (is_among r.name scope || is_among r.name parameters)

-- of these references those that are arrays
abbrev pub array_references : List (List ℕ) → List (List ℕ) → List Reference → List Reference
array_references parameters scope rs = filter (λ r. is_array parameters scope r) rs

-- the place of a name in a list, from 1
abbrev pub number_in : List (List ℕ) → List ℕ → ℤ
number_in [] name = pos 0
number_in (x ∷ xs) name = cond (bytes_eq x name) (pos 1) (pos 1 +ℤ number_in xs name)

-- names with numbers, counted on from k
abbrev pub numbered : ℤ → List (List ℕ) → List (ℤ × List ℕ)
numbered k [] = []
numbered k (x ∷ xs) = (k, x) ∷ numbered (k +ℤ pos 1) xs

-- a list of names, None where there are none
abbrev pub names_if_any : List (List ℕ) → Option (List (List ℕ))
names_if_any [] = None
names_if_any (x ∷ xs) = Some (x ∷ xs)
