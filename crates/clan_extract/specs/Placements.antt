-- The assignments of a region in the order of the text, each with its betas and with the loops and conditions round it.
use Rattle.std.specs.Prelude.{ℕ, ◌+◌, List, [], ◌∷◌, ◌++◌, ℤ, pos, negsuc, Bool, true, false, map}
use Rattle.clan_extract.specs.Regions.{Expression, Comparison, IsLess, IsLessOrEqual, IsGreater, IsGreaterOrEqual, IsEqual, IsUnequal, Condition, Assignment, Node, For, If, Block, Assign, Nodes, NoNodes, Then}

-- a loop without its body
pub record Head : Type 0 where
  pub name : List ℕ
  pub start : Expression
  pub comparison : Comparison
  pub bound : Expression
  pub step : ℤ

-- what stands round an assignment: a loop, or a condition that is to have this truth; behind `else` it is to be false
pub data Round : Type 0 where
  Loop : (head : Head) → Round
  Test : (truth : Bool) → (condition : Condition) → Round

-- an assignment, its betas, and what stands round it, from the outermost
pub record Placed : Type 0 where
  pub betas : List ℕ
  pub rounds : List Round
  pub assignment : Assignment

abbrev pub in_loop : ℕ → Head → Placed → Placed
in_loop beta head p = record { betas = beta ∷ p.betas; rounds = Loop head ∷ p.rounds; assignment = p.assignment }

abbrev pub in_test : Bool → Condition → Placed → Placed
in_test truth condition p = record p { rounds = Test truth condition ∷ p.rounds }

-- one child where there is an assignment
abbrev pub one_if_any : List Placed → ℕ
one_if_any [] = 0
one_if_any (p ∷ ps) = 1

-- the assignments of a statement, or of a list of statements, whose children are counted on from a number;
-- and how many children there are: assignments and loops that have one
abbrev mutual
  pub placed : ℕ → Node → List Placed
  placed from (For name start comparison bound step body) =
      map (in_loop from (record { name = name; start = start; comparison = comparison; bound = bound; step = step })) (placed_all 0 body)
  placed from (If condition then_nodes else_nodes) =
      map (in_test true condition) (placed_all from then_nodes)
      ++ map (in_test false condition) (placed_all (from + children_of_all then_nodes) else_nodes)
  placed from (Block nodes) = placed_all from nodes
  placed from (Assign a) = record { betas = from ∷ []; rounds = []; assignment = a } ∷ []

  pub placed_all : ℕ → Nodes → List Placed
  placed_all from NoNodes = []
  placed_all from (Then first rest) = placed from first ++ placed_all (from + children first) rest

  pub children : Node → ℕ
  children (For name start comparison bound step body) = one_if_any (placed_all 0 body)
  children (If condition then_nodes else_nodes) = children_of_all then_nodes + children_of_all else_nodes
  children (Block nodes) = children_of_all nodes
  children (Assign a) = 1

  pub children_of_all : Nodes → ℕ
  children_of_all NoNodes = 0
  children_of_all (Then first rest) = children first + children_of_all rest

-- the names of the loops, from the outermost
abbrev pub loop_names : List Round → List (List ℕ)
loop_names [] = []
loop_names (Loop head ∷ rounds) = head.name ∷ loop_names rounds
loop_names (Test truth condition ∷ rounds) = loop_names rounds

-- 1 for an upward loop, -1 for a downward one
abbrev pub direction : Comparison → ℤ
direction IsLess = pos 1
direction IsLessOrEqual = pos 1
direction IsGreater = negsuc 0
direction IsGreaterOrEqual = negsuc 0
direction IsEqual = pos 1
direction IsUnequal = pos 1

-- the directions of the loops
abbrev pub directions : List Round → List ℤ
directions [] = []
directions (Loop head ∷ rounds) = direction head.comparison ∷ directions rounds
directions (Test truth condition ∷ rounds) = directions rounds
