-- The occurrences of names in the trees of values.
use Rattle.std.specs.Prelude.{ℕ, List, [], ◌∷◌, ◌++◌, map, length, Bool, true, cond, Some}
use Rattle.c_lexer.specs.declared.pieces.Piece.{Piece}
use Rattle.c_lexer.specs.Symbols.{operator_names}
use Rattle.c_lexer.specs.Pieces.{bytes_of}
use Rattle.c_parser.specs.declared.tree.Sum.{Sum}
use Rattle.c_parser.specs.declared.tree.Value.{Value}
use Rattle.c_parser.specs.declared.tree.Target.{Target, out-Target}
use Rattle.c_parser.specs.declared.tree.Product.{Product}
use Rattle.c_parser.specs.declared.tree.Primary.{Primary}
use Rattle.c_parser.specs.declared.tree.Compare.{Compare}
use Rattle.c_parser.specs.declared.tree.Equal.{Equal}
use Rattle.c_parser.specs.declared.tree.And.{And}
use Rattle.c_parser.specs.declared.tree.Or.{Or}
use Rattle.c_parser.specs.declared.tree.Arms.{Arms, out-Arms}
use Rattle.c_parser.specs.declared.tree.Assign.{Assign}
use Rattle.c_parser.specs.declared.tree.Node.{Node}
use Rattle.c_parser.specs.declared.tree.Branch.{Branch}
use Rattle.c_parser.specs.declared.tree.Loop.{Loop}
use Rattle.clan_extract.specs.Names.{Function, ArrayOf, Occurrence}
use Rattle.clan_extract.specs.Regions.{is_among}
use Rattle.region_trees.specs.Terms.{sum_of, value_of, target_of, product_of, primary_of, compare_of, equal_of, and_of, or_of}
use Rattle.region_trees.specs.Layers.{terms_by}
use Rattle.region_trees.specs.Statements.{assignment_of, statement_of, statements_of, branch_of, loop_of}
use Rattle.region_trees.specs.Occurrences.{occurrence, loop_name, role_with, occurrences_of, occurrences_of_all, occurrences_in, occurrences_in_all}

-- the names of loops
abbrev pub scope_of : List ℕ → List Piece → List (List ℕ)
scope_of source pieces = map (bytes_of source) pieces

-- ---- single names

-- of an element in a value: plain, or of an array
abbrev pub element_name : List ℕ → List Piece → Bool → Target → Occurrence
element_name source scope control x =
    let name = bytes_of source (out-Target x).name in
    occurrence name (role_with control (scope_of source scope) name (length (out-Target x).subscripts)) (out-Target x).name.from

-- of an element on a left side: an array, of no subscripts too
abbrev pub left_name : List ℕ → Target → Occurrence
left_name source x =
    occurrence (bytes_of source (out-Target x).name) (Some (ArrayOf (length (out-Target x).subscripts))) (out-Target x).name.from

-- of a call; the operators of bounds are no names
abbrev pub function_name : List ℕ → Piece → List Occurrence
function_name source piece =
    cond (is_among (bytes_of source piece) operator_names) [] (occurrence (bytes_of source piece) (Some Function) piece.from ∷ [])

-- of a loop
abbrev pub head_name : List ℕ → List Piece → Piece → Occurrence
head_name source scope piece = loop_name (scope_of source scope) (bytes_of source piece) piece.from

-- ---- values and statements

module _ (source : List ℕ) (scope : List Piece) (control : Bool) where
  unfoldable pub value_names : Value → List Occurrence
  value_names x = occurrences_of control (scope_of source scope) (value_of source x).term

  abbrev pub arms_names : Arms → List Occurrence
  arms_names x = value_names (out-Arms x).yes ++ value_names (out-Arms x).no

  unfoldable pub or_names : Or → List Occurrence
  or_names x = occurrences_of control (scope_of source scope) (or_of source x)

  unfoldable pub and_names : And → List Occurrence
  and_names x = occurrences_of control (scope_of source scope) (and_of source x)

  unfoldable pub equal_names : Equal → List Occurrence
  equal_names x = occurrences_of control (scope_of source scope) (equal_of source x)

  unfoldable pub compare_names : Compare → List Occurrence
  compare_names x = occurrences_of control (scope_of source scope) (compare_of source x)

  unfoldable pub sum_names : Sum → List Occurrence
  sum_names x = occurrences_of control (scope_of source scope) (sum_of source x).term

  unfoldable pub product_names : Product → List Occurrence
  product_names x = occurrences_of control (scope_of source scope) (product_of source x)

  unfoldable pub primary_names : Primary → List Occurrence
  primary_names x = occurrences_of control (scope_of source scope) (primary_of source x)

  unfoldable pub argument_names : List Value → List Occurrence
  argument_names xs = occurrences_of_all control (scope_of source scope) (terms_by (value_of source) xs)

module _ (source : List ℕ) (scope : List Piece) where
  unfoldable pub subscript_names : Target → List Occurrence
  subscript_names x = occurrences_of_all true (scope_of source scope) (target_of source x).subscripts

  unfoldable pub assign_names : Assign → List Occurrence
  assign_names x = occurrences_in (scope_of source scope) (assignment_of source x)

  unfoldable pub node_names : Node → List Occurrence
  node_names x = occurrences_in (scope_of source scope) (statement_of source x)

  unfoldable pub loop_names : Loop → List Occurrence
  loop_names x = occurrences_in (scope_of source scope) (loop_of source x)

  unfoldable pub branch_names : Branch → List Occurrence
  branch_names x = occurrences_in (scope_of source scope) (branch_of source x)

  unfoldable pub nodes_names : List Node → List Occurrence
  nodes_names xs = occurrences_in_all (scope_of source scope) (statements_of source xs)
