-- What a walk over the parser's trees has to do. Nothing is asked where a place of control breaks the rules.
use Rattle.std.specs.Prelude.{◌≡◌, ◌++◌, ◌&&◌, ◌||◌, ℕ, List, map, Bool, true, false, Option, Result, Ok}
use Rattle.scop_data.specs.declared.affines.Affine.{Affine}
use Rattle.scop_data.specs.declared.accesses.AccessKind.{AccessKind}
use Rattle.scop_data.specs.declared.accesses.AccessKind.TheVariants.{Read}
use Rattle.c_lexer.specs.Pieces.{bytes_of}
use Rattle.c_parser.specs.declared.tree.Loop.{Loop as LoopTree, out-Loop}
use Rattle.c_parser.specs.declared.tree.Node.{Node as Tree}
use Rattle.clan_extract.specs.Regions.{Expression, Node, Nodes, Reference, array_references, is_among}
use Rattle.clan_rows.specs.Fitting.{checked_form}
use Rattle.clan_rows.specs.Layers.{LayerData}
use Rattle.clan_walk.specs.Walk.{State, direction_by, entered_branch, entered_loop, is_open, read, referred, walk_of, walked, walked_all}
use Rattle.region_forms.specs.Bounds.{IsLoop}
use Rattle.region_forms.specs.Conditions.{IsTest}
use Rattle.region_trees.specs.Regions.{condition_of, node_of, nodes_of, reference_of, references_of, references_of_all, result_map2, subscripts_of}
use Rattle.region_trees.specs.Statements.{Assignment, Block, Branch, Loop, Next, NoStatements, Statement, Statements, statement_of, statements_of, step_of}
use Rattle.region_trees.specs.Terms.{Element, More, NoTerms, Pair, Term, Terms, order_of, sum_of}

-- ---- accesses

-- the forms of subscripts, each None where it or a part of it is out of range
abbrev pub AreForms : List (List ℕ) → List (List ℕ) → Terms → List (Option Affine) → Type 0
AreForms parameters loops subscripts forms = (es : List Expression) → subscripts_of subscripts ≡ Ok es → forms ≡ map (λ e. checked_form parameters loops e) es

-- behind an access to what a name with its subscripts stands for
abbrev pub Refers : AccessKind → Element → State → State → Type 0
Refers kind e old new = (r : Reference) → reference_of e.name e.subscripts ≡ Ok r → new ≡ referred kind r old

-- a plain name of a loop round the place or of a parameter, which is no array
abbrev pub are_none : Terms → Bool
are_none NoTerms = true
are_none (More at first rest) = false

abbrev pub is_value : Element → State → Bool
is_value e s = are_none e.subscripts && (is_among e.name s.loops || is_among e.name s.parameters)

-- behind the read of a target, where the assignment updates it
abbrev pub ReadsUpdated : Bool → Element → State → State → Type 0
ReadsUpdated true e old new = Refers Read e old new
ReadsUpdated false e old new = new ≡ old

-- behind the reads of the arrays among these references
abbrev pub ReadsAmong : Result (List Reference) ℕ → State → State → Type 0
ReadsAmong references old new = (rs : List Reference) → references ≡ Ok rs → new ≡ read (array_references old.parameters old.loops rs) old

-- behind those of a value, of values one after the other, and of the arms of a choice
abbrev pub Reads : Term → State → State → Type 0
Reads t old new = ReadsAmong (references_of t) old new

abbrev pub ReadsAll : Terms → State → State → Type 0
ReadsAll ts old new = ReadsAmong (references_of_all ts) old new

abbrev pub ReadsBoth : Pair → State → State → Type 0
ReadsBoth arms old new = ReadsAmong (result_map2 (λ rs ss. rs ++ ss) (references_of arms.yes) (references_of arms.no)) old new

-- ---- loops and branches

-- an assignment stands in a statement, and in a list of them
abbrev mutual
  pub has_assignment : Statement → Bool
  has_assignment (Loop name at start comparison bound step step_at body) = have_assignment body
  has_assignment (Branch condition then_statements else_statements) = have_assignment then_statements || have_assignment else_statements
  has_assignment (Block statements) = have_assignment statements
  has_assignment (Assignment text target updates right) = true

  pub have_assignment : Statements → Bool
  have_assignment NoStatements = false
  have_assignment (Next first rest) = has_assignment first || have_assignment rest

-- a statement inside that may still be made asks for the layer round it
abbrev pub asks_layer : Statement → State → Bool
asks_layer x s = is_open s && has_assignment x

-- the layer of a loop at this place of the walk, and of a condition that has this truth, where this statement inside asks for it
abbrev pub IsLoopHere : List ℕ → LoopTree → State → LayerData → Type 0
IsLoopHere source x s l =
    let head = out-Loop x in
    asks_layer (statement_of source head.body) s ≡ true
    → IsLoop s.parameters s.loops (bytes_of source head.name) (sum_of source head.start) (order_of head.rel) (sum_of source head.bound) (step_of source head.step) l

abbrev pub IsTestHere : Bool → Term → Statement → State → LayerData → Type 0
IsTestHere truth t inside s l = asks_layer inside s ≡ true → IsTest s.parameters s.loops truth (condition_of t) l

-- behind the head of a loop
pub record EntersLoop (source : List ℕ) (x : LoopTree) (old new : State) : Type 0 where
  pub layer : LayerData
  pub is_layer : IsLoopHere source x old layer
  pub entered : new ≡ entered_loop (bytes_of source (out-Loop x).name) (direction_by (order_of (out-Loop x).rel)) layer old

-- behind a condition, in the branch in which it has this truth
pub record EntersBranch (truth : Bool) (t : Term) (inside : Statement) (old new : State) : Type 0 where
  pub layer : LayerData
  pub is_layer : IsTestHere truth t inside old layer
  pub entered : new ≡ entered_branch layer old

-- ---- statements

-- behind a statement, and behind a list of them
abbrev pub Walks : Statement → State → State → Type 0
Walks x old new = (n : Node) → node_of x ≡ Ok n → new ≡ walked n old

abbrev pub WalksAll : Statements → State → State → Type 0
WalksAll xs old new = (ns : Nodes) → nodes_of xs ≡ Ok ns → new ≡ walked_all ns old

-- behind all statements of a region with these parameters and arrays
abbrev pub IsBehind : List ℕ → List Tree → List (List ℕ) → List (List ℕ) → State → Type 0
IsBehind source nodes parameters arrays s = (region : Nodes) → nodes_of (statements_of source nodes) ≡ Ok region → s ≡ walk_of parameters arrays region
