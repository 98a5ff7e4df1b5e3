-- The walk over a region that makes the pieces of its SCoP statement by statement, and finds the first refusal.
use Rattle.std.specs.Prelude.{ℕ, ◌+◌, min, List, [], ◌∷◌, ◌++◌, length, ℤ, pos, negsuc, Bool, true, false, cond, not, ◌&&◌, map, codes, nat_le, nat_lt, if◌then◌else◌, Option, None, Some, is_none}
use Rattle.suite_base.specs.Limits.{max_statements, max_iterators, max_parameters, max_locals, max_rows, max_parts, max_accesses, max_subscripts, max_arrays}
use Rattle.suite_base.specs.declared.refusals.Refusal.{Refusal}
use Rattle.suite_base.specs.declared.refusals.Refusal.TheVariants.{Limit, TooManyParts, Overflow}
use Rattle.suite_base.specs.declared.refusals.Which.TheVariants.{Statements, Parameters, Locals, Rows, Accesses as AccessCount, Subscripts, Arrays}
use Rattle.suite_base.specs.declared.refusals.Where.TheVariants.{Statement as OfStatement}
use Rattle.scop_data.specs.declared.affines.Affine.{Affine}
use Rattle.scop_data.specs.declared.accesses.AccessKind.{AccessKind}
use Rattle.scop_data.specs.declared.accesses.AccessKind.TheVariants.{Read, Write}
use Rattle.scop_data.specs.declared.statements.Statement.{Statement}
use Rattle.scop_data.specs.declared.raw_pieces.RawStatement.{RawStatement}
use Rattle.scop_data.specs.declared.raw_pieces.ScopPieces.{ScopPieces}
use Rattle.scop_data.specs.Pieces.{statement_pieces}
use Rattle.scop_core.specs.Assembly.{or_else}
use Rattle.clan_extract.specs.Regions.{Comparison, IsLess, IsLessOrEqual, IsGreater, IsGreaterOrEqual, IsEqual, IsUnequal, Reference, Node, For, If, Block, Assign, Nodes, NoNodes, Then, number_in, numbered, names_if_any}
use Rattle.clan_extract.specs.Placements.{Head}
use Rattle.clan_extract.specs.Counts.{one_part}
use Rattle.clan_extract.specs.Constraints.{Constraint}
use Rattle.clan_extract.specs.Scops.{locals_in, part, levels, references_read}
use Rattle.clan_rows.specs.Fitting.{checked_form}
use Rattle.clan_rows.specs.Layers.{LayerData, layer, loop_layer, condition_layer, crossed_layers}
use Rattle.clan_walk.specs.declared.gathering.Accesses.{Accesses}
use Rattle.clan_walk.specs.declared.turns.Direction.{Direction}
use Rattle.clan_walk.specs.declared.turns.Direction.TheVariants.{Upward, Downward}
use Rattle.clan_walk.specs.declared.turns.Turn.{Turn}

-- a place of the walk: the names of parameters and arrays; the names and the turns of the loops round the place, from the outermost;
-- how many children stand before it in the innermost loop; what each loop and branch round it asks together with those outside it;
-- how many statements came before, at most one above the limit; the accesses of the assignment at hand; the pieces made so far,
-- and the first refusal of a statement so far
pub record State : Type 0 where
  pub parameters : List (List ℕ)
  pub arrays : List (List ℕ)
  pub loops : List (List ℕ)
  pub turns : List Turn
  pub next : ℕ
  pub layers : List LayerData
  pub number : ℕ
  pub accesses : Accesses
  pub statements : List RawStatement
  pub refusal : Option Refusal

-- the last of a list, or else x; and the list without its last
abbrev pub last_or : {X : Type 0} → X → List X → X
last_or x [] = x
last_or x (y ∷ ys) = last_or y ys

abbrev pub without_last : {X : Type 0} → List X → List X
without_last [] = []
without_last (x ∷ []) = []
without_last (x ∷ (y ∷ ys)) = x ∷ without_last (y ∷ ys)

-- which way a loop runs, and its sign
abbrev pub direction_by : Comparison → Direction
direction_by IsLess = Upward
direction_by IsLessOrEqual = Upward
direction_by IsGreater = Downward
direction_by IsGreaterOrEqual = Downward
direction_by IsEqual = Upward
direction_by IsUnequal = Upward

abbrev pub sign : Direction → ℤ
sign Upward = pos 1
sign Downward = negsuc 0

abbrev pub signs : List Turn → List ℤ
signs turns = map (λ t. sign t.direction) turns

-- what nothing round a place asks
abbrev pub no_layer : LayerData
no_layer = layer (one_part 0 0) true ([] ∷ [])

-- what all round the place asks
abbrev pub around : State → LayerData
around s = last_or no_layer s.layers

-- no accesses, and nothing wrong with some
abbrev pub no_accesses : Accesses
no_accesses = record { count = 0; short = true; fit = true; made = [] }

abbrev pub are_fine : Accesses → Bool
are_fine a = nat_le a.count max_accesses && (a.short && a.fit)

-- all forms are in range; and those that are
abbrev pub all_fit : List (Option Affine) → Bool
all_fit [] = true
all_fit (None ∷ forms) = false
all_fit (Some f ∷ forms) = all_fit forms

abbrev pub fitting_ones : List (Option Affine) → List Affine
fitting_ones [] = []
fitting_ones (None ∷ forms) = fitting_ones forms
fitting_ones (Some f ∷ forms) = f ∷ fitting_ones forms

-- the next statement is one that can be made: no limit of the whole is passed, and nothing was refused
abbrev pub is_open : State → Bool
is_open s = (nat_le (length s.parameters) max_parameters && nat_le (length s.arrays) max_arrays) && (nat_lt s.number max_statements && is_none s.refusal)

-- and so are its pieces, inside no more loops than a statement has iterators
abbrev pub is_making : State → Bool
is_making s = is_open s && nat_le (length s.loops) max_iterators

-- the accesses with one more, to this array at these subscripts
abbrev pub with_access : Bool → List (List ℕ) → AccessKind → List ℕ → List (Option Affine) → Accesses → Accesses
with_access making arrays kind name subscripts a =
    let b : Accesses = record { count = min (a.count + 1) (max_accesses + 1); short = a.short && nat_le (length subscripts) max_subscripts; fit = a.fit && all_fit subscripts; made = [] }
    in record b { made = cond (making && are_fine b) (a.made ++ record { kind = kind; array = number_in arrays name; subscripts = fitting_ones subscripts } ∷ []) [] }

abbrev pub accessed : AccessKind → List ℕ → List (Option Affine) → State → State
accessed kind name subscripts s = record s { accesses = with_access (is_making s) s.arrays kind name subscripts s.accesses }

-- into a loop, and out of it again: one that has an assignment counts among the children outside it
abbrev pub entered_loop : List ℕ → Direction → LayerData → State → State
entered_loop name direction l s = record s {
  loops = s.loops ++ name ∷ [];
  turns = s.turns ++ record { direction = direction; beta = s.next } ∷ [];
  next = 0;
  layers = s.layers ++ crossed_layers (around s) l ∷ [];
  accesses = no_accesses;
}

abbrev pub next_behind : ℕ → List Turn → ℕ
next_behind next [] = next
next_behind next (t ∷ []) = t.beta + min next 1
next_behind next (t ∷ (u ∷ turns)) = next_behind next (u ∷ turns)

abbrev pub left_loop : State → State
left_loop s = record s {
  loops = without_last s.loops;
  turns = without_last s.turns;
  next = next_behind s.next s.turns;
  layers = without_last s.layers;
  accesses = no_accesses;
}

-- into a branch, and out of it again
abbrev pub entered_branch : LayerData → State → State
entered_branch l s = record s { layers = s.layers ++ crossed_layers (around s) l ∷ [] }

abbrev pub left_branch : State → State
left_branch s = record s { layers = without_last s.layers }

-- the first refusal of statement number k, with these accesses, where all round it asks this
abbrev pub assignment_refusal : ℕ → LayerData → Accesses → Option Refusal
assignment_refusal k l a =
    if nat_lt max_accesses a.count then Some (Limit AccessCount k)
    else (if not a.short then Some (Limit Subscripts k)
    else (if nat_lt max_parts l.count.parts then Some (TooManyParts k)
    else (if nat_lt max_rows l.count.rows then Some (Limit Rows k)
    else (if nat_lt max_locals l.count.locals then Some (Limit Locals k)
    else (if not (l.fits && a.fit) then Some (Overflow OfStatement k) else None)))))

-- the statement with this text, from the accesses at hand
abbrev pub statement_at : List ℕ → State → Statement
statement_at text s = record {
  domain = map (part (length s.loops) (length s.parameters)) (around s).parts;
  schedule = record {
    floors = [];
    levels = levels (length s.parameters) (signs s.turns);
    betas = map (λ t. pos t.beta) s.turns ++ pos s.next ∷ [];
  };
  accesses = s.accesses.made;
  body = record { text = text; iterators = s.loops };
  extensions = [];
}

-- the assignment at hand is refused, as the next statement
abbrev pub refusal_here : State → Option Refusal
refusal_here s = cond (is_open s) (assignment_refusal (s.number + 1) (around s) s.accesses) None

-- no part has more locals than one may have
abbrev pub are_narrow : List (List Constraint) → Bool
are_narrow [] = true
are_narrow (p ∷ ps) = nat_le (locals_in p) max_locals && are_narrow ps

-- its pieces, where it is not
abbrev pub pieces_here : List ℕ → State → List RawStatement
pieces_here text s = cond ((is_making s && are_narrow (around s).parts) && is_none (refusal_here s)) (statement_pieces (length s.parameters) (statement_at text s) ∷ []) []

-- one statement more, as long as there aren't too many
abbrev pub counted : State → State
counted s = cond (nat_lt max_statements s.number) s (record s { number = s.number + 1; next = s.next + 1 })

-- with these pieces behind the others; and behind an assignment with this refusal
abbrev pub with_pieces : List RawStatement → State → State
with_pieces pieces s = record s { statements = s.statements ++ pieces }

abbrev pub refused : Option Refusal → State → State
refused refusal s = record s { accesses = no_accesses; refusal = or_else s.refusal refusal }

-- behind an assignment with this text
abbrev pub assigned : List ℕ → State → State
assigned text s = counted (refused (refusal_here s) (with_pieces (pieces_here text s) s))

-- behind a reference of an assignment, and behind some that are read
abbrev pub referred : AccessKind → Reference → State → State
referred kind r s = accessed kind r.name (map (λ e. checked_form s.parameters s.loops e) r.subscripts) s

abbrev pub read : List Reference → State → State
read [] s = s
read (r ∷ rs) s = read rs (referred Read r s)

-- behind a statement of the region, and behind a list of them
abbrev mutual
  pub walked : Node → State → State
  walked (For name start comparison bound step body) s =
      let head : Head = record { name = name; start = start; comparison = comparison; bound = bound; step = step }
      in left_loop (walked_all body (entered_loop name (direction_by comparison) (loop_layer s.parameters s.loops head) s))
  walked (If condition then_nodes else_nodes) s =
      let t : State = left_branch (walked_all then_nodes (entered_branch (condition_layer s.parameters s.loops true condition) s))
      in left_branch (walked_all else_nodes (entered_branch (condition_layer s.parameters s.loops false condition) t))
  walked (Block nodes) s = walked_all nodes s
  walked (Assign a) s = assigned a.text (referred Write a.target (read (references_read s.parameters s.loops a) s))

  pub walked_all : Nodes → State → State
  walked_all NoNodes s = s
  walked_all (Then first rest) s = walked_all rest (walked first s)

-- before a region with these parameters and arrays, and behind it
abbrev pub start : List (List ℕ) → List (List ℕ) → State
start parameters arrays = record {
  parameters = parameters;
  arrays = arrays;
  loops = [];
  turns = [];
  next = 0;
  layers = [];
  number = 0;
  accesses = no_accesses;
  statements = [];
  refusal = None;
}

abbrev pub walk_of : List (List ℕ) → List (List ℕ) → Nodes → State
walk_of parameters arrays region = walked_all region (start parameters arrays)

-- the first refusal of a region behind it: of the whole, or else of a statement
abbrev pub refusal_at_end : State → Option Refusal
refusal_at_end s = or_else
    (if nat_lt max_parameters (length s.parameters) then Some (Limit Parameters 0)
    else (if nat_lt max_arrays (length s.arrays) then Some (Limit Arrays 0)
    else (if nat_lt max_statements s.number then Some (Limit Statements 0) else None)))
    s.refusal

-- the pieces of its SCoP
abbrev pub pieces_at_end : State → ScopPieces
pieces_at_end s = record {
  language = codes "C";
  context = record { shape = record { outputs = 0; inputs = 0; locals = 0; parameters = length s.parameters }; rows = [] };
  parameters = names_if_any s.parameters;
  statements = s.statements;
  arrays = Some (numbered (pos 1) s.arrays);
  extensions = [];
}
