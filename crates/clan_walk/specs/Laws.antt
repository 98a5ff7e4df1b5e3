-- The walk over a region gives the region's SCoP or its first refusal.
use Rattle.std.specs.Prelude.{◌≡◌, ◌≤◌, ◌+◌, ℕ, min, List, None, false}
use Rattle.suite_base.specs.Limits.{max_statements}
use Rattle.scop_data.specs.Pieces.{pieces_of}
use Rattle.scop_core.specs.Assembly as assembly
use Rattle.scop_core.specs.Printable.{IsPrintable}
use Rattle.clan_extract.specs.Regions.{Node, For, If, Block, Assign, Nodes, NoNodes, Then}
use Rattle.clan_extract.specs.Refusals.{refusal_of}
use Rattle.clan_extract.specs.ReadBack.{IsPrintableRegion}
use Rattle.clan_extract.specs.Scops.{scop_of}
use Rattle.clan_walk.specs.Walk.{State, no_accesses, is_open, walked, walked_all, walk_of, refusal_at_end, pieces_at_end}

-- behind a whole region the first refusal is that of its translation, and without one the pieces are those that its SCoP is printed as
pub record IsTranslated (parameters arrays : List (List ℕ)) (region : Nodes) : Type 0 where
  pub refusal : refusal_at_end (walk_of parameters arrays region) ≡ refusal_of parameters arrays region
  pub pieces : IsPrintableRegion parameters arrays region → refusal_of parameters arrays region ≡ None
      → pieces_at_end (walk_of parameters arrays region) ≡ pieces_of (scop_of parameters arrays region)

abbrev pub WalkTranslates : Type 0
WalkTranslates = (parameters arrays : List (List ℕ)) (region : Nodes) → IsTranslated parameters arrays region

-- where nothing was refused, the pieces can be assembled without a refusal
pub record CanFinish (s : State) : Type 0 where
  pub printable : refusal_at_end s ≡ None → IsPrintable (pieces_at_end s)
  pub unrefused : refusal_at_end s ≡ None → assembly.refusal_of (pieces_at_end s) ≡ None

-- so it is behind a region that can be printed, and its SCoP is assembled from them
abbrev pub WalkFinishes : Type 0
WalkFinishes = (parameters arrays : List (List ℕ)) (region : Nodes) → IsPrintableRegion parameters arrays region
    → CanFinish (walk_of parameters arrays region)
    × (refusal_of parameters arrays region ≡ None → assembly.scop_of (pieces_at_end (walk_of parameters arrays region)) ≡ scop_of parameters arrays region)

-- the number of assignments
abbrev mutual
  pub assignments : Node → ℕ
  assignments (For name start comparison bound step body) = assignments_in body
  assignments (If condition then_nodes else_nodes) = assignments_in then_nodes + assignments_in else_nodes
  assignments (Block nodes) = assignments_in nodes
  assignments (Assign a) = 1

  pub assignments_in : Nodes → ℕ
  assignments_in NoNodes = 0
  assignments_in (Then first rest) = assignments first + assignments_in rest

-- behind a statement the names, loops and layers are as before, and its assignments were counted, up to one above the limit
pub record Keeps (s t : State) (count : ℕ) : Type 0 where
  pub parameters : t.parameters ≡ s.parameters
  pub arrays : t.arrays ≡ s.arrays
  pub loops : t.loops ≡ s.loops
  pub turns : t.turns ≡ s.turns
  pub layers : t.layers ≡ s.layers
  pub number : s.number ≤ max_statements + 1 → t.number ≡ min (s.number + count) (max_statements + 1)

abbrev pub WalkKeepsPlaces : Type 0
WalkKeepsPlaces = ((node : Node) (s : State) → Keeps s (walked node s) (assignments node)) × ((nodes : Nodes) (s : State) → Keeps s (walked_all nodes s) (assignments_in nodes))

-- without an assignment nothing changes, where no accesses are at hand
abbrev pub WalkSkipsEmpty : Type 0
WalkSkipsEmpty = ((node : Node) (s : State) → assignments node ≡ 0 → s.accesses ≡ no_accesses → walked node s ≡ s)
    × ((nodes : Nodes) (s : State) → assignments_in nodes ≡ 0 → s.accesses ≡ no_accesses → walked_all nodes s ≡ s)

-- where no statement is made any more, none is made later, and nothing is refused but the whole
pub record StaysClosed (s t : State) : Type 0 where
  pub closed : is_open t ≡ false
  pub statements : t.statements ≡ s.statements
  pub refusal : t.refusal ≡ s.refusal

abbrev pub WalkStaysClosed : Type 0
WalkStaysClosed = ((node : Node) (s : State) → is_open s ≡ false → StaysClosed s (walked node s)) × ((nodes : Nodes) (s : State) → is_open s ≡ false → StaysClosed s (walked_all nodes s))
