-- When the SCoP of a region is what its own pieces give.
use Rattle.std.specs.Prelude.{◌≡◌, ◌≤◌, ℕ, List, length, true, None}
use Rattle.suite_base.specs.Limits.{max_loops}
use Rattle.scop_core.specs.Sequences.{In}
use Rattle.scop_core.specs.Printable.{are_names, is_body}
use Rattle.scop_core.specs.ReadBack.{ReadBack}
use Rattle.clan_extract.specs.Regions.{Nodes}
use Rattle.clan_extract.specs.Placements.{Placed, placed_all, loop_names}
use Rattle.clan_extract.specs.Scops.{scop_of}
use Rattle.clan_extract.specs.Refusals.{refusal_of}

-- an assignment inside no more loops than the limit, whose text and names a body can hold
pub record IsPrintablePlaced (p : Placed) : Type 0 where
  pub body : is_body (record { text = p.assignment.text; iterators = loop_names p.rounds }) ≡ true
  pub depth : length (loop_names p.rounds) ≤ max_loops

-- the names and texts of a region can be printed; where there is an assignment, there is an array
pub record IsPrintableRegion (parameters arrays : List (List ℕ)) (region : Nodes) : Type 0 where
  pub parameters_are : are_names parameters ≡ true
  pub arrays_are : are_names arrays ≡ true
  pub some_array : (p : Placed) → In p (placed_all 0 region) → 1 ≤ length arrays
  pub assignments : (p : Placed) → In p (placed_all 0 region) → IsPrintablePlaced p

-- the pieces of a region's SCoP can be printed, and give that SCoP without a refusal, where the region has none
abbrev pub ScopReadsBack : Type 0
ScopReadsBack = (parameters arrays : List (List ℕ)) (region : Nodes) → IsPrintableRegion parameters arrays region → refusal_of parameters arrays region ≡ None
    → ReadBack (scop_of parameters arrays region)
