-- Pairs of instances that a system orders.
use Rattle.std.specs.Prelude.{◌≡◌, ◌⊎◌, ◌↔◌, ℤ, List, [], map, length, true, All, Some}
use Rattle.relation_core.specs.Systems.{System}
use Rattle.relation_core.specs.Points.{LiesIn, LiesInSome}
use Rattle.scop_core.specs.Sequences.{In}
use Rattle.scop_core.specs.Order.{Before}
use Rattle.scop_core.specs.Memory.{Use, is_writing}
use Rattle.scop_core.specs.Meaning.{Instance, stamp_of, use_at}
use Rattle.scop_core.specs.Printable.{IsContext}
use Rattle.dependence_systems.specs.declared.dependences.Dep.{Dep}
use Rattle.dependence_systems.specs.Sides.{Side, member}
use Rattle.dependence_systems.specs.Entries.{entries}
use Rattle.dependence_systems.specs.Systems.{system_of}
use Rattle.dependence_systems.specs.Fits.{SideFits}

-- a pair of instances lies in the system of an entry: it is of the entry's two statements, and integers
-- for the locals exist with which every row holds
pub record LiesInEntry (context : System) (sides : List Side) (n : List ℤ) (e : Dep) (a b : Instance) : Type 0 where
  pub source_is : a.statement ≡ e.source
  pub target_is : b.statement ≡ e.target
  pub lies : LiesIn (system_of context sides e) a.values b.values n

-- it lies in some system of the list
pub record LiesInList (context : System) (sides : List Side) (n : List ℤ) (a b : Instance) : Type 0 where
  pub entry : Dep
  pub listed : In entry (entries sides)
  pub pair : LiesInEntry context sides n entry a b

-- the accesses of a side at iterator values x
abbrev pub uses_of : Side → List ℤ → List ℤ → List Use
uses_of side x n = map (λ access. use_at x n access) side.accesses

-- an access of one and an access of the other have one cell, and at least one of the two writes
abbrev pub UsesTouch : List Use → List Use → Type 0
UsesTouch us vs = (u : Use) × (v : Use) × In u us × In v vs × (u.cell ≡ v.cell) × ((is_writing u.kind ≡ true) ⊎ (is_writing v.kind ≡ true))

-- two instances of sides touch, and the schedule of the first one's side puts it before the second one
pub record IsOrdered (sides : List Side) (n : List ℤ) (a b : Instance) : Type 0 where
  pub source : Side
  pub target : Side
  pub source_is : member sides a.statement ≡ Some source
  pub target_is : member sides b.statement ≡ Some target
  pub source_length : length a.values ≡ source.iterators
  pub target_length : length b.values ≡ target.iterators
  pub source_lies : LiesInSome source.domain a.values [] n
  pub target_lies : LiesInSome target.domain b.values [] n
  pub touch : UsesTouch (uses_of source a.values n) (uses_of target b.values n)
  pub order : Before (stamp_of source.schedule a.values n) (stamp_of target.schedule b.values n)

-- in context, a pair lies in a system of the list exactly where it touches and is ordered
abbrev pub SystemsHoldOrderedPairs : Type 0
SystemsHoldOrderedPairs = (context : System) (sides : List Side) → IsContext context → All (SideFits context.shape.parameters) sides
    → (n : List ℤ) → LiesIn context [] [] n → (a b : Instance) → LiesInList context sides n a b ↔ IsOrdered sides n a b
