-- Runs of two SCoPs whose instances a map joins.
use Rattle.std.specs.Prelude.{◌≡◌, ◌↔◌, List, [], map, ℤ}
use Rattle.scop_data.specs.declared.statements.Statement.{Statement}
use Rattle.scop_data.specs.ScopData.{ScopData}
use Rattle.scop_data.specs.Order.{Before}
use Rattle.scop_data.specs.Memory.{Memory, Agree}
use Rattle.scop_data.specs.Meaning.{Instance, IsInstance, stamp, event, Touch, Run, memory_after}
use Rattle.scop_data.specs.Theorems.{HasValidSchedules}
use Rattle.scop_data.specs.RunLaws.{HasNoTies, KeepsMeaning}

-- f takes each instance of T to one of S with the same event, and each of S comes from exactly one
pub record MapsInstances (T S : ScopData) (n : List ℤ) (f : Instance → Instance) : Type 0 where
  pub into : (a : Instance) → IsInstance T n a → IsInstance S n (f a)
  pub onto : (b : Instance) → IsInstance S n b → (a : Instance) × IsInstance T n a × (f a ≡ b)
  pub once : (a b : Instance) → IsInstance T n a → IsInstance T n b → f a ≡ f b → a ≡ b
  pub events : (a : Instance) → IsInstance T n a → event T n a ≡ event S n (f a)

-- two instances of T touch, their images run in S in this order, and they run in T in the other one
pub record IsReversed (T S : ScopData) (n : List ℤ) (f : Instance → Instance) (a b : Instance) : Type 0 where
  pub source : IsInstance T n a
  pub target : IsInstance T n b
  pub touch : Touch T n a b
  pub before : Before (stamp S n (f a)) (stamp S n (f b))
  pub after : Before (stamp T n b) (stamp T n a)

-- where S has a run, T has valid schedules and no two instances with one stamp, T has a run
abbrev pub MappedRunExists : Type 0
MappedRunExists = (T S : ScopData) (n : List ℤ) (f : Instance → Instance) (L : List Instance) → MapsInstances T S n f → Run S n L
    → HasValidSchedules T.statements → HasNoTies T n → (M : List Instance) × Run T n M

-- where no two instances are reversed, the runs give one memory
abbrev pub NothingReversedKeepsMemory : Type 0
NothingReversedKeepsMemory = (T S : ScopData) (n : List ℤ) (f : Instance → Instance) (L M : List Instance) → MapsInstances T S n f → Run S n L → Run T n M
    → ((a b : Instance) → ¬ IsReversed T S n f a b) → (m : Memory) → Agree (memory_after S n L m) (memory_after T n M m)

-- the statement without its extensions
abbrev pub bare : Statement → Statement
bare s = record s { extensions = [] }

-- extensions of statements, and all of a SCoP that is no statement, have no part in what it means
abbrev pub StatementsMeanAll : Type 0
StatementsMeanAll = (T S : ScopData) (n : List ℤ) → map bare T.statements ≡ map bare S.statements
    → KeepsMeaning T S n × (HasValidSchedules T.statements ↔ HasValidSchedules S.statements)

-- what keeps the meaning twice keeps it
abbrev pub MeaningIsKeptOn : Type 0
MeaningIsKeptOn = (T S R : ScopData) (n : List ℤ) → KeepsMeaning T S n → KeepsMeaning S R n → KeepsMeaning T R n
