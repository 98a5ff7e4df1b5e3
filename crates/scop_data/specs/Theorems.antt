-- The laws of runs, for every SCoP.
use Rattle.std.specs.Prelude.{◌≡◌, ◌≢◌, ◌⊎◌, ℕ, ◌+◌, List, length, ℤ, pos, ◌*ℤ◌, ◌≤ℤ◌, Some}
use Rattle.scop_data.specs.declared.statements.Statement.{Statement}
use Rattle.scop_data.specs.ScopData.{ScopData}
use Rattle.scop_data.specs.Order.{Before, IsPrefix}
use Rattle.scop_data.specs.Sequences.{In, Precedes, Distinct, SameOrder}
use Rattle.scop_data.specs.Memory.{Memory, Agree}
use Rattle.scop_data.specs.Meaning.{Instance, statement_at, IsInstance, floor_of, stamp, step, Touch, Conflict, Run, memory_after}

-- s is statement number k
abbrev pub IsStatement : List Statement → ℕ → Statement → Type 0
IsStatement statements k s = statement_at statements k ≡ Some s

-- each statement has one beta more than levels, and no beta vector is another statement's or the beginning of one
pub record HasValidSchedules (statements : List Statement) : Type 0 where
  pub sizes : (k : ℕ) (s : Statement) → IsStatement statements k s → length s.schedule.betas ≡ length s.schedule.levels + 1
  pub apart : (j k : ℕ) (s t : Statement) → IsStatement statements j s → IsStatement statements k t → j ≢ k → ¬ IsPrefix s.schedule.betas t.schedule.betas

-- the floor is at most e / s, and every integer that is at most e / s is at most the floor
abbrev pub FloorIsGreatest : Type 0
FloorIsGreatest = (e s : ℤ) → pos 1 ≤ℤ s → ((s *ℤ floor_of e s) ≤ℤ e) × ((k : ℤ) → (s *ℤ k) ≤ℤ e → k ≤ℤ floor_of e s)

-- a stamp before a second one, and that before a third one, is before the third one
abbrev pub BeforeIsTransitive : Type 0
BeforeIsTransitive = (p q r : List ℤ) → Before p q → Before q r → Before p r

-- no stamp is before itself; with the law above, of two stamps at most one is before the other
abbrev pub BeforeIsIrreflexive : Type 0
BeforeIsIrreflexive = (p : List ℤ) → ¬ Before p p

-- of two instances one is before the other, or they have one stamp
abbrev pub StampsAreOrdered : Type 0
StampsAreOrdered = (S : ScopData) → HasValidSchedules S.statements → (n : List ℤ) (a b : Instance) → IsInstance S n a → IsInstance S n b
    → Before (stamp S n a) (stamp S n b) ⊎ (Before (stamp S n b) (stamp S n a) ⊎ (stamp S n a ≡ stamp S n b))

-- the stamps of two statements differ at a place that both have
abbrev pub StatementsAreOrdered : Type 0
StatementsAreOrdered = (S : ScopData) → HasValidSchedules S.statements → (n : List ℤ) (a b : Instance) → IsInstance S n a → IsInstance S n b
    → a.statement ≢ b.statement → Before (stamp S n a) (stamp S n b) ⊎ Before (stamp S n b) (stamp S n a)

-- there is at most one run
abbrev pub RunIsUnique : Type 0
RunIsUnique = (S : ScopData) (n : List ℤ) (L M : List Instance) → Run S n L → Run S n M → L ≡ M

-- steps of instances that don't touch give one memory in either order
abbrev pub StepsCommute : Type 0
StepsCommute = (S : ScopData) (n : List ℤ) (a b : Instance) → ¬ Touch S n a b → (m : Memory) → Agree (step S n a (step S n b m)) (step S n b (step S n a m))

-- two lists of the same instances, each once, in which any two that touch stand in the same order, give one memory
abbrev pub ReorderingKeepsMemory : Type 0
ReorderingKeepsMemory = (S : ScopData) (n : List ℤ) (L M : List Instance) → SameOrder Instance (Touch S n) L M → (m : Memory) → Agree (memory_after S n L m) (memory_after S n M m)

-- two instances with one stamp are one, where there is a run
abbrev pub RunHasNoTies : Type 0
RunHasNoTies = (S : ScopData) (n : List ℤ) (L : List Instance) → Run S n L → (a b : Instance) → IsInstance S n a → IsInstance S n b → stamp S n a ≡ stamp S n b → a ≡ b

-- M has the members of L, each once, and of each conflict the first member stands before the second one
pub record KeepsConflicts (S : ScopData) (n : List ℤ) (L M : List Instance) : Type 0 where
  pub once : Distinct M
  pub into : (a : Instance) → In a L → In a M
  pub back : (a : Instance) → In a M → In a L
  pub order : (a b : Instance) → Conflict S n a b → Precedes M a b

-- an order of a run's instances that keeps every conflict gives the run's memory
abbrev pub KeptConflictsKeepMemory : Type 0
KeptConflictsKeepMemory = (S : ScopData) (n : List ℤ) (L M : List Instance) → Run S n L → KeepsConflicts S n L M → (m : Memory) → Agree (memory_after S n L m) (memory_after S n M m)
