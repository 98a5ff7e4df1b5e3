-- The laws of runs on which dependences and edits rest, for every SCoP.
use Rattle.std.specs.Prelude.{◌≡◌, ◌↔◌, ◌⊎◌, ℕ, ◌+◌, ◌<◌, ◌≤◌, List, length, ℤ, ◌<ℤ◌, true, false, map, pos}
use Rattle.row_core.specs.Rows.{entry}
use Rattle.scop_data.specs.declared.schedules.Schedule.{Schedule}
use Rattle.scop_data.specs.Order.{Before}
use Rattle.scop_data.specs.Sequences.{In, Precedes}
use Rattle.scop_data.specs.Meaning.{interleaved, stamp_of, Instance, IsInstance, stamp, event, Touch, Run, memory_after, Conflict}
use Rattle.scop_data.specs.LevelOrder.{common_loops, is_textually_before, EqualUpTo, LessAfter, IsLevel, levels_between, OrdersAt, level_values}
use Rattle.scop_data.specs.ScopData.{ScopData, betas_in}
use Rattle.scop_data.specs.Memory.{Memory}
use Rattle.scop_data.specs.Theorems.{HasValidSchedules}
use Rattle.row_core.specs.Dense.{dense_of}
use Rattle.scop_data.specs.DenseBetas.{dense_vector, densely_numbered}

-- the members of the list are the instances, in any order; an instance may stand in it more than once
pub record ListsInstances (S : ScopData) (n : List ℤ) (L : List Instance) : Type 0 where
  pub all : (a : Instance) → IsInstance S n a → In a L
  pub only : (a : Instance) → In a L → IsInstance S n a

-- instances with one stamp are one instance
abbrev pub HasNoTies : ScopData → List ℤ → Type 0
HasNoTies S n = (a b : Instance) → IsInstance S n a → IsInstance S n b → stamp S n a ≡ stamp S n b → a ≡ b

-- where the schedules are valid, the instances can be listed and no two have one stamp, there is a run
abbrev pub RunExists : Type 0
RunExists = (S : ScopData) → HasValidSchedules S.statements → (n : List ℤ) (L : List Instance) → ListsInstances S n L → HasNoTies S n
    → (M : List Instance) × Run S n M

-- an instance precedes another in a run exactly where both are in it and its stamp is before that of the other
abbrev pub PrecedesIsBefore : Type 0
PrecedesIsBefore = (S : ScopData) (n : List ℤ) (L : List Instance) → Run S n L → (a b : Instance)
    → Precedes L a b ↔ (In a L × In b L × Before (stamp S n a) (stamp S n b))

-- each member of the list has in T the event that its image under f has in S
abbrev pub HaveSameEvents : ScopData → ScopData → List ℤ → (Instance → Instance) → List Instance → Type 0
HaveSameEvents T S n f L = (a : Instance) → In a L → event T n a ≡ event S n (f a)

-- the steps of a list in T and those of its images in S give one memory
abbrev pub SameEventsGiveOneMemory : Type 0
SameEventsGiveOneMemory = (T S : ScopData) (n : List ℤ) (f : Instance → Instance) (L : List Instance) → HaveSameEvents T S n f L
    → (m : Memory) → memory_after T n L m ≡ memory_after S n (map f L) m

-- two instances of T touch exactly where the two of S with the same events do
abbrev pub SameEventsTouch : Type 0
SameEventsTouch = (T S : ScopData) (n : List ℤ) (a b c d : Instance) → event T n a ≡ event S n c → event T n b ≡ event S n d
    → Touch T n a b ↔ Touch S n c d

-- one stamp is before another exactly where the value of a loop around both is less and the values before it are equal, or all values of
-- these loops are equal and the first statement stands before the second one in the text
abbrev pub BeforeByLevels : Type 0
BeforeByLevels = (p q v w : List ℤ) → length p ≡ length v + 1 → length q ≡ length w + 1
    → Before (interleaved p v) (interleaved q w)
    ↔ (((n : ℕ) × (n < common_loops p q) × LessAfter n v w) ⊎ ((is_textually_before p q ≡ true) × EqualUpTo (common_loops p q) v w))

-- one stamp is before another exactly where one of their levels orders them
abbrev pub BeforeIsAtALevel : Type 0
BeforeIsAtALevel = (p q v w : List ℤ) → length p ≡ length v + 1 → length q ≡ length w + 1
    → Before (interleaved p v) (interleaved q w) ↔ ((l : ℕ) × IsLevel p q l × OrdersAt (common_loops p q) v w l)

-- with one beta vector, all loops are around both, and the text doesn't order
abbrev pub OneVectorHasAllLoops : Type 0
OneVectorHasAllLoops = (p v : List ℤ) → length p ≡ length v + 1 → (common_loops p p ≡ length v) × (is_textually_before p p ≡ false)

-- the loops around both are loops of each
abbrev pub LoopsAreCommon : Type 0
LoopsAreCommon = (p q v w : List ℤ) → length p ≡ length v + 1 → length q ≡ length w + 1
    → (common_loops p q ≤ length v) × (common_loops p q ≤ length w) × (common_loops p q ≡ common_loops q p)

-- the list has the levels and nothing else
abbrev pub LevelsAreListed : Type 0
LevelsAreListed = (p q : List ℤ) (l : ℕ) → In l (levels_between p q) ↔ IsLevel p q l

-- what orders two lists of values, entry by entry
pub record EntriesOrder (n : ℕ) (v w : List ℤ) : Type 0 where
  pub equal : (k : ℕ) → k < n → entry v k ≡ entry w k
  pub less : entry v n <ℤ entry w n

abbrev pub LevelsByEntries : Type 0
LevelsByEntries = (n : ℕ) (v w : List ℤ) → n ≤ length v → n ≤ length w
    → (EqualUpTo n v w ↔ ((k : ℕ) → k < n → entry v k ≡ entry w k))
    × (n < length v → n < length w → LessAfter n v w ↔ EntriesOrder n v w)

-- the stamps of two schedules are ordered exactly at one of their levels
abbrev pub SchedulesOrderAtALevel : Type 0
SchedulesOrderAtALevel = (s t : Schedule) → length s.betas ≡ length s.levels + 1 → length t.betas ≡ length t.levels + 1 → (x y n : List ℤ)
    → Before (stamp_of s x n) (stamp_of t y n)
    ↔ ((l : ℕ) × IsLevel s.betas t.betas l × OrdersAt (common_loops s.betas t.betas) (level_values s x n) (level_values t y n) l)

-- one stamp is before another exactly where it is with the dense vectors of their betas
abbrev pub DenseKeepsOrder : Type 0
DenseKeepsOrder = (vectors : List (List ℤ)) (p q v w : List ℤ) → In p vectors → In q vectors
    → Before (interleaved (dense_vector vectors p) v) (interleaved (dense_vector vectors q) w) ↔ Before (interleaved p v) (interleaved q w)

-- dense vectors have the levels between them that the vectors have
abbrev pub DenseKeepsLevels : Type 0
DenseKeepsLevels = (vectors : List (List ℤ)) (p q : List ℤ) → In p vectors → In q vectors
    → (common_loops (dense_vector vectors p) (dense_vector vectors q) ≡ common_loops p q)
    × (is_textually_before (dense_vector vectors p) (dense_vector vectors q) ≡ is_textually_before p q)

-- the vectors are those of the dense numbering
abbrev pub DenseVectorsAreTheirs : Type 0
DenseVectorsAreTheirs = (S : ScopData) → betas_in (densely_numbered S).statements ≡ map (λ v. map pos v) (dense_of (betas_in S.statements))

-- T has the instances of S, with the same events, and their stamps are ordered in the same way
pub record KeepsMeaning (T S : ScopData) (n : List ℤ) : Type 0 where
  pub instances : (a : Instance) → IsInstance T n a ↔ IsInstance S n a
  pub events : (a : Instance) → event T n a ≡ event S n a
  pub order : (a b : Instance) → Before (stamp T n a) (stamp T n b) ↔ Before (stamp S n a) (stamp S n b)

-- then they have the same runs and conflicts, and the same memory after any list of instances
pub record SameRuns (T S : ScopData) (n : List ℤ) : Type 0 where
  pub runs : (L : List Instance) → Run T n L ↔ Run S n L
  pub conflicts : (a b : Instance) → Conflict T n a b ↔ Conflict S n a b
  pub memories : (L : List Instance) (m : Memory) → memory_after T n L m ≡ memory_after S n L m

abbrev pub KeptMeaningHasSameRuns : Type 0
KeptMeaningHasSameRuns = (T S : ScopData) (n : List ℤ) → KeepsMeaning T S n → SameRuns T S n

-- the dense numbering keeps the meaning, and so a run with dense vectors is a run with the SCoP's own
abbrev pub DenseKeepsMeaning : Type 0
DenseKeepsMeaning = (S : ScopData) (n : List ℤ) → KeepsMeaning (densely_numbered S) S n

abbrev pub DenseKeepsRuns : Type 0
DenseKeepsRuns = (S : ScopData) (n : List ℤ) → SameRuns (densely_numbered S) S n

-- schedules that are valid stay so
abbrev pub DenseKeepsSchedulesValid : Type 0
DenseKeepsSchedulesValid = (S : ScopData) → HasValidSchedules S.statements → HasValidSchedules (densely_numbered S).statements
