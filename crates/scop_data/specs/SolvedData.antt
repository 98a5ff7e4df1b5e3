-- When schedules and accesses can be printed, and when they are what their own rows say.
use Rattle.std.specs.Prelude.{pos, ◌≤ℤ◌, ℕ, ◌≡◌, ◌<◌, ◌≤◌, All, List, length, get_or}
use Rattle.row_core.specs.Rows.{entry}
use Rattle.scop_data.specs.declared.schedules.Floor.{Floor}
use Rattle.scop_data.specs.declared.schedules.Schedule.{Schedule}
use Rattle.scop_data.specs.declared.accesses.Access.{Access}
use Rattle.scop_data.specs.declared.statements.Statement.{Statement}
use Rattle.scop_data.specs.SolvedRows.{HasSizes, HasRelation, HasAccessRelation}

-- the schedule and the accesses of a statement can be printed
pub record HasRelations (parameters : ℕ) (statement : Statement) : Type 0 where
  pub schedule : HasRelation (length statement.body.iterators) parameters statement.schedule
  pub accesses : All (HasAccessRelation (length statement.body.iterators) parameters) statement.accesses

-- the value of a floor has coefficient 0 for the floors from place k on
abbrev pub UsesEarlier : ℕ → Floor → Type 0
UsesEarlier k floor = (j : ℕ) → k ≤ j → entry floor.value.floors j ≡ pos 0

-- floors with forms over so many iterators and parameters and all of the floors; each has a size of at
-- least 1 and uses earlier floors alone
pub record AreSolvedFloors (iterators parameters : ℕ) (floors : List Floor) : Type 0 where
  pub forms : All (λ floor. HasSizes iterators (length floors) parameters floor.value) floors
  pub sizes : All (λ floor. pos 1 ≤ℤ floor.size) floors
  pub earlier : (k : ℕ) (floor : Floor) → k < length floors → UsesEarlier k (get_or floors k floor)

-- a schedule that can be printed, in which each floor has a size of at least 1 and uses earlier floors alone
pub record IsSolvedSchedule (iterators parameters : ℕ) (schedule : Schedule) : Type 0 where
  pub relation : HasRelation iterators parameters schedule
  pub sizes : All (λ floor. pos 1 ≤ℤ floor.size) schedule.floors
  pub earlier : (k : ℕ) (floor : Floor) → k < length schedule.floors → UsesEarlier k (get_or schedule.floors k floor)

-- an access that can be printed, to an array with an identifier of at least 1
pub record IsSolvedAccess (iterators parameters : ℕ) (access : Access) : Type 0 where
  pub relation : HasAccessRelation iterators parameters access
  pub identifier : pos 1 ≤ℤ access.array

-- the schedule and the accesses of a statement are in solved form
pub record IsSolvedStatement (parameters : ℕ) (statement : Statement) : Type 0 where
  pub schedule : IsSolvedSchedule (length statement.body.iterators) parameters statement.schedule
  pub accesses : All (IsSolvedAccess (length statement.body.iterators) parameters) statement.accesses
