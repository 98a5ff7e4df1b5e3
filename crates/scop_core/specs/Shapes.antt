-- What a valid SCoP knows of its shapes, of the sizes of its forms, and of the ranges of its coefficients.
use Rattle.std.specs.Prelude.{ℤ, ℕ, ◌^◌, ◌<◌, ◌≡◌, true, length, unsigned_abs, All, IfSome}
use Rattle.row_core.specs.Rows.{AreCoefficients}
use Rattle.scop_data.specs.declared.affines.Affine.{Affine}
use Rattle.scop_data.specs.declared.accesses.Access.{Access}
use Rattle.scop_data.specs.declared.schedules.Floor.{Floor}
use Rattle.scop_data.specs.declared.schedules.Schedule.{Schedule}
use Rattle.scop_data.specs.declared.statements.Statement.{Statement}
use Rattle.scop_data.specs.ScopData.{ScopData}
use Rattle.scop_core.specs.Held.{IsFormed}
use Rattle.scop_core.specs.Printable.{IsContext, IsDomainPart, has_part}
use Rattle.scop_data.specs.SolvedData.{IsSolvedSchedule, IsSolvedAccess}
use Rattle.scop_core.specs.Validity.{IsValid}

-- the domain has a part, and each of its parts has the iterators as outputs, no inputs and so many
-- parameters; the schedule and the accesses are in solved form over them
pub record IsShapedStatement (parameters : ℕ) (statement : Statement) : Type 0 where
  pub some_part : has_part statement.domain ≡ true
  pub domain : All (IsDomainPart (length statement.body.iterators) parameters) statement.domain
  pub schedule : IsSolvedSchedule (length statement.body.iterators) parameters statement.schedule
  pub accesses : All (IsSolvedAccess (length statement.body.iterators) parameters) statement.accesses

-- the context has parameters alone, and each statement fits them
pub record IsShapedScop (scop : ScopData) : Type 0 where
  pub context : IsContext scop.context
  pub statements : All (IsShapedStatement scop.context.shape.parameters) scop.statements

-- a coefficient is in range
abbrev pub IsInRange : ℤ → Type 0
IsInRange z = unsigned_abs z < 2 ^ 127

-- the coefficients and the constant of an affine value are in range
pub record AffineIsInRange (value : Affine) : Type 0 where
  pub iterators : AreCoefficients value.iterators
  pub floors : AreCoefficients value.floors
  pub parameters : AreCoefficients value.parameters
  pub constant : IsInRange value.constant

-- the value and the size of a floor are in range
pub record FloorIsInRange (floor : Floor) : Type 0 where
  pub value : AffineIsInRange floor.value
  pub size : IsInRange floor.size

-- every floor, level and beta of a schedule is in range
pub record ScheduleIsInRange (schedule : Schedule) : Type 0 where
  pub floors : All FloorIsInRange schedule.floors
  pub levels : All AffineIsInRange schedule.levels
  pub betas : All IsInRange schedule.betas

-- the identifier and every subscript of an access are in range
pub record AccessIsInRange (access : Access) : Type 0 where
  pub array : IsInRange access.array
  pub subscripts : All AffineIsInRange access.subscripts

-- the rows of each domain part are as wide as its shape, and all coefficients are in range
pub record IsFormedStatement (statement : Statement) : Type 0 where
  pub domain : All IsFormed statement.domain
  pub schedule : ScheduleIsInRange statement.schedule
  pub accesses : All AccessIsInRange statement.accesses

-- the rows of the context are as wide as its shape, and all coefficients and identifiers are in range
pub record IsFormedScop (scop : ScopData) : Type 0 where
  pub context : IsFormed scop.context
  pub statements : All IsFormedStatement scop.statements
  pub arrays : IfSome scop.arrays (All (λ array. IsInRange array.0))

-- a valid SCoP has these shapes
abbrev pub ValidScopsAreShaped : Type 0
ValidScopsAreShaped = (S : ScopData) → IsValid S → IsShapedScop S

-- and its rows and coefficients are formed so
abbrev pub ValidScopsAreFormed : Type 0
ValidScopsAreFormed = (S : ScopData) → IsValid S → IsFormedScop S
