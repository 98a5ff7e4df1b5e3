-- The limits that every valid SCoP keeps, and its valid schedules.
use Rattle.std.specs.Prelude.{◌≤◌, length, All}
use Rattle.suite_base.specs.Limits.{max_statements, max_iterators, max_parameters, max_levels, max_locals, max_rows, max_parts, max_accesses, max_subscripts, max_arrays}
use Rattle.scop_data.specs.declared.statements.Statement.{Statement}
use Rattle.scop_data.specs.ScopData.{ScopData, arrays_of}
use Rattle.scop_data.specs.Theorems.{HasValidSchedules}
use Rattle.scop_core.specs.Validity.{IsValid}

-- a statement keeps the limits of its domain, its schedule and its accesses
pub record StatementKeepsLimits (statement : Statement) : Type 0 where
  pub parts : length statement.domain ≤ max_parts
  pub locals : All (λ part. part.shape.locals ≤ max_locals) statement.domain
  pub rows : All (λ part. length part.rows ≤ max_rows) statement.domain
  pub iterators : length statement.body.iterators ≤ max_iterators
  pub levels : length statement.schedule.levels ≤ max_levels
  pub floors : length statement.schedule.floors ≤ max_locals
  pub accesses : length statement.accesses ≤ max_accesses
  pub subscripts : All (λ access. length access.subscripts ≤ max_subscripts) statement.accesses

-- a SCoP keeps the limits of the whole, and each of its statements its own
pub record KeepsLimits (scop : ScopData) : Type 0 where
  pub statements : length scop.statements ≤ max_statements
  pub parameters : scop.context.shape.parameters ≤ max_parameters
  pub rows : length scop.context.rows ≤ max_rows
  pub arrays : length (arrays_of scop) ≤ max_arrays
  pub each : All StatementKeepsLimits scop.statements

-- every valid SCoP keeps all limits
abbrev pub ValidScopsKeepLimits : Type 0
ValidScopsKeepLimits = (S : ScopData) → IsValid S → KeepsLimits S

-- the schedules of a valid SCoP are valid
abbrev pub ValidScopsHaveValidSchedules : Type 0
ValidScopsHaveValidSchedules = (S : ScopData) → IsValid S → HasValidSchedules S.statements
