-- What an entry of the list names in two SCoPs.
use Rattle.std.specs.Prelude.{ℕ, ◌<◌, ◌^◌, List, length, IsSomeAnd, IsSome}
use Rattle.relation_core.specs.Systems.{HasLimits}
use Rattle.scop_data.specs.declared.schedules.Schedule.{Schedule}
use Rattle.scop_data.specs.declared.statements.Statement.{Statement}
use Rattle.scop_core.specs.LevelOrder.{IsLevel}
use Rattle.dependence_systems.specs.Sides.{member}
use Rattle.dependence_systems.specs.Fits.{PairingFits}
use Rattle.dependence_systems.specs.Systems.{Pairing, system_shape}

-- there is a statement of number k with an access and a domain part of these numbers, and it has an original
pub record HasSide (old now : List Statement) (originals : List ℕ) (k access part : ℕ) : Type 0 where
  pub statement : IsSomeAnd (member now k) (λ s. IsSome (member s.accesses access) × IsSome (member s.domain part))
  pub original : IsSomeAnd (member originals k) (λ j. IsSome (member old j))

-- the system of a level can be built
pub record IsReady (m : Pairing) (level : ℕ) : Type 0 where
  pub limits : HasLimits (system_shape m)
  pub fits : PairingFits m
  pub is_level : IsLevel m.source_schedule.betas m.target_schedule.betas level

-- the parts, accesses and betas of a statement under a schedule can be counted in 32 bits
pub record IsCounted (statement : Statement) (schedule : Schedule) : Type 0 where
  pub parts : length statement.domain < 2 ^ 32
  pub accesses : length statement.accesses < 2 ^ 32
  pub betas : length schedule.betas < 2 ^ 32
