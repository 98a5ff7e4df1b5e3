-- When the rows of a system are as wide as its columns.
use Rattle.std.specs.Prelude.{◌≡◌, ℕ, ◌+◌, List, length, All}
use Rattle.relation_core.specs.Systems.{System, HasLimits}
use Rattle.scop_data.specs.declared.affines.Affine.{Affine}
use Rattle.scop_data.specs.declared.schedules.Schedule.{Schedule}
use Rattle.dependence_systems.specs.declared.widths.Widths.{Widths}
use Rattle.scop_core.specs.SolvedRows.{HasSizes, HasRelation}
use Rattle.scop_core.specs.Held.{IsFormed}
use Rattle.scop_core.specs.Printable.{IsContext, IsDomainPart}
use Rattle.scop_core.specs.ReadBack.{IsSolvedSchedule, IsSolvedAccess}
use Rattle.dependence_systems.specs.Sides.{Side}
use Rattle.dependence_systems.specs.Systems.{Pairing, system_shape}

-- the domain, the accesses and the schedule of a side have its iterators and so many parameters
pub record SideFits (parameters : ℕ) (side : Side) : Type 0 where
  pub domain : All (IsDomainPart side.iterators parameters) side.domain
  pub formed : All IsFormed side.domain
  pub accesses : All (IsSolvedAccess side.iterators parameters) side.accesses
  pub schedule : IsSolvedSchedule side.iterators parameters side.schedule

-- levels have a coefficient for each iterator, each floor and each parameter
pub record LevelsFit (w : Widths) (parameters : ℕ) (xs ys : List Affine) : Type 0 where
  pub source : All (HasSizes w.source w.source_floors parameters) xs
  pub target : All (HasSizes w.target w.target_floors parameters) ys

-- so have those of two schedules, which have one beta more than levels
pub record SchedulesFit (w : Widths) (parameters : ℕ) (source target : Schedule) : Type 0 where
  pub source_levels : All (HasSizes w.source w.source_floors parameters) source.levels
  pub target_levels : All (HasSizes w.target w.target_floors parameters) target.levels
  pub source_betas : length source.betas ≡ length source.levels + 1
  pub target_betas : length target.betas ≡ length target.levels + 1

-- subscripts have a coefficient for each iterator and each parameter, and none for floors
abbrev pub SubscriptsFit : ℕ → ℕ → List Affine → Type 0
SubscriptsFit iterators parameters subscripts = All (HasSizes iterators 0 parameters) subscripts

-- the context, two domain parts and two schedules fit together
pub record GroundsFit (context source_part target_part : System) (source target : Schedule) : Type 0 where
  pub is_context : IsContext context
  pub source_domain : IsDomainPart source_part.shape.outputs context.shape.parameters source_part
  pub target_domain : IsDomainPart target_part.shape.outputs context.shape.parameters target_part
  pub source_relation : HasRelation source_part.shape.outputs context.shape.parameters source
  pub target_relation : HasRelation target_part.shape.outputs context.shape.parameters target

-- what a system is made of fits together
pub record PairingFits (m : Pairing) : Type 0 where
  pub context : IsContext m.context
  pub source_part : IsDomainPart m.source_part.shape.outputs m.context.shape.parameters m.source_part
  pub target_part : IsDomainPart m.target_part.shape.outputs m.context.shape.parameters m.target_part
  pub source_formed : IsFormed m.source_part
  pub target_formed : IsFormed m.target_part
  pub subscripts : length m.source_access.subscripts ≡ length m.target_access.subscripts
  pub source_subscripts : SubscriptsFit m.source_part.shape.outputs m.context.shape.parameters m.source_access.subscripts
  pub target_subscripts : SubscriptsFit m.target_part.shape.outputs m.context.shape.parameters m.target_access.subscripts
  pub source_schedule : IsSolvedSchedule m.source_part.shape.outputs m.context.shape.parameters m.source_schedule
  pub target_schedule : IsSolvedSchedule m.target_part.shape.outputs m.context.shape.parameters m.target_schedule

-- the rows of its systems can be built
pub record IsBuildable (m : Pairing) : Type 0 where
  pub limits : HasLimits (system_shape m)
  pub fits : PairingFits m
