-- The two sides of a dependence: statements, each with the schedule by which its instances are ordered.
use Rattle.std.specs.Prelude.{ℕ, zero, suc, List, [], ◌∷◌, map, length, slice_get, Option, Some, None}
use Rattle.relation_core.specs.Systems.{System}
use Rattle.scop_data.specs.declared.accesses.Access.{Access}
use Rattle.scop_data.specs.declared.schedules.Schedule.{Schedule}
use Rattle.scop_data.specs.declared.statements.Statement.{Statement}
use Rattle.scop_core.specs.ScopData.{ScopData}

-- a statement as a source or a target: the number of its iterators, its domain, its accesses and a schedule
pub record Side : Type 0 where
  pub iterators : ℕ
  pub domain : List System
  pub accesses : List Access
  pub schedule : Schedule

-- member number k of a list, from 1
abbrev pub member : {X : Type 0} → List X → ℕ → Option X
member xs zero = None
member xs (suc k) = slice_get xs k

-- what was found, or what stands for it
abbrev pub member_or : {X : Type 0} → X → Option X → X
member_or nothing None = nothing
member_or nothing (Some x) = x

-- the schedule of nothing
abbrev pub no_schedule : Schedule
no_schedule = record { floors = []; levels = []; betas = [] }

-- the schedule of statement number k, from 1
abbrev pub schedule_in : Option Statement → Schedule
schedule_in None = no_schedule
schedule_in (Some s) = s.schedule

-- a statement under a schedule
abbrev pub under : Statement → Schedule → Side
under s schedule = record { iterators = length s.body.iterators; domain = s.domain; accesses = s.accesses; schedule = schedule }

-- the side of nothing
abbrev pub no_side : Side
no_side = record { iterators = 0; domain = []; accesses = []; schedule = no_schedule }

-- each statement under the schedule of its original, which is known by its number
abbrev pub under_originals : List Statement → List Statement → List ℕ → List Side
under_originals old [] of = []
under_originals old (s ∷ now) [] = []
under_originals old (s ∷ now) (k ∷ of) = under s (schedule_in (member old k)) ∷ under_originals old now of

-- the statements of `now` under the schedules that their originals have in `old`
abbrev pub sides : ScopData → ScopData → List ℕ → List Side
sides old now of = under_originals old.statements now.statements of

-- the statements of one SCoP under their own schedules
abbrev pub own_sides : ScopData → List Side
own_sides S = map (λ s. under s s.schedule) S.statements
