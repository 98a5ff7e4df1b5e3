-- The statements of an edited SCoP, ordered as before: the betas and levels of the original over the floors of the edited statement.
use Rattle.std.specs.Prelude.{ℕ, ◌-◌, List, [], ◌∷◌, ◌++◌, length, map}
use Rattle.scop_data.specs.declared.affines.Affine.{Affine}
use Rattle.scop_data.specs.declared.schedules.Schedule.{Schedule}
use Rattle.scop_data.specs.declared.statements.Statement.{Statement}
use Rattle.scop_core.specs.ScopData.{ScopData}
use Rattle.scop_core.specs.SolvedRows.{zeros}
use Rattle.dependence_systems.specs.Sides.{Side, member, schedule_in, under}
use Rattle.dependence_systems.specs.Sides.{member_or}

-- the form with coefficients of so many floors: the missing ones are 0
abbrev pub padded : ℕ → Affine → Affine
padded n form = record form { floors = form.floors ++ zeros (n - length form.floors) }

-- the betas and levels of one schedule over the floors of another, which begin with its own
abbrev pub mixed : Schedule → Schedule → Schedule
mixed old now = record { floors = now.floors; levels = map (padded (length now.floors)) old.levels; betas = old.betas }

-- each statement under the order of its original, which is known by its number
abbrev pub mixed_originals : List Statement → List Statement → List ℕ → List Side
mixed_originals old [] of = []
mixed_originals old (s ∷ now) [] = []
mixed_originals old (s ∷ now) (k ∷ of) = under s (mixed (schedule_in (member old k)) s.schedule) ∷ mixed_originals old now of

-- the statements of `now` under the orders that their originals have in `old`
abbrev pub mixed_sides : ScopData → ScopData → List ℕ → List Side
mixed_sides old now of = mixed_originals old.statements now.statements of

-- the schedule of the original of statement number k
abbrev pub old_schedule : List Statement → List ℕ → ℕ → Schedule
old_schedule old of k = schedule_in (member old (member_or 0 (member of k)))

-- the order of its original over its floors
abbrev pub mixed_at : List Statement → List Statement → List ℕ → ℕ → Schedule
mixed_at old now of k = mixed (old_schedule old of k) (schedule_in (member now k))
