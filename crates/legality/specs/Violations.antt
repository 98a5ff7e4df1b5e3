-- The violation systems of an edited SCoP: each holds the pairs of instances that a dependence orders and the new schedules reverse.
use Rattle.std.specs.Prelude.{ℕ, List, map, max, ◌++◌}
use Rattle.std.specs.List.{flat_map}
use Rattle.relation_core.specs.Systems.{System}
use Rattle.elim_core.specs.Peaks.{Peak, peak}
use Rattle.scop_data.specs.declared.schedules.Schedule.{Schedule}
use Rattle.scop_core.specs.ScopData.{ScopData}
use Rattle.scop_core.specs.LevelOrder.{levels_between}
use Rattle.clay_commands.specs.declared.edited.Edited.{Edited}
use Rattle.dependence_systems.specs.declared.dependences.Dep.{Dep}
use Rattle.dependence_systems.specs.Sides.{member, schedule_in, sides}
use Rattle.dependence_systems.specs.Entries.{entries}
use Rattle.dependence_systems.specs.Systems.{Pairing, pairing_of, widths_of, level_system, system_weight}
use Rattle.legality.specs.Mixed.{mixed_sides}
use Rattle.legality.specs.Reversals.{reversed_rows, reversed_weight}

-- an edited SCoP: the old one, the new one, and the number in the old one of the original of each new statement
pub record Edit : Type 0 where
  pub old : ScopData
  pub now : ScopData
  pub of : List ℕ

-- what a script makes of a SCoP, as an edit
abbrev pub edit_of : ScopData → Edited → Edit
edit_of S made = record { old = S; now = made.scop; of = made.of }

-- the dependences of the new statements in the order of their originals
abbrev pub dependences : Edit → List Dep
dependences E = entries (sides E.old E.now E.of)

-- one violation: a dependence, and the level at which the new schedules reverse it
pub record Violation : Type 0 where
  pub entry : Dep
  pub level : ℕ

-- the schedule of a new statement, by its number
abbrev pub new_schedule : Edit → ℕ → Schedule
new_schedule E k = schedule_in (member E.now.statements k)

-- the levels at which the new schedules can put the target of a dependence before its source
abbrev pub new_levels : Edit → Dep → List ℕ
new_levels E e = levels_between (new_schedule E e.target).betas (new_schedule E e.source).betas

-- the violations of a dependence, by level; it may have none
abbrev pub violations_of : Edit → Dep → List Violation
violations_of E e = map (λ level. record { entry = e; level = level }) (new_levels E e)

-- all violations, by dependence; they are numbered from 1 in this order
abbrev pub violations : Edit → List Violation
violations E = flat_map (λ e. violations_of E e) (dependences E)

-- what the system of a dependence is made of, with the order of the originals over the floors of the new schedules
abbrev pub shared_pairing : Edit → Dep → Pairing
shared_pairing E e = pairing_of E.now.context (mixed_sides E.old E.now E.of) e

-- that system: its rows are those that the systems of all violations of the dependence share
abbrev pub shared_system : Edit → Dep → System
shared_system E e = level_system (shared_pairing E e) e.level

-- the system of a violation
abbrev pub violation_system : Edit → Violation → System
violation_system E v =
    let shared = shared_system E v.entry in
    let w = widths_of (shared_pairing E v.entry) in
    record shared { rows = shared.rows ++ reversed_rows w (new_schedule E v.entry.source) (new_schedule E v.entry.target) v.level }

-- the greatest sum of the absolute values of an entry's summands in it
abbrev pub violation_weight : Edit → Violation → ℕ
violation_weight E v =
    max (system_weight (shared_pairing E v.entry) v.entry.level) (reversed_weight (new_schedule E v.entry.source) (new_schedule E v.entry.target) v.level)

-- the greatest number that the stated elimination of the system meets, sums of summands included, and the most rows
abbrev pub violation_peak : Edit → Violation → Peak
violation_peak E v = let stated = peak (violation_system E v) in record { weight = max (violation_weight E v) stated.weight; rows = stated.rows }
