use Rattle.std.proofs.Common.{◌∙◌, [], List, ℤ, length, ap, sym, subst}
use Rattle.scop_data.specs.declared.affines.Affine.{Affine}
use Rattle.scop_data.specs.declared.schedules.Schedule.{Schedule}
use Rattle.scop_data.specs.declared.schedules.Floor.{Floor}
use Rattle.scop_data.specs.SolvedRows.{HasRelation}
use Rattle.clan_extract.specs.Scops.{levels}
use Rattle.clan_walk.specs.Walk.{signs}
use Rattle.clan_walk.proofs.Scattered.{schedule_printable}
use Rattle.clan_walk.proofs.scatterings.scattering.Goals as goal

abbrev schedule_of : List Floor → List Affine → List ℤ → Schedule
schedule_of floors levels betas = record { floors = floors; levels = levels; betas = betas }

pub relation-requires : goal.relation-requires
relation-requires c =
    subst (λ schedule. HasRelation (length c.args.turns.now) c.args.parameters schedule)
    (sym (
    ap (λ floors. schedule_of floors c.in_ok-levels_of.field-0 c.in_ok-betas_of.field-0) c.new.ensures
    ∙ ap (λ values. schedule_of [] values c.in_ok-betas_of.field-0) c.in_ok-levels_of.ensures
    ∙ ap (λ betas. schedule_of [] (levels c.args.parameters (signs c.args.turns.now)) betas) c.in_ok-betas_of.ensures
    ))
    (schedule_printable c.args.turns.now c.args.next c.args.parameters c.requires.loops c.requires.parameters)
