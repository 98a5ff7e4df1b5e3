use Rattle.std.proofs.Common.{◌≡◌, ap, sym, ◌∙◌, subst}
use Rattle.scop_core.specs.LevelOrder.{IsLevel}
use Rattle.dependence_systems.specs.Sides.{sides}
use Rattle.dependence_systems.specs.Systems.{Pairing, pairing, pairing_of}
use Rattle.dependence_systems.proofs.NamedSides.{has_source, has_target, statement_there, number_there, original_there, access_there, part_there, found_by, pairing_found, found_ready}
use Rattle.dependence_systems.proofs.systems.pairing_for.Goals as goal

pub numbered-source-requires : goal.numbered-source-requires
numbered-source-requires c =
    statement_there c.args.old.now.statements c.args.now.now.statements c.args.pieces.now c.args.dep.now.source c.args.dep.now.source_access c.args.dep.now.source_part c.statements.result.now (has_source c.args.old.now c.args.now.now c.args.pieces.now c.args.dep.now c.requires.originals c.requires.listed) c.statements.ensures.answer

pub numbered-target-requires : goal.numbered-target-requires
numbered-target-requires c =
    statement_there c.args.old.now.statements c.args.now.now.statements c.args.pieces.now c.args.dep.now.target c.args.dep.now.target_access c.args.dep.now.target_part c.statements-2.result.now (has_target c.args.old.now c.args.now.now c.args.pieces.now c.args.dep.now c.requires.originals c.requires.listed) c.statements-2.ensures.answer

pub original_of-requires : goal.original_of-requires
original_of-requires c =
    number_there c.args.old.now.statements c.args.now.now.statements c.args.pieces.now c.args.dep.now.source c.args.dep.now.source_access c.args.dep.now.source_part (has_source c.args.old.now c.args.now.now c.args.pieces.now c.args.dep.now c.requires.originals c.requires.listed)

pub original_of-requires-2 : goal.original_of-requires-2
original_of-requires-2 c =
    number_there c.args.old.now.statements c.args.now.now.statements c.args.pieces.now c.args.dep.now.target c.args.dep.now.target_access c.args.dep.now.target_part (has_target c.args.old.now c.args.now.now c.args.pieces.now c.args.dep.now c.requires.originals c.requires.listed)

pub numbered-source_old-requires : goal.numbered-source_old-requires
numbered-source_old-requires c =
    original_there c.args.old.now.statements c.args.now.now.statements c.args.pieces.now c.args.dep.now.source c.args.dep.now.source_access c.args.dep.now.source_part c.original_of.result c.statements-3.result.now (has_source c.args.old.now c.args.now.now c.args.pieces.now c.args.dep.now c.requires.originals c.requires.listed) c.statements-3.ensures.answer c.original_of.ensures

pub numbered-target_old-requires : goal.numbered-target_old-requires
numbered-target_old-requires c =
    original_there c.args.old.now.statements c.args.now.now.statements c.args.pieces.now c.args.dep.now.target c.args.dep.now.target_access c.args.dep.now.target_part c.original_of-2.result c.statements-4.result.now (has_target c.args.old.now c.args.now.now c.args.pieces.now c.args.dep.now c.requires.originals c.requires.listed) c.statements-4.ensures.answer c.original_of-2.ensures

pub numbered-source_part-requires : goal.numbered-source_part-requires
numbered-source_part-requires c =
    part_there c.args.old.now.statements c.args.now.now.statements c.args.pieces.now c.args.dep.now.source c.args.dep.now.source_access c.args.dep.now.source_part c.statements.result.now c.numbered-source.result.now c.parts.result.now (has_source c.args.old.now c.args.now.now c.args.pieces.now c.args.dep.now c.requires.originals c.requires.listed) c.statements.ensures.answer c.numbered-source.ensures c.parts.ensures

pub numbered-target_part-requires : goal.numbered-target_part-requires
numbered-target_part-requires c =
    part_there c.args.old.now.statements c.args.now.now.statements c.args.pieces.now c.args.dep.now.target c.args.dep.now.target_access c.args.dep.now.target_part c.statements-2.result.now c.numbered-target.result.now c.parts-2.result.now (has_target c.args.old.now c.args.now.now c.args.pieces.now c.args.dep.now c.requires.originals c.requires.listed) c.statements-2.ensures.answer c.numbered-target.ensures c.parts-2.ensures

pub numbered-source_access-requires : goal.numbered-source_access-requires
numbered-source_access-requires c =
    access_there c.args.old.now.statements c.args.now.now.statements c.args.pieces.now c.args.dep.now.source c.args.dep.now.source_access c.args.dep.now.source_part c.statements.result.now c.numbered-source.result.now c.as_slice.result.now (has_source c.args.old.now c.args.now.now c.args.pieces.now c.args.dep.now c.requires.originals c.requires.listed) c.statements.ensures.answer c.numbered-source.ensures c.as_slice.ensures

pub numbered-target_access-requires : goal.numbered-target_access-requires
numbered-target_access-requires c =
    access_there c.args.old.now.statements c.args.now.now.statements c.args.pieces.now c.args.dep.now.target c.args.dep.now.target_access c.args.dep.now.target_part c.statements-2.result.now c.numbered-target.result.now c.as_slice-2.result.now (has_target c.args.old.now c.args.now.now c.args.pieces.now c.args.dep.now c.requires.originals c.requires.listed) c.statements-2.ensures.answer c.numbered-target.ensures c.as_slice-2.ensures

found_before : (c : goal.After-context) → pairing_of c.args.now.now.context (sides c.args.old.now c.args.now.now c.args.pieces.now) c.args.dep.now
    ≡ pairing c.context.result.now c.numbered-source_part.result.now c.numbered-target_part.result.now c.numbered-source_access.result.now c.numbered-target_access.result.now c.numbered-source_old.result.now.schedule c.numbered-target_old.result.now.schedule
found_before c =
    pairing_found c.args.old.now c.args.now.now c.args.pieces.now c.args.dep.now c.requires.originals
    c.numbered-source.result.now c.numbered-source_old.result.now c.numbered-target.result.now c.numbered-target_old.result.now c.original_of.result c.original_of-2.result
    c.numbered-source_access.result.now c.numbered-target_access.result.now c.numbered-source_part.result.now c.numbered-target_part.result.now
    (found_by c.args.old.now.statements c.args.now.now.statements c.args.pieces.now c.args.dep.now.source c.args.dep.now.source_access c.args.dep.now.source_part c.original_of.result c.statements.result.now c.statements-3.result.now c.numbered-source.result.now c.numbered-source_old.result.now c.as_slice.result.now c.numbered-source_access.result.now c.parts.result.now c.numbered-source_part.result.now
    c.statements.ensures.answer c.numbered-source.ensures c.original_of.ensures c.statements-3.ensures.answer c.numbered-source_old.ensures c.as_slice.ensures c.numbered-source_access.ensures c.parts.ensures c.numbered-source_part.ensures)
    (found_by c.args.old.now.statements c.args.now.now.statements c.args.pieces.now c.args.dep.now.target c.args.dep.now.target_access c.args.dep.now.target_part c.original_of-2.result c.statements-2.result.now c.statements-4.result.now c.numbered-target.result.now c.numbered-target_old.result.now c.as_slice-2.result.now c.numbered-target_access.result.now c.parts-2.result.now c.numbered-target_part.result.now
    c.statements-2.ensures.answer c.numbered-target.ensures c.original_of-2.ensures c.statements-4.ensures.answer c.numbered-target_old.ensures c.as_slice-2.ensures c.numbered-target_access.ensures c.parts-2.ensures c.numbered-target_part.ensures)
    ∙ ap (λ context. pairing context c.numbered-source_part.result.now c.numbered-target_part.result.now c.numbered-source_access.result.now c.numbered-target_access.result.now c.numbered-source_old.result.now.schedule c.numbered-target_old.result.now.schedule) (sym c.context.ensures)

found_after : (c : goal.After-new) → pairing_of c.args.now.now.context (sides c.args.old.now c.args.now.now c.args.pieces.now) c.args.dep.now
    ≡ pairing c.context.result.now c.numbered-source_part.result.now c.numbered-target_part.result.now c.numbered-source_access.result.now c.numbered-target_access.result.now c.numbered-source_old.result.now.schedule c.numbered-target_old.result.now.schedule
found_after c =
    pairing_found c.args.old.now c.args.now.now c.args.pieces.now c.args.dep.now c.requires.originals
    c.numbered-source.result.now c.numbered-source_old.result.now c.numbered-target.result.now c.numbered-target_old.result.now c.original_of.result c.original_of-2.result
    c.numbered-source_access.result.now c.numbered-target_access.result.now c.numbered-source_part.result.now c.numbered-target_part.result.now
    (found_by c.args.old.now.statements c.args.now.now.statements c.args.pieces.now c.args.dep.now.source c.args.dep.now.source_access c.args.dep.now.source_part c.original_of.result c.statements.result.now c.statements-3.result.now c.numbered-source.result.now c.numbered-source_old.result.now c.as_slice.result.now c.numbered-source_access.result.now c.parts.result.now c.numbered-source_part.result.now
    c.statements.ensures.answer c.numbered-source.ensures c.original_of.ensures c.statements-3.ensures.answer c.numbered-source_old.ensures c.as_slice.ensures c.numbered-source_access.ensures c.parts.ensures c.numbered-source_part.ensures)
    (found_by c.args.old.now.statements c.args.now.now.statements c.args.pieces.now c.args.dep.now.target c.args.dep.now.target_access c.args.dep.now.target_part c.original_of-2.result c.statements-2.result.now c.statements-4.result.now c.numbered-target.result.now c.numbered-target_old.result.now c.as_slice-2.result.now c.numbered-target_access.result.now c.parts-2.result.now c.numbered-target_part.result.now
    c.statements-2.ensures.answer c.numbered-target.ensures c.original_of-2.ensures c.statements-4.ensures.answer c.numbered-target_old.ensures c.as_slice-2.ensures c.numbered-target_access.ensures c.parts-2.ensures c.numbered-target_part.ensures)
    ∙ ap (λ context. pairing context c.numbered-source_part.result.now c.numbered-target_part.result.now c.numbered-source_access.result.now c.numbered-target_access.result.now c.numbered-source_old.result.now.schedule c.numbered-target_old.result.now.schedule) (sym c.context.ensures)

pub new-requires : goal.new-requires
new-requires c =
    let ready = found_ready c.args.old.now c.args.now.now c.args.pieces.now c.args.dep.now c.statements-3.ensures.valid c.statements.ensures.valid c.requires.originals c.requires.listed _ (found_before c) in
    record { limits = ready.limits; fits = ready.fits }

pub returns-clause-pairing : goal.returns-clause-pairing
returns-clause-pairing c = c.new.ensures ∙ sym (found_after c)

pub returns-clause-level : goal.returns-clause-level
returns-clause-level c =
    subst (λ (m : Pairing). IsLevel m.source_schedule.betas m.target_schedule.betas c.args.dep.now.level) (sym c.new.ensures)
    (found_ready c.args.old.now c.args.now.now c.args.pieces.now c.args.dep.now c.statements-3.ensures.valid c.statements.ensures.valid c.requires.originals c.requires.listed _ (found_after c)).is_level
