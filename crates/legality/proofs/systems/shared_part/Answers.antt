use Rattle.std.proofs.Common.{◌≡◌, ◌≤◌, ◌<◌, ◌^◌, OnOk, IfOk, IfErr, sym, subst}
use Rattle.row_core.specs.declared.arithmetic.RowFail.TheVariants.{Overflow}
use Rattle.dependence_systems.specs.Systems.{pairing, level_system, system_weight}
use Rattle.dependence_systems.proofs.NamedSides.{statement_there, access_there, part_there}
use Rattle.legality.specs.Violations.{edit_of, shared_pairing}
use Rattle.legality.proofs.ReadyEntries.{source_there, target_there, looked, found_for, ready_for}
use Rattle.legality.proofs.systems.shared_part.Goals as goal

pub numbered-source-requires : goal.numbered-source-requires
numbered-source-requires c = statement_there c.args.scop.now.statements c.args.edited.now.scop.statements c.args.edited.now.of c.args.dep.now.source c.args.dep.now.source_access c.args.dep.now.source_part c.statements-statements.result.now (source_there (edit_of c.args.scop.now c.args.edited.now) c.requires.edit c.args.dep.now c.requires.listed) c.statements-statements.ensures.answer

pub numbered-target-requires : goal.numbered-target-requires
numbered-target-requires c = statement_there c.args.scop.now.statements c.args.edited.now.scop.statements c.args.edited.now.of c.args.dep.now.target c.args.dep.now.target_access c.args.dep.now.target_part c.statements-statements.result.now (target_there (edit_of c.args.scop.now c.args.edited.now) c.requires.edit c.args.dep.now c.requires.listed) c.statements-statements.ensures.answer

pub numbered-source_part-requires : goal.numbered-source_part-requires
numbered-source_part-requires c =
    part_there c.args.scop.now.statements c.args.edited.now.scop.statements c.args.edited.now.of c.args.dep.now.source c.args.dep.now.source_access c.args.dep.now.source_part c.statements-statements.result.now c.numbered-source.result.now c.parts.result.now
    (source_there (edit_of c.args.scop.now c.args.edited.now) c.requires.edit c.args.dep.now c.requires.listed) c.statements-statements.ensures.answer c.numbered-source.ensures c.parts.ensures

pub numbered-source_access-requires : goal.numbered-source_access-requires
numbered-source_access-requires c =
    access_there c.args.scop.now.statements c.args.edited.now.scop.statements c.args.edited.now.of c.args.dep.now.source c.args.dep.now.source_access c.args.dep.now.source_part c.statements-statements.result.now c.numbered-source.result.now c.as_slice.result.now
    (source_there (edit_of c.args.scop.now c.args.edited.now) c.requires.edit c.args.dep.now c.requires.listed) c.statements-statements.ensures.answer c.numbered-source.ensures c.as_slice.ensures

pub numbered-target_part-requires : goal.numbered-target_part-requires
numbered-target_part-requires c =
    part_there c.args.scop.now.statements c.args.edited.now.scop.statements c.args.edited.now.of c.args.dep.now.target c.args.dep.now.target_access c.args.dep.now.target_part c.statements-statements.result.now c.numbered-target.result.now c.parts-2.result.now
    (target_there (edit_of c.args.scop.now c.args.edited.now) c.requires.edit c.args.dep.now c.requires.listed) c.statements-statements.ensures.answer c.numbered-target.ensures c.parts-2.ensures

pub numbered-target_access-requires : goal.numbered-target_access-requires
numbered-target_access-requires c =
    access_there c.args.scop.now.statements c.args.edited.now.scop.statements c.args.edited.now.of c.args.dep.now.target c.args.dep.now.target_access c.args.dep.now.target_part c.statements-statements.result.now c.numbered-target.result.now c.as_slice-2.result.now
    (target_there (edit_of c.args.scop.now c.args.edited.now) c.requires.edit c.args.dep.now c.requires.listed) c.statements-statements.ensures.answer c.numbered-target.ensures c.as_slice-2.ensures

pub order_of-requires-clause-original : goal.order_of-requires-clause-original
order_of-requires-clause-original c = (source_there (edit_of c.args.scop.now c.args.edited.now) c.requires.edit c.args.dep.now c.requires.listed).original

pub order_of-requires-2-clause-original : goal.order_of-requires-2-clause-original
order_of-requires-2-clause-original c = (target_there (edit_of c.args.scop.now c.args.edited.now) c.requires.edit c.args.dep.now c.requires.listed).original

found_before : (c : goal.After-row_known-1) → shared_pairing (edit_of c.args.scop.now c.args.edited.now) c.args.dep.now
    ≡ pairing c.context.result.now c.numbered-source_part.result.now c.numbered-target_part.result.now c.numbered-source_access.result.now c.numbered-target_access.result.now c.in-Ok.source_order c.in-Ok-order_of.target_order
found_before c =
    found_for (edit_of c.args.scop.now c.args.edited.now) c.requires.edit c.args.dep.now c.numbered-source.result.now c.numbered-target.result.now
    c.numbered-source_access.result.now c.numbered-target_access.result.now c.numbered-source_part.result.now c.numbered-target_part.result.now c.context.result.now c.in-Ok.source_order c.in-Ok-order_of.target_order
    (looked c.args.edited.now.scop.statements c.statements-statements.result.now c.args.dep.now.source c.args.dep.now.source_access c.args.dep.now.source_part c.numbered-source.result.now c.as_slice.result.now c.numbered-source_access.result.now c.parts.result.now c.numbered-source_part.result.now
    c.statements-statements.ensures.answer c.numbered-source.ensures c.as_slice.ensures c.numbered-source_access.ensures c.parts.ensures c.numbered-source_part.ensures)
    (looked c.args.edited.now.scop.statements c.statements-statements.result.now c.args.dep.now.target c.args.dep.now.target_access c.args.dep.now.target_part c.numbered-target.result.now c.as_slice-2.result.now c.numbered-target_access.result.now c.parts-2.result.now c.numbered-target_part.result.now
    c.statements-statements.ensures.answer c.numbered-target.ensures c.as_slice-2.ensures c.numbered-target_access.ensures c.parts-2.ensures c.numbered-target_part.ensures)
    c.context.ensures c.in-Ok.ensures c.in-Ok-order_of.ensures

found_after : (c : goal.After-drop-source_order-4) → shared_pairing (edit_of c.args.scop.now c.args.edited.now) c.args.dep.now
    ≡ pairing c.context.result.now c.numbered-source_part.result.now c.numbered-target_part.result.now c.numbered-source_access.result.now c.numbered-target_access.result.now c.in-Ok.source_order c.in-Ok-order_of.target_order
found_after c =
    found_for (edit_of c.args.scop.now c.args.edited.now) c.requires.edit c.args.dep.now c.numbered-source.result.now c.numbered-target.result.now
    c.numbered-source_access.result.now c.numbered-target_access.result.now c.numbered-source_part.result.now c.numbered-target_part.result.now c.context.result.now c.in-Ok.source_order c.in-Ok-order_of.target_order
    (looked c.args.edited.now.scop.statements c.statements-statements.result.now c.args.dep.now.source c.args.dep.now.source_access c.args.dep.now.source_part c.numbered-source.result.now c.as_slice.result.now c.numbered-source_access.result.now c.parts.result.now c.numbered-source_part.result.now
    c.statements-statements.ensures.answer c.numbered-source.ensures c.as_slice.ensures c.numbered-source_access.ensures c.parts.ensures c.numbered-source_part.ensures)
    (looked c.args.edited.now.scop.statements c.statements-statements.result.now c.args.dep.now.target c.args.dep.now.target_access c.args.dep.now.target_part c.numbered-target.result.now c.as_slice-2.result.now c.numbered-target_access.result.now c.parts-2.result.now c.numbered-target_part.result.now
    c.statements-statements.ensures.answer c.numbered-target.ensures c.as_slice-2.ensures c.numbered-target_access.ensures c.parts-2.ensures c.numbered-target_part.ensures)
    c.context.ensures c.in-Ok.ensures c.in-Ok-order_of.ensures

pub system_between-requires-clause-limits : goal.system_between-requires-clause-limits
system_between-requires-clause-limits c = (ready_for (edit_of c.args.scop.now c.args.edited.now) c.requires.edit c.args.dep.now c.requires.listed _ (found_before c)).limits

pub system_between-requires-clause-fits : goal.system_between-requires-clause-fits
system_between-requires-clause-fits c = (ready_for (edit_of c.args.scop.now c.args.edited.now) c.requires.edit c.args.dep.now c.requires.listed _ (found_before c)).fits

pub system_between-requires-clause-level : goal.system_between-requires-clause-level
system_between-requires-clause-level c = (ready_for (edit_of c.args.scop.now c.args.edited.now) c.requires.edit c.args.dep.now c.requires.listed _ (found_before c)).is_level

pub returns-clause-part : goal.returns-clause-part
returns-clause-part c =
    subst (λ m. IfOk c.system_between.result (λ part. part ≡ level_system m c.args.dep.now.level)) (sym (found_after c)) c.system_between.ensures.part

pub returns-clause-light : goal.returns-clause-light
returns-clause-light c =
    subst (λ m. OnOk c.system_between.result (system_weight m c.args.dep.now.level < 2 ^ 127)) (sym (found_after c)) c.system_between.ensures.light

pub returns-clause-heavy : goal.returns-clause-heavy
returns-clause-heavy c =
    subst (λ m. IfErr c.system_between.result (λ fail. fail ≡ Overflow → 2 ^ 127 ≤ system_weight m c.args.dep.now.level)) (sym (found_after c)) c.system_between.ensures.heavy
