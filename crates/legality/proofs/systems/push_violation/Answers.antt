use Rattle.dependence_systems.proofs.NamedSides.{statement_there, part_there}
use Rattle.legality.specs.Violations.{edit_of}
use Rattle.legality.proofs.ReadyEntries.{source_there, target_there}
use Rattle.legality.proofs.ViolationRows.{Ends, ends_of, columns_found, fits_found, system_found, on_ok}
use Rattle.legality.proofs.systems.push_violation.Goals as goal

pub numbered-source-requires : goal.numbered-source-requires
numbered-source-requires c = statement_there c.args.scop.now.statements c.args.edited.now.scop.statements c.args.edited.now.of c.args.dep.now.source c.args.dep.now.source_access c.args.dep.now.source_part c.statements-statements.result.now (source_there (edit_of c.args.scop.now c.args.edited.now) c.requires.edit c.args.dep.now c.requires.listed) c.statements-statements.ensures.answer

pub numbered-source_part-requires : goal.numbered-source_part-requires
numbered-source_part-requires c =
    part_there c.args.scop.now.statements c.args.edited.now.scop.statements c.args.edited.now.of c.args.dep.now.source c.args.dep.now.source_access c.args.dep.now.source_part c.statements-statements.result.now c.numbered-source.result.now c.parts.result.now
    (source_there (edit_of c.args.scop.now c.args.edited.now) c.requires.edit c.args.dep.now c.requires.listed) c.statements-statements.ensures.answer c.numbered-source.ensures c.parts.ensures

pub numbered-target_part-requires : goal.numbered-target_part-requires
numbered-target_part-requires c =
    part_there c.args.scop.now.statements c.args.edited.now.scop.statements c.args.edited.now.of c.args.dep.now.target c.args.dep.now.target_access c.args.dep.now.target_part c.statements-statements.result.now c.numbered-target.result.now c.parts-2.result.now
    (target_there (edit_of c.args.scop.now c.args.edited.now) c.requires.edit c.args.dep.now c.requires.listed) c.statements-statements.ensures.answer c.numbered-target.ensures c.parts-2.ensures

ends_before : (c : goal.After-w-1) → Ends (edit_of c.args.scop.now c.args.edited.now) c.args.dep.now c.numbered-source.result.now c.numbered-target.result.now c.numbered-source_part.result.now c.numbered-target_part.result.now
ends_before c =
    ends_of (edit_of c.args.scop.now c.args.edited.now) c.args.dep.now c.numbered-source.result.now c.numbered-target.result.now c.numbered-source_part.result.now c.numbered-target_part.result.now c.statements-statements.result.now c.parts.result.now c.parts-2.result.now
    c.statements-statements.ensures.answer c.numbered-source.ensures c.numbered-target.ensures c.parts.ensures c.numbered-source_part.ensures c.parts-2.ensures c.numbered-target_part.ensures

ends_after : (c : goal.After-push_reversed) → Ends (edit_of c.args.scop.now c.args.edited.now) c.args.dep.now c.numbered-source.result.now c.numbered-target.result.now c.numbered-source_part.result.now c.numbered-target_part.result.now
ends_after c =
    ends_of (edit_of c.args.scop.now c.args.edited.now) c.args.dep.now c.numbered-source.result.now c.numbered-target.result.now c.numbered-source_part.result.now c.numbered-target_part.result.now c.statements-statements.result.now c.parts.result.now c.parts-2.result.now
    c.statements-statements.ensures.answer c.numbered-source.ensures c.numbered-target.ensures c.parts.ensures c.numbered-source_part.ensures c.parts-2.ensures c.numbered-target_part.ensures

pub push_reversed-requires-clause-columns : goal.push_reversed-requires-clause-columns
push_reversed-requires-clause-columns c =
    columns_found (edit_of c.args.scop.now c.args.edited.now) c.requires.edit c.args.dep.now c.requires.listed c.numbered-source.result.now c.numbered-target.result.now c.numbered-source_part.result.now c.numbered-target_part.result.now (ends_before c) c.args.part.now c.requires.shared c.widths_between-w.result c.widths_between-w.ensures

pub push_reversed-requires-clause-fits : goal.push_reversed-requires-clause-fits
push_reversed-requires-clause-fits c =
    fits_found (edit_of c.args.scop.now c.args.edited.now) c.requires.edit c.args.dep.now c.requires.listed c.numbered-source.result.now c.numbered-target.result.now c.numbered-source_part.result.now c.numbered-target_part.result.now (ends_before c) c.args.part.now c.requires.shared c.widths_between-w.result c.widths_between-w.ensures

pub returns-clause-system : goal.returns-clause-system
returns-clause-system c =
    on_ok c.push_reversed.result (λ rows. system_found (edit_of c.args.scop.now c.args.edited.now) c.requires.edit c.args.dep.now c.requires.listed c.numbered-source.result.now c.numbered-target.result.now c.numbered-source_part.result.now c.numbered-target_part.result.now (ends_after c) c.args.part.now c.push_reversed.new.part c.requires.shared c.widths_between-w.result c.widths_between-w.ensures
    c.args.level c.push_reversed.ensures.shape rows) c.push_reversed.ensures.rows
