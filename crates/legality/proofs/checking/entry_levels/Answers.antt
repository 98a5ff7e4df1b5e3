use Rattle.dependence_systems.proofs.NamedSides.{statement_there}
use Rattle.legality.specs.Violations.{edit_of}
use Rattle.legality.proofs.ReadyEntries.{source_there, target_there}
use Rattle.legality.proofs.checking.entry_levels.Goals as goal

pub numbered-source-requires : goal.numbered-source-requires
numbered-source-requires c =
    statement_there c.args.scop.now.statements c.args.edited.now.scop.statements c.args.edited.now.of c.args.dep.now.source c.args.dep.now.source_access c.args.dep.now.source_part c.statements-statements.result.now
    (source_there (edit_of c.args.scop.now c.args.edited.now) c.requires.edit c.args.dep.now c.requires.listed) c.statements-statements.ensures.answer

pub numbered-target-requires : goal.numbered-target-requires
numbered-target-requires c =
    statement_there c.args.scop.now.statements c.args.edited.now.scop.statements c.args.edited.now.of c.args.dep.now.target c.args.dep.now.target_access c.args.dep.now.target_part c.statements-statements.result.now
    (target_there (edit_of c.args.scop.now c.args.edited.now) c.requires.edit c.args.dep.now c.requires.listed) c.statements-statements.ensures.answer
