use Rattle.std.proofs.Common.{◌≤◌, length, subst}
use Rattle.suite_base.specs.Limits.{max_systems}
use Rattle.legality.specs.Violations.{edit_of}
use Rattle.legality.proofs.ReadyEntries.{has_originals}
use Rattle.legality.proofs.Answered.{answered}
use Rattle.legality.proofs.KeptMemories.{yes_keeps}
use Rattle.legality.proofs.checking.check_edit.Goals as goal

pub deps-requires : goal.deps-requires
deps-requires c = has_originals (edit_of c.args.scop.now c.args.edited.now) c.requires.edit

pub returns-clause-answer : goal.returns-clause-answer
returns-clause-answer c =
    answered (edit_of c.args.scop.now c.args.edited.now) c.decide_entries.result (subst (λ list. length list ≤ max_systems) c.in_ok-list.ensures.list c.in_ok-list.ensures.few) c.decide_entries.ensures

pub returns-clause-memory : goal.returns-clause-memory
returns-clause-memory c = yes_keeps (edit_of c.args.scop.now c.args.edited.now) c.decide_entries.result c.decide_entries.ensures
