use Rattle.std.proofs.Common.{◌≡◌, ◌≤◌, ◌∙◌, sym, ap, subst, Ok, length}
use Rattle.beta_tree.specs.Vectors.{LongerUnder}
use Rattle.beta_tree.specs.Answers.{level_answer}
use Rattle.clay_commands.specs.Arguments.{natural}
use Rattle.clay_commands.specs.Drafts.{betas_of}
use Rattle.clay_commands.specs.Refusals.{cut_limit}
use Rattle.clay_commands.proofs.Changeables.{changeable}
use Rattle.clay_commands.proofs.DraftMaps.{read_condition}
use Rattle.clay_commands.proofs.Cuts.{cut_facts, cut_forms, cut_stepped, limit_is}
use Rattle.clay_commands.proofs.steps.strip_step.Goals as goal

pub change_all-requires : goal.change_all-requires
change_all-requires c =
    let none = read_condition c.args.parameters c.args.i c.args.command.now c.args.prefix.now c.args.leaves.now.items c.as_slice.result.now c.level_condition-condition.result
    c.as_slice.ensures.value c.level_condition-condition.ensures c.in_default.is in
    changeable c.args.parameters c.args.i c.args.command.now c.args.prefix.now c.args.leaves.now.items c.requires.sound.leaves (cut_forms c.args.command.now c.args.k c.requires.cut) none

pub insert_level-requires-clause-below : goal.insert_level-requires-clause-below
insert_level-requires-clause-below c =
    let none = read_condition c.args.parameters c.args.i c.args.command.now c.args.prefix.now c.args.leaves.now.items c.as_slice.result.now c.level_condition-condition.result
    c.as_slice.ensures.value c.level_condition-condition.ensures c.in_default.is in
    let facts = cut_facts c.args.parameters c.args.i c.args.command.now c.args.k c.args.prefix.now c.args.leaves.now.items c.requires.cut none c.requires.sound.leaves c.requires.some in
    subst (λ n. length c.args.prefix.now ≤ n) (sym (c.clamped.ensures ∙ facts.small)) facts.below

pub insert_level-requires-clause-longer : goal.insert_level-requires-clause-longer
insert_level-requires-clause-longer c =
    let none = read_condition c.args.parameters c.args.i c.args.command.now c.args.prefix.now c.args.leaves.now.items c.as_slice.result.now c.level_condition-condition.result
    c.as_slice.ensures.value c.level_condition-condition.ensures c.in_default.is in
    let facts = cut_facts c.args.parameters c.args.i c.args.command.now c.args.k c.args.prefix.now c.args.leaves.now.items c.requires.cut none c.requires.sound.leaves c.requires.some in
    let here : LongerUnder c.args.prefix.now (natural c.args.k) c.args.betas.now = subst (λ V. LongerUnder c.args.prefix.now (natural c.args.k) V) (sym c.requires.vectors) facts.above in
    subst (λ n. LongerUnder c.args.prefix.now n c.args.betas.now) (sym (c.clamped.ensures ∙ facts.small)) here

pub returns-clause-ok : goal.returns-clause-ok
returns-clause-ok c =
    let none = read_condition c.args.parameters c.args.i c.args.command.now c.args.prefix.now c.args.leaves.now.items c.as_slice.result.now c.level_condition-condition.result
    c.as_slice.ensures.value c.level_condition-condition.ensures c.in_default.is in
    let facts = cut_facts c.args.parameters c.args.i c.args.command.now c.args.k c.args.prefix.now c.args.leaves.now.items c.requires.cut none c.requires.sound.leaves c.requires.some in
    let unlimited = limit_is c.args.i c.args.command.now c.args.k c.args.prefix.now c.args.leaves.now.items c.strip_limit-limit.result c.requires.cut c.requires.prefix
    (c.strip_limit-limit.ensures ∙ ap (λ d. cut_limit c.args.i c.args.prefix.now d) c.as_slice-2.ensures.value) ∙ c.in_default-limit.is in
    let levels : level_answer c.args.prefix.now (natural c.args.k) (betas_of c.args.leaves.now.items) ≡ Ok c.insert_level.new.self =
    sym (ap (λ V. level_answer c.args.prefix.now (natural c.args.k) V) c.requires.vectors)
    ∙ sym (ap (λ n. level_answer c.args.prefix.now n c.args.betas.now) (c.clamped.ensures ∙ facts.small)) ∙ c.in_default-insert_level.ensures.ok in
    cut_stepped c.args.parameters c.args.i c.args.command.now c.args.k c.args.prefix.now c.args.leaves.now.items c.change_all.new.leaves.items c.join.new.leaves.items c.insert_level.new.self
    c.requires.cut c.requires.prefix none unlimited c.in_default-change_all.ensures.light c.in_default-change_all.ensures.ok c.requires.some levels c.in_ok-join.ensures
