use Rattle.std.proofs.Common.{◌≡◌, ◌∙◌, sym, ap, None}
use Rattle.clay_commands.specs.Refusals.{condition_under}
use Rattle.clay_commands.proofs.Changeables.{changeable}
use Rattle.clay_commands.proofs.DraftMaps.{plain_forms, plain_stepped}
use Rattle.clay_commands.proofs.steps.plain_step.Goals as goal

pub change_all-requires : goal.change_all-requires
change_all-requires c =
    let none : condition_under c.args.parameters c.args.i c.args.command.now c.args.prefix.now c.args.leaves.now.items ≡ None =
    sym (ap (λ d. condition_under c.args.parameters c.args.i c.args.command.now c.args.prefix.now d) c.as_slice.ensures.value)
    ∙ sym c.level_condition-condition.ensures ∙ c.in_default.is in
    changeable c.args.parameters c.args.i c.args.command.now c.args.prefix.now c.args.leaves.now.items c.requires.sound.leaves
    (plain_forms c.args.command.now c.requires.plain).0 none

pub returns-in-Ok-clause-ok : goal.returns-in-Ok-clause-ok
returns-in-Ok-clause-ok c =
    let none : condition_under c.args.parameters c.args.i c.args.command.now c.args.prefix.now c.args.leaves.now.items ≡ None =
    sym (ap (λ d. condition_under c.args.parameters c.args.i c.args.command.now c.args.prefix.now d) c.as_slice.ensures.value)
    ∙ sym c.level_condition-condition.ensures ∙ c.in_default.is in
    plain_stepped c.args.parameters c.args.i c.args.command.now c.args.prefix.now c.args.leaves.now.items c.change_all.new.leaves.items c.args.betas.now c.requires.plain none c.requires.prefix
    c.in-Ok.ensures.light c.in-Ok.ensures.ok c.requires.vectors
