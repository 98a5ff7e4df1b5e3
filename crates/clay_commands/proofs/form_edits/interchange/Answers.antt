use Rattle.std.proofs.Common.{◌∙◌}
use Rattle.clay_commands.proofs.LevelLists.{swapped}
use Rattle.clay_commands.proofs.form_edits.interchange.Goals as goal

pub returns : goal.returns
returns c =
    swapped c.args.levels.now c.set-moved.new.self c.set.new.self c.args.k c.args.l c.in_ok-copy.copy c.set-moved.result c.requires.first c.requires.second
    (c.in_ok-copy.ensures ∙ c.form.ensures) c.set-moved.ensures.answer c.set-moved.ensures.items c.set.ensures.items
