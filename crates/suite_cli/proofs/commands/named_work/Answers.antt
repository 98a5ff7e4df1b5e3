use Rattle.std.proofs.Common.{◌∙◌, sym}
use Rattle.suite_cli.proofs.WordLists.{no_named}
use Rattle.suite_cli.proofs.commands.named_work.Goals as goal

pub returns-else-eq-4 : goal.returns-else-eq-4
returns-else-eq-4 c =
    no_named c.args.command.now c.args.file.now (sym c.eq.ensures ∙ c.if-eq.false) (sym c.eq-else-eq.ensures ∙ c.if-eq-2.false)
    (sym c.eq-else-eq-2.ensures ∙ c.if-eq-3.false) (sym c.eq-else-eq-3.ensures ∙ c.if-eq-4.false) c.requires.other
