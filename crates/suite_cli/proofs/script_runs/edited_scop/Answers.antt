use Rattle.std.proofs.Common.{◌≡◌, List, ℕ, Ok, subst}
use Rattle.legality.specs.declared.legal.Legal.{Legal}
use Rattle.legality.specs.Answers.{IsAnswer}
use Rattle.legality.specs.Violations.{edit_of}
use Rattle.std.proofs.lemmas.Result.{IfOk-weaker}
use Rattle.scop_core.specs.Layouts.{layout}
use Rattle.clay_commands.specs.declared.edited.Edited.{Edited}
use Rattle.edit_laws.proofs.Unrefused.{unrefused_scripts_are_formed}
use Rattle.suite_cli.specs.ClayPromise.{IsEditedText}
use Rattle.suite_cli.proofs.RunAnswers.{edits}
use Rattle.suite_cli.proofs.script_runs.edited_scop.Goals as goal

pub check-requires-clause-formed : goal.check-requires-clause-formed
check-requires-clause-formed c = unrefused_scripts_are_formed c.args.scop.now c.args.script.now c.in-Ok.ensures.none

pub returns-clause-ok : goal.returns-clause-ok
returns-clause-ok c =
    let made : Edited = c.in-Ok.made in
    IfOk-weaker c.printed_edit.result (λ (output : List ℕ). output ≡ layout made.scop) (λ (output : List ℕ). IsEditedText c.args.scop.now c.args.script.now output)
    (λ output e. edits output c.args.scop.now c.args.script.now made c.scop_is_valid.ensures c.in-Ok.ensures.none c.in-Ok.ensures.edited c.requires.few
    c.printed_edit.ensures.valid (subst (λ (legal : Legal). IsAnswer (edit_of c.args.scop.now made) (Ok legal)) c.in-Ok-Yes.field-0-is c.in-Ok-Yes.ensures.answer)
    (c.in-Ok-Yes.ensures.memory c.in-Ok-Yes.field-0-is) e)
    c.printed_edit.ensures.layout
