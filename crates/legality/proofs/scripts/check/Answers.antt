use Rattle.std.proofs.Common.{◌≡◌, subst, sym}
use Rattle.std.proofs.lemmas.Result.{IfOk-weaker}
use Rattle.scop_core.specs.Validity.{IsValid}
use Rattle.clay_commands.specs.declared.edited.Edited.{Edited}
use Rattle.clay_commands.specs.Afters.{after_script}
use Rattle.legality.specs.declared.legal.Legal.TheVariants.{Yes}
use Rattle.legality.specs.Violations.{edit_of}
use Rattle.legality.specs.Edits.{IsEdit, KeepsInstances}
use Rattle.legality.specs.Memories.{KeepsMemory}
use Rattle.legality.proofs.ScriptEdits.{is_edit, keeps}
use Rattle.legality.proofs.scripts.check.Goals as goal

pub check_edit-requires : goal.check_edit-requires
check_edit-requires c = record {
  edit = subst (λ (made : Edited). IsEdit (edit_of c.args.scop.now made)) (sym c.requires.edited)
      (is_edit c.args.scop.now c.args.script.now c.scop_is_valid.ensures c.requires.formed
      (subst (λ (made : Edited). IsValid made.scop) c.requires.edited c.scop_is_valid-2.ensures));
}

pub returns-clause-memory : goal.returns-clause-memory
returns-clause-memory c =
    let valid : IsValid (after_script c.args.scop.now c.args.script.now).scop = subst (λ (made : Edited). IsValid made.scop) c.requires.edited c.scop_is_valid-2.ensures in
    let kept : KeepsInstances (edit_of c.args.scop.now c.args.edited.now) =
    subst (λ (made : Edited). KeepsInstances (edit_of c.args.scop.now made)) (sym c.requires.edited)
    (keeps c.args.scop.now c.args.script.now c.scop_is_valid.ensures c.requires.formed valid) in
    IfOk-weaker c.check_edit.result
    (λ legal. legal ≡ Yes → KeepsInstances (edit_of c.args.scop.now c.args.edited.now) → KeepsMemory c.args.scop.now c.args.edited.now.scop)
    (λ legal. legal ≡ Yes → KeepsMemory c.args.scop.now c.args.edited.now.scop)
    (λ legal h e. h e kept) c.check_edit.ensures.memory
