use Rattle.std.proofs.Common.{◌≡◌, ◌≤◌, ◌∙◌, sym, ap, subst, length}
use Rattle.row_core.specs.Dense.{dense_of}
use Rattle.scop_core.specs.ScopData.{betas_in}
use Rattle.scop_core.proofs.AssemblableData.{scops_are_assemblable}
use Rattle.clay_commands.specs.Drafts.{drafted, leaves_from, betas_of}
use Rattle.clay_commands.specs.Soundness.{IsSound}
use Rattle.clay_commands.proofs.Closings.{drafted_sound, drafted_betas}
use Rattle.clay_commands.proofs.applying.drafted_leaves.Goals as goal

pub draft-requires-clause-few : goal.draft-requires-clause-few
draft-requires-clause-few c =
    subst (λ s. length s ≤ 1024) (sym c.statements-statements.ensures.answer) (scops_are_assemblable c.args.scop.now c.statements-statements.ensures.valid).limits.statements

pub returns-clause-valid : goal.returns-clause-valid
returns-clause-valid c =
    let made : c.in_ok-leaves.leaves.items ≡ drafted c.args.scop.now =
    c.in_ok-leaves.ensures ∙ ap (λ V. leaves_from 1 V c.statements-statements.result.now) c.requires ∙ ap (λ s. leaves_from 1 (dense_of (betas_in c.args.scop.now.statements)) s) c.statements-statements.ensures.answer in
    subst (λ D. IsSound c.args.scop.now.context.shape.parameters D) (sym made) (drafted_sound c.args.scop.now c.statements-statements.ensures.valid)

pub returns-clause-vectors : goal.returns-clause-vectors
returns-clause-vectors c =
    let made : c.in_ok-leaves.leaves.items ≡ drafted c.args.scop.now =
    c.in_ok-leaves.ensures ∙ ap (λ V. leaves_from 1 V c.statements-statements.result.now) c.requires ∙ ap (λ s. leaves_from 1 (dense_of (betas_in c.args.scop.now.statements)) s) c.statements-statements.ensures.answer in
    c.requires ∙ sym (drafted_betas c.args.scop.now) ∙ sym (ap betas_of made)
