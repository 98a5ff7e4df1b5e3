use Rattle.std.proofs.Common.{◌≡◌, ◌∙◌, sym, ap, subst, true, false, map}
use Rattle.beta_tree.specs.Vectors.{IsTree, no_statement}
use Rattle.beta_tree.proofs.Trees.{not_true}
use Rattle.scop_core.specs.Assembly.{HasCause}
use Rattle.clay_script.specs.Commands.{prefix_of}
use Rattle.clay_commands.specs.Arguments.{natural, all_fit}
use Rattle.clay_commands.specs.Drafts.{betas_of}
use Rattle.clay_commands.specs.Steps.{refusal_under}
use Rattle.clay_commands.proofs.Prefixes.{unfit_prefix, under_prefix, step_of_command}
use Rattle.clay_commands.proofs.command_steps.command_step.Goals as goal

pub returns-in_default-clause-cause : goal.returns-in_default-clause-cause
returns-in_default-clause-cause c =
    let slice : c.as_slice.result.now ≡ prefix_of c.args.command.now = c.as_slice.ensures.answer ∙ c.prefix_of_command.ensures in
    let unfit : all_fit c.as_slice.result.now ≡ false = rw c.in_default.is at c.in_ok-prefix.ensures in
    let tree : IsTree (betas_of c.args.leaves.now.items) = subst (λ V. IsTree V) c.requires.vectors c.len-tree.ensures.tree in
    unfit_prefix c.args.parameters c.args.i c.args.command.now c.args.leaves.now.items tree (subst (λ z. all_fit z ≡ false) slice unfit)

pub returns-in-Ok-clause-ok : goal.returns-in-Ok-clause-ok
returns-in-Ok-clause-ok c =
    let slice : c.as_slice.result.now ≡ prefix_of c.args.command.now = c.as_slice.ensures.answer ∙ c.prefix_of_command.ensures in
    let fit : (c.in-Some.prefix ≡ map natural c.as_slice.result.now) × (all_fit c.as_slice.result.now ≡ true) = rw c.in-Some.is at c.in_ok-prefix.ensures in
    let some : no_statement c.as_slice-2.result.now (betas_of c.as_slice-3.result.now) ≡ false = not_true _ (sym c.has_statement.ensures ∙ c.if-not-has_statement.false) in
    let here : no_statement c.in-Some.prefix (betas_of c.args.leaves.now.items) ≡ false =
    sym (ap (λ P. no_statement P (betas_of c.args.leaves.now.items)) c.as_slice-2.ensures) ∙ sym (ap (λ d. no_statement c.as_slice-2.result.now (betas_of d)) c.as_slice-3.ensures.value) ∙ some in
    step_of_command c.args.parameters c.args.i c.args.command.now c.in-Some.prefix c.args.leaves.now.items c.step_under.new.leaves.items c.step_under.new.betas
    (fit.0 ∙ ap (map natural) slice) (subst (λ z. all_fit z ≡ true) slice fit.1) here c.in-Ok.ensures.ok

pub returns-clause-cause : goal.returns-clause-cause
returns-clause-cause c =
    let slice : c.as_slice.result.now ≡ prefix_of c.args.command.now = c.as_slice.ensures.answer ∙ c.prefix_of_command.ensures in
    let fit : (c.in-Some.prefix ≡ map natural c.as_slice.result.now) × (all_fit c.as_slice.result.now ≡ true) = rw c.in-Some.is at c.in_ok-prefix.ensures in
    let some : no_statement c.as_slice-2.result.now (betas_of c.as_slice-3.result.now) ≡ false = not_true _ (sym c.has_statement.ensures ∙ c.if-not-has_statement.false) in
    let here : no_statement c.in-Some.prefix (betas_of c.args.leaves.now.items) ≡ false =
    sym (ap (λ P. no_statement P (betas_of c.args.leaves.now.items)) c.as_slice-2.ensures) ∙ sym (ap (λ d. no_statement c.as_slice-2.result.now (betas_of d)) c.as_slice-3.ensures.value) ∙ some in
    let cause : HasCause (refusal_under c.args.parameters c.args.i c.args.command.now c.in-Some.prefix c.args.leaves.now.items) c.in-Err.fail =
    subst (λ P. HasCause (refusal_under c.args.parameters c.args.i c.args.command.now P c.args.leaves.now.items) c.in-Err.fail) c.as_slice-4.ensures c.in-Err.ensures.cause in
    subst (λ r. HasCause r c.in-Err.fail)
    (sym (under_prefix c.args.parameters c.args.i c.args.command.now c.in-Some.prefix c.args.leaves.now.items (fit.0 ∙ ap (map natural) slice) (subst (λ z. all_fit z ≡ true) slice fit.1) here)) cause
