use Rattle.std.proofs.Common.{◌≡◌, true, false, map, ap, sym, ◌∙◌}
use Rattle.beta_tree.specs.Answers.{reorder_answer}
use Rattle.clay_commands.specs.Arguments.{natural, order_in, all_fit}
use Rattle.clay_commands.proofs.Clamps.{unfit_order, fit_order, carried_ok, carried_cause}
use Rattle.clay_commands.proofs.vector_steps.reorder.Goals as goal

pub returns-in-None-clause-ok : goal.returns-in-None-clause-ok
returns-in-None-clause-ok c =
    let unfit : all_fit c.args.order.now ≡ false = rw c.in-None.is at c.in_ok-betas_from.ensures in
    carried_ok _ _ _ _ (unfit_order c.args.prefix.now c.args.order.now c.args.betas.now c.len-tree.ensures.tree unfit) c.reorder_by.ensures.ok

pub returns-in-None-clause-cause : goal.returns-in-None-clause-cause
returns-in-None-clause-cause c =
    let unfit : all_fit c.args.order.now ≡ false = rw c.in-None.is at c.in_ok-betas_from.ensures in
    carried_cause c.args.i _ _ _ (unfit_order c.args.prefix.now c.args.order.now c.args.betas.now c.len-tree.ensures.tree unfit) c.reorder_by.ensures.cause

pub returns-in-Some-clause-ok : goal.returns-in-Some-clause-ok
returns-in-Some-clause-ok c =
    let fit : (c.in-Some.order ≡ map natural c.args.order.now) × (all_fit c.args.order.now ≡ true) = rw c.in-Some.is at c.in_ok-betas_from.ensures in
    let same : c.as_slice.result.now ≡ order_in c.args.order.now = c.as_slice.ensures ∙ fit.0 ∙ sym (fit_order c.args.order.now fit.1) in
    carried_ok _ _ _ _ (ap (λ o. reorder_answer c.args.prefix.now o c.args.betas.now) same) c.reorder_by-in-Some.ensures.ok

pub returns-in-Some-clause-cause : goal.returns-in-Some-clause-cause
returns-in-Some-clause-cause c =
    let fit : (c.in-Some.order ≡ map natural c.args.order.now) × (all_fit c.args.order.now ≡ true) = rw c.in-Some.is at c.in_ok-betas_from.ensures in
    let same : c.as_slice.result.now ≡ order_in c.args.order.now = c.as_slice.ensures ∙ fit.0 ∙ sym (fit_order c.args.order.now fit.1) in
    carried_cause c.args.i _ _ _ (ap (λ o. reorder_answer c.args.prefix.now o c.args.betas.now) same) c.reorder_by-in-Some.ensures.cause
