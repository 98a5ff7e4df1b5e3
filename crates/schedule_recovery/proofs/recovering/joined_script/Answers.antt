use Rattle.std.proofs.Common.{◌++◌, ◌∙◌, List, ap, Err}
use Rattle.std.proofs.lemmas.Result.{err_from_is_err_and}
use Rattle.clay_script.specs.declared.commands.Command.{Command}
use Rattle.chlore_recover.specs.Orders.{vectors_of}
use Rattle.chlore_recover.specs.Passes.{fissions_of}
use Rattle.chlore_recover.specs.Strategy.{all_levels, order_for, reorder_unless_same, fuses, strategy}
use Rattle.schedule_recovery.proofs.Pieces.{begins, equal_length, fail_stops, longer, memory_stops}
use Rattle.schedule_recovery.proofs.Wholes.{steps_are, after_one, after_two, after_three}
use Rattle.schedule_recovery.proofs.recovering.joined_script.Goals as goal

pub returns-in_err-push_fissions-clause-err : goal.returns-in_err-push_fissions-clause-err
returns-in_err-push_fissions-clause-err c =
    let F : List Command = fissions_of (vectors_of c.args.from.now) in
    let L : List Command = all_levels c.args.original.now c.args.target.now 0 c.args.from.now in
    let R : List Command = reorder_unless_same (order_for c.args.from.now c.args.to.now) in
    let U : List Command = fuses (vectors_of c.args.to.now) in
    let all : List Command = strategy c.args.original.now c.args.target.now in
    let is = steps_are c.args.original.now c.args.target.now c.args.from.now c.args.to.now c.requires.valid c.requires.from c.requires.to in
    let p = err_from_is_err_and c.from_residual.result c.from_residual.ensures.1 in
    fail_stops c.from_residual.result _ all (p.1 ∙ ap (λ f. Err f) p.2)
    (begins (c.new-script.result ++ F) (L ++ (R ++ U)) all _ (after_one F L R U c.new-script.result all is c.new-script.ensures) c.in_err-push_fissions.ensures.err)

pub returns-in_err-push_levels-clause-err : goal.returns-in_err-push_levels-clause-err
returns-in_err-push_levels-clause-err c =
    let F : List Command = fissions_of (vectors_of c.args.from.now) in
    let L : List Command = all_levels c.args.original.now c.args.target.now 0 c.args.from.now in
    let R : List Command = reorder_unless_same (order_for c.args.from.now c.args.to.now) in
    let U : List Command = fuses (vectors_of c.args.to.now) in
    let all : List Command = strategy c.args.original.now c.args.target.now in
    let is = steps_are c.args.original.now c.args.target.now c.args.from.now c.args.to.now c.requires.valid c.requires.from c.requires.to in
    let p = err_from_is_err_and c.from_residual-in_err-push_levels.result c.from_residual-in_err-push_levels.ensures.1 in
    fail_stops c.from_residual-in_err-push_levels.result _ all (p.1 ∙ ap (λ f. Err f) p.2)
    (begins (c.push_fissions.new.script ++ L) (R ++ U) all _ (after_two F L R U c.new-script.result c.push_fissions.new.script all is c.new-script.ensures c.in_ok-push_fissions.ensures.ok) c.in_err-push_levels.ensures.err)

pub returns-in_err-push_order-clause-err : goal.returns-in_err-push_order-clause-err
returns-in_err-push_order-clause-err c =
    let p = err_from_is_err_and c.from_residual-in_err-push_order.result c.from_residual-in_err-push_order.ensures.1 in
    memory_stops c.from_residual-in_err-push_order.result (strategy c.args.original.now c.args.target.now) (p.1 ∙ ap (λ f. Err f) p.2)

pub returns-in_err-check_length-clause-err : goal.returns-in_err-check_length-clause-err
returns-in_err-check_length-clause-err c =
    let F : List Command = fissions_of (vectors_of c.args.from.now) in
    let L : List Command = all_levels c.args.original.now c.args.target.now 0 c.args.from.now in
    let R : List Command = reorder_unless_same (order_for c.args.from.now c.args.to.now) in
    let U : List Command = fuses (vectors_of c.args.to.now) in
    let all : List Command = strategy c.args.original.now c.args.target.now in
    let is = steps_are c.args.original.now c.args.target.now c.args.from.now c.args.to.now c.requires.valid c.requires.from c.requires.to in
    let p = err_from_is_err_and c.from_residual-in_err-check_length.result c.from_residual-in_err-check_length.ensures.1 in
    fail_stops c.from_residual-in_err-check_length.result _ all (p.1 ∙ ap (λ f. Err f) p.2)
    (begins c.push_order.new.script U all _
    (after_three F L R U c.new-script.result c.push_fissions.new.script c.push_levels.new.script c.push_order.new.script all is c.new-script.ensures c.in_ok-push_fissions.ensures.ok c.in_ok-push_levels.ensures.ok c.in_ok-push_order.ensures)
    c.in_err-check_length.ensures.err)

pub returns-in_err-push_fuses-clause-err : goal.returns-in_err-push_fuses-clause-err
returns-in_err-push_fuses-clause-err c =
    let F : List Command = fissions_of (vectors_of c.args.from.now) in
    let L : List Command = all_levels c.args.original.now c.args.target.now 0 c.args.from.now in
    let R : List Command = reorder_unless_same (order_for c.args.from.now c.args.to.now) in
    let U : List Command = fuses (vectors_of c.args.to.now) in
    let all : List Command = strategy c.args.original.now c.args.target.now in
    let is = steps_are c.args.original.now c.args.target.now c.args.from.now c.args.to.now c.requires.valid c.requires.from c.requires.to in
    let whole = after_three F L R U c.new-script.result c.push_fissions.new.script c.push_levels.new.script c.push_order.new.script all is c.new-script.ensures c.in_ok-push_fissions.ensures.ok c.in_ok-push_levels.ensures.ok c.in_ok-push_order.ensures in
    let p = err_from_is_err_and c.from_residual-in_err-push_fuses.result c.from_residual-in_err-push_fuses.ensures.1 in
    fail_stops c.from_residual-in_err-push_fuses.result _ all (p.1 ∙ ap (λ f. Err f) p.2) (longer (c.push_order.new.script ++ U) all _ (equal_length (c.push_order.new.script ++ U) all whole) c.in_err-push_fuses.ensures.err)

pub returns-clause-ok : goal.returns-clause-ok
returns-clause-ok c =
    let F : List Command = fissions_of (vectors_of c.args.from.now) in
    let L : List Command = all_levels c.args.original.now c.args.target.now 0 c.args.from.now in
    let R : List Command = reorder_unless_same (order_for c.args.from.now c.args.to.now) in
    let U : List Command = fuses (vectors_of c.args.to.now) in
    let all : List Command = strategy c.args.original.now c.args.target.now in
    let is = steps_are c.args.original.now c.args.target.now c.args.from.now c.args.to.now c.requires.valid c.requires.from c.requires.to in
    c.in_ok-push_fuses.ensures.ok
    ∙ after_three F L R U c.new-script.result c.push_fissions.new.script c.push_levels.new.script c.push_order.new.script all is c.new-script.ensures c.in_ok-push_fissions.ensures.ok c.in_ok-push_levels.ensures.ok c.in_ok-push_order.ensures
