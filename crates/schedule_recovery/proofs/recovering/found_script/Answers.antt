use Rattle.std.proofs.Common.{◌∙◌, ap, Err}
use Rattle.std.proofs.lemmas.Result.{err_from_is_err_and}
use Rattle.chlore_recover.specs.Strategy.{strategy}
use Rattle.schedule_recovery.proofs.Counts.{few_placed}
use Rattle.schedule_recovery.proofs.Pieces.{memory_stops}
use Rattle.schedule_recovery.proofs.recovering.found_script.Goals as goal

pub returns-in_err-from-clause-err : goal.returns-in_err-from-clause-err
returns-in_err-from-clause-err c =
    let p = err_from_is_err_and c.from_residual.result c.from_residual.ensures.1 in
    memory_stops c.from_residual.result (strategy c.args.original.now c.args.target.now) (p.1 ∙ ap (λ f. Err f) p.2)

pub returns-in_err-to-clause-err : goal.returns-in_err-to-clause-err
returns-in_err-to-clause-err c =
    let p = err_from_is_err_and c.from_residual-in_err-to.result c.from_residual-in_err-to.ensures.1 in
    memory_stops c.from_residual-in_err-to.result (strategy c.args.original.now c.args.target.now) (p.1 ∙ ap (λ f. Err f) p.2)

pub joined_script-requires-clause-few : goal.joined_script-requires-clause-few
joined_script-requires-clause-few c = few_placed c.args.original.now _ c.requires.valid (c.as_slice.ensures ∙ c.in_ok-from.ensures)
