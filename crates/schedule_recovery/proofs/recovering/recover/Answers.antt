use Rattle.std.proofs.Common.{◌≡◌, ◌∙◌, sym, subst, List}
use Rattle.std.proofs.lemmas.Result.{IfOk-weaker}
use Rattle.clay_script.specs.declared.commands.Command.{Command}
use Rattle.chlore_recover.specs.Strategy.{Recovers, strategy}
use Rattle.chlore_recover.proofs.Decisions.{unrefused_can_recover}
use Rattle.chlore_recover.proofs.Recoveries.{strategy_recovers}
use Rattle.schedule_recovery.proofs.Ready.{all_end_apart}
use Rattle.schedule_recovery.proofs.Wholes.{none_of_search, cause_of_search, pair_is_cause}
use Rattle.schedule_recovery.proofs.recovering.recover.Goals as goal

pub found_script-requires-clause-apart : goal.found_script-requires-clause-apart
found_script-requires-clause-apart c = all_end_apart c.args.original.now c.args.target.now c.scop_is_valid-2.ensures (sym c.in-Ok-None.ensures ∙ c.in-Ok-None.field-0-is)

pub returns-in-Ok-Some-clause-cause : goal.returns-in-Ok-Some-clause-cause
returns-in-Ok-Some-clause-cause c = pair_is_cause c.args.original.now c.args.target.now _ (sym c.in-Ok-Some.field-0-is ∙ c.in-Ok-Some.ensures)

pub returns-in-Ok-None-clause-none : goal.returns-in-Ok-None-clause-none
returns-in-Ok-None-clause-none c =
    none_of_search c.args.original.now c.args.target.now c.found_script.result (sym (sym c.in-Ok-None.ensures ∙ c.in-Ok-None.field-0-is)) c.found_script.ensures.ok c.found_script.ensures.short

pub returns-in-Ok-None-clause-recovers : goal.returns-in-Ok-None-clause-recovers
returns-in-Ok-None-clause-recovers c =
    IfOk-weaker c.found_script.result (λ (script : List Command). script ≡ strategy c.args.original.now c.args.target.now) (λ (script : List Command). Recovers c.args.original.now c.args.target.now script)
    (λ script e. subst (λ z. Recovers c.args.original.now c.args.target.now z) (sym e)
    (strategy_recovers c.args.original.now c.args.target.now c.scop_is_valid.ensures c.scop_is_valid-2.ensures
    ((unrefused_can_recover c.args.original.now c.args.target.now).0 c.scop_is_valid.ensures c.scop_is_valid-2.ensures (sym c.in-Ok-None.ensures ∙ c.in-Ok-None.field-0-is))))
    c.found_script.ensures.ok

pub returns-in-Ok-None-clause-cause : goal.returns-in-Ok-None-clause-cause
returns-in-Ok-None-clause-cause c =
    cause_of_search c.args.original.now c.args.target.now c.found_script.result (sym (sym c.in-Ok-None.ensures ∙ c.in-Ok-None.field-0-is)) c.found_script.ensures.err
