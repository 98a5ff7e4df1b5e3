use Rattle.schedule_recovery.proofs.Counts.{few_of}
use Rattle.schedule_recovery.proofs.conditions.pair_refusal.Goals as goal

pub first_not_clans-requires : goal.first_not_clans-requires
first_not_clans-requires c = few_of c.args.original.now c.statements.result.now c.statements.ensures.valid c.statements.ensures.answer

pub first_lost-requires : goal.first_lost-requires
first_lost-requires c = few_of c.args.target.now c.statements-2.result.now c.statements-2.ensures.valid c.statements-2.ensures.answer
