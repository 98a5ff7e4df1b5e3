use Rattle.schedule_recovery.proofs.Counts.{few_of}
use Rattle.schedule_recovery.proofs.conditions.difference.Goals as goal

pub first_different-requires-clause-few : goal.first_different-requires-clause-few
first_different-requires-clause-few c = few_of c.args.original.now c.statements.result.now c.statements.ensures.valid c.statements.ensures.answer
