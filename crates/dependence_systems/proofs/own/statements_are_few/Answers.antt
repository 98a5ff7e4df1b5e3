use Rattle.scop_core.proofs.KeptLimits.{keeps_limits}
use Rattle.dependence_systems.proofs.own.statements_are_few.Goals as goal

pub returns : goal.returns
returns c = (keeps_limits c.args.scop.now c.statement_count-count.ensures.valid).statements
