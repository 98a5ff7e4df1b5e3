use Rattle.elim_core.proofs.ColumnOrder.{heavy_peak}
use Rattle.elim_core.proofs.decisions.confirm.Goals as goal

pub returns-in-Err-clause-overflow : goal.returns-in-Err-clause-overflow
returns-in-Err-clause-overflow c = λ t. heavy_peak c.args.system.now c.args.certificate c.requires.found c.in-Err.ensures.answer
