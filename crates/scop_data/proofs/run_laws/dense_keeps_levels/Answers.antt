use Rattle.scop_data.proofs.DenseOrders.{dense_keeps_levels}
use Rattle.scop_data.proofs.run_laws.dense_keeps_levels.Goals as goal

pub returns : goal.returns
returns c = dense_keeps_levels
