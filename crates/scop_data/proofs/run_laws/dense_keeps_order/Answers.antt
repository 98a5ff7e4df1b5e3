use Rattle.scop_data.proofs.DenseOrders.{dense_keeps_order}
use Rattle.scop_data.proofs.run_laws.dense_keeps_order.Goals as goal

pub returns : goal.returns
returns c = dense_keeps_order
