use Rattle.std.proofs.Common.{rules}
use Rattle.beta_tree.proofs.Steps.{longer_at}
use Rattle.beta_tree.proofs.rebuilds.level_all.Goals as goal

pub level_vector-requires : goal.level_vector-requires
level_vector-requires c = longer_at _ _ _ _ _ c.vector-item.result c.loop-vector.invariant.longer c.loop-vector-test.true (search rules)
