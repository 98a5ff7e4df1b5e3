use Rattle.scop_core.proofs.KeptLimits.{few_vectors}
use Rattle.scop_core.proofs.scops.Scop.dense_betas.Goals as goal

pub dense_vectors-requires : goal.dense_vectors-requires
dense_vectors-requires c = few_vectors _ c.as_slice.result.now c.in_ok-vectors.vectors c.self.invariant c.as_slice.ensures c.in_ok-vectors.ensures
