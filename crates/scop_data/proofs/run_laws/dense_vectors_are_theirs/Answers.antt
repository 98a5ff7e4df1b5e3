use Rattle.scop_data.proofs.DenseRuns.{dense_vectors_are_theirs}
use Rattle.scop_data.proofs.run_laws.dense_vectors_are_theirs.Goals as goal

pub returns : goal.returns
returns c = dense_vectors_are_theirs
