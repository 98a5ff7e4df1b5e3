use Rattle.beta_tree.proofs.Stays.{dense_stays as law}
use Rattle.beta_tree.proofs.laws.dense_stays.Goals as goal

pub returns : goal.returns
returns c = law
