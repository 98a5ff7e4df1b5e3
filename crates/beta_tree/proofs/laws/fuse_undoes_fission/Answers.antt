use Rattle.beta_tree.proofs.Undone.{fuse_undoes_fission as law}
use Rattle.beta_tree.proofs.laws.fuse_undoes_fission.Goals as goal

pub returns : goal.returns
returns c = law
