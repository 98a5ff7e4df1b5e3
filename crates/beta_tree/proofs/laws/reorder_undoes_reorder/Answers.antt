use Rattle.beta_tree.proofs.Undone.{reorder_undoes_reorder as law}
use Rattle.beta_tree.proofs.laws.reorder_undoes_reorder.Goals as goal

pub returns : goal.returns
returns c = law
