use Rattle.beta_tree.proofs.Undone.{answers_are_trees as law}
use Rattle.beta_tree.proofs.laws.answers_are_trees.Goals as goal

pub returns : goal.returns
returns c = law
