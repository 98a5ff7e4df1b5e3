use Rattle.region_trees.proofs.Answered.{answers_are_translated}
use Rattle.region_trees.proofs.laws.answers_are_translated.Goals as goal

pub returns : goal.returns
returns c = answers_are_translated
