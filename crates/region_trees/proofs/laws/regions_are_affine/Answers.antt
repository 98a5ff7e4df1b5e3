use Rattle.region_trees.proofs.Affine.{nodes_are_affine}
use Rattle.region_trees.proofs.laws.regions_are_affine.Goals as goal

pub returns : goal.returns
returns c = nodes_are_affine
