use Rattle.candl_deps.proofs.DecidedLists.{found_blocks_are_blocks}
use Rattle.candl_deps.proofs.laws.found_blocks_are_blocks.Goals as goal

pub returns : goal.returns
returns c = found_blocks_are_blocks
