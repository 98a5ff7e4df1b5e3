use Rattle.scop_data.proofs.MappedRuns.{nothing_reversed_keeps_memory}
use Rattle.scop_data.proofs.run_laws.nothing_reversed_keeps_memory.Goals as goal

pub returns : goal.returns
returns c = nothing_reversed_keeps_memory
