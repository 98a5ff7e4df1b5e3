use Rattle.legality.proofs.KeptMemories.{accepted_edits_keep_memory}
use Rattle.legality.proofs.laws.accepted_edits_keep_memory.Goals as goal

pub returns : goal.returns
returns c = accepted_edits_keep_memory
