use Rattle.scop_reader.proofs.GrammarProper.{reads_exactly_law}
use Rattle.scop_reader.proofs.laws.reads_exactly.Goals as goal

pub returns : goal.returns
returns c = reads_exactly_law
