use Rattle.scop_reader.proofs.GrammarReadBack.{layout_reads_back_law}
use Rattle.scop_reader.proofs.laws.layout_reads_back.Goals as goal

pub returns : goal.returns
returns c = layout_reads_back_law
