use Rattle.scop_reader.proofs.GrammarReadBack.{texts_read_back_law}
use Rattle.scop_reader.proofs.laws.texts_read_back.Goals as goal

pub returns : goal.returns
returns c = texts_read_back_law
