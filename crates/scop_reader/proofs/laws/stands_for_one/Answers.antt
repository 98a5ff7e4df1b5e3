use Rattle.scop_reader.proofs.GrammarProper.{stands_for_one_law}
use Rattle.scop_reader.proofs.laws.stands_for_one.Goals as goal

pub returns : goal.returns
returns c = stands_for_one_law
