use Rattle.c_lexer.proofs.Gaps.{gaps_separate}
use Rattle.c_lexer.proofs.laws.gaps_are_separators.Goals as goal

pub returns : goal.returns
returns c = gaps_separate
