use Rattle.c_lexer.proofs.TokenLaws.{tokens_longest}
use Rattle.c_lexer.proofs.laws.tokens_are_longest.Goals as goal

pub returns : goal.returns
returns c = tokens_longest
