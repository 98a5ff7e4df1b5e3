use Rattle.c_lexer.proofs.TokenLaws.{no_token_missed}
use Rattle.c_lexer.proofs.laws.no_token_is_missed.Goals as goal

pub returns : goal.returns
returns c = no_token_missed
