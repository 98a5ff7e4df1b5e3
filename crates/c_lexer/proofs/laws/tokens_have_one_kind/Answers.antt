use Rattle.c_lexer.proofs.TokenForms.{one_kind}
use Rattle.c_lexer.proofs.laws.tokens_have_one_kind.Goals as goal

pub returns : goal.returns
returns c = one_kind
