use Rattle.std.proofs.Common.{◌≡◌, drop}
use Rattle.c_lexer.specs.Tokens.{past_close}
use Rattle.c_lexer.proofs.TokenLemmas.{plus}
use Rattle.c_lexer.proofs.cuts.past_close.Given as goal

abbrev pub invariant-loop-at : goal.invariant-loop-at
invariant-loop-at l = plus l.at (past_close (drop l.at l.text)) ≡ past_close l.text
