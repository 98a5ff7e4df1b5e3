use Rattle.std.proofs.Common.{◌≡◌, ◌+◌, drop}
use Rattle.c_lexer.specs.Tokens.{number_len}
use Rattle.c_lexer.proofs.cuts.number_len.Given as goal

abbrev pub invariant-loop-at : goal.invariant-loop-at
invariant-loop-at l = l.at + number_len l.before (drop l.at l.text) ≡ number_len 0 l.text
