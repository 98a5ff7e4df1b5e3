use Rattle.std.proofs.Common.{sym}
use Rattle.c_lexer.proofs.TokenLemmas.{name_moves}
use Rattle.c_lexer.proofs.cuts.token_at.Goals as goal

pub returns-then-begins_name_byte-clause-within : goal.returns-then-begins_name_byte-clause-within
returns-then-begins_name_byte-clause-within c =
    (rw c.word_len.ensures.value (name_moves c.args.text.now (rw (← c.byte-first.ensures) (sym c.if-begins_name_byte.ensures))), c.word_len.ensures.within)
