use Rattle.std.proofs.Common.{arith}
use Rattle.c_lexer.proofs.NumberLemmas.{soon_large}
use Rattle.c_lexer.proofs.symbols.is_too_large.Goals as goal

pub returns-then-value : goal.returns-then-value
returns-then-value c = soon_large c.loop-b.value c.loop-b.b-index c.args.digits.now (omega arith) (omega arith) c.loop-b.invariant
