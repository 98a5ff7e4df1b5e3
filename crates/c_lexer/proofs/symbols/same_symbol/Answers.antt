use Rattle.std.proofs.Common.{rules}
use Rattle.c_lexer.specs.Symbols.{same_symbol}
use Rattle.c_lexer.proofs.symbols.same_symbol.Goals as goal

pub returns-clause-value : goal.returns-clause-value
unfolding same_symbol
returns-clause-value c = search rules
