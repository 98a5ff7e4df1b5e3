use Rattle.std.proofs.Common.{◌≡◌, drop}
use Rattle.c_lexer.specs.Symbols.{value_from}
use Rattle.c_lexer.proofs.symbols.is_too_large.Given as goal

abbrev pub invariant-loop-b : goal.invariant-loop-b
invariant-loop-b l = value_from l.value (drop l.b-index l.digits) ≡ value_from 0 l.digits
