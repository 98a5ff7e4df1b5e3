use Rattle.std.proofs.Common.{rules, arith, inl, inr}
use Rattle.std.proofs.lemmas.Grind.{common_steps}
use Rattle.c_lexer.specs.Symbols.{name_symbol}
use Rattle.c_lexer.proofs.WordLemmas.{free_name}
use Rattle.c_lexer.proofs.symbols.name_symbol.Goals as goal

pub returns : goal.returns
unfolding name_symbol
returns c = first_of (search rules, grind (arith, common_steps))

pub returns-then-text-lt-SHORTEST_WORD : goal.returns-then-text-lt-SHORTEST_WORD
returns-then-text-lt-SHORTEST_WORD c = free_name c.args.text.now (inl c.if-text-lt-SHORTEST_WORD.true)

pub returns-then-text-gt-LONGEST_WORD : goal.returns-then-text-gt-LONGEST_WORD
returns-then-text-gt-LONGEST_WORD c = free_name c.args.text.now (inr c.if-text-gt-LONGEST_WORD.true)
