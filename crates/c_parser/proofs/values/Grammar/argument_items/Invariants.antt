use Rattle.std.proofs.Common.{◌≡◌, ◌-◌}
use Rattle.c_lexer.specs.declared.symbols.Symbol.TheVariants as s
use Rattle.c_parser.specs.Values.{separated_from, separated, below}
use Rattle.c_parser.proofs.values.Grammar.argument_items.Given as goal

abbrev pub invariant-loop-turn : goal.invariant-loop-turn
invariant-loop-turn g l = separated s.Comma (below l.self.limit).value l.fn.tokens ≡ separated_from s.Comma (below l.self.limit).value (l._turn-end - l._turn) l.items l.tokens
