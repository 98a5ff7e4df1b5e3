use Rattle.std.proofs.Common.{◌≡◌, ◌-◌}
use Rattle.c_lexer.specs.declared.symbols.Symbol.TheVariants as s
use Rattle.c_parser.specs.Values.{separated_from, separated, below, and_value}
use Rattle.c_parser.proofs.values.Grammar.or_value_items.Given as goal

abbrev pub invariant-loop-turn : goal.invariant-loop-turn
invariant-loop-turn g l = separated s.Or (and_value l.nests (below l.nests)) l.fn.tokens ≡ separated_from s.Or (and_value l.nests (below l.nests)) (l._turn-end - l._turn) l.items l.tokens
