use Rattle.std.proofs.Common.{◌≡◌, ◌-◌}
use Rattle.c_parser.specs.Values.{sum_rest, signed_from, sum_sign, product, below}
use Rattle.c_parser.proofs.values.Grammar.sum_rest.Given as goal

abbrev pub invariant-loop-turn : goal.invariant-loop-turn
invariant-loop-turn g l = sum_rest l.nests (below l.nests) l.fn.tokens ≡ signed_from sum_sign (product l.nests (below l.nests)) (l._turn-end - l._turn) l.rest l.tokens
