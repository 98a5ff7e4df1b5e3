use Rattle.std.proofs.Common.{◌≡◌, ◌-◌, []}
use Rattle.c_parser.specs.Values.{product_rest, signed_from, product_sign, unary, below}
use Rattle.c_parser.proofs.values.Grammar.product_rest.Given as goal

abbrev pub invariant-loop-turn : goal.invariant-loop-turn
invariant-loop-turn g l = product_rest l.nests (below l.nests) l.fn.tokens ≡ signed_from product_sign (unary l.nests (below l.nests) []) (l._turn-end - l._turn) l.rest l.tokens
