use Rattle.std.proofs.Common.{◌≡◌, ◌-◌}
use Rattle.c_parser.specs.Values.{equal_rest, signed_from, equal_sign, compare, below}
use Rattle.c_parser.proofs.values.Grammar.equal_rest.Given as goal

abbrev pub invariant-loop-turn : goal.invariant-loop-turn
invariant-loop-turn g l = equal_rest l.nests (below l.nests) l.fn.tokens ≡ signed_from equal_sign (compare l.nests (below l.nests)) (l._turn-end - l._turn) l.rest l.tokens
