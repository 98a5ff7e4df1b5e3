use Rattle.std.proofs.Common.{◌≡◌, ◌-◌}
use Rattle.c_parser.specs.Values.{compare_rest, signed_from, rel_sign, sum, below}
use Rattle.c_parser.proofs.values.Grammar.compare_rest.Given as goal

abbrev pub invariant-loop-turn : goal.invariant-loop-turn
invariant-loop-turn g l = compare_rest l.nests (below l.nests) l.fn.tokens ≡ signed_from rel_sign (sum l.nests (below l.nests)) (l._turn-end - l._turn) l.rest l.tokens
