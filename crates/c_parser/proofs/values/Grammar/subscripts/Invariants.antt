use Rattle.std.proofs.Common.{◌≡◌, ◌-◌}
use Rattle.c_parser.specs.Values.{subscripts, subscripts_from, below}
use Rattle.c_parser.proofs.values.Grammar.subscripts.Given as goal

abbrev pub invariant-loop-turn : goal.invariant-loop-turn
invariant-loop-turn g l = subscripts l.self.limit (below l.self.limit) l.fn.tokens ≡ subscripts_from l.self.limit (below l.self.limit) (l._turn-end - l._turn) l.found l.tokens
