use Rattle.std.proofs.Common.{arith}
use Rattle.c_parser.specs.Values.{below}
use Rattle.c_parser.proofs.Turns.{deeper}
use Rattle.c_parser.proofs.values.Grammar.inner_value.Goals as goal

pub returns : goal.returns
unfolding below
returns g c = rw (deeper (λ n. (below n).value c.args.tokens.now) c.args.self.now.limit (omega arith)) c.value.ensures
