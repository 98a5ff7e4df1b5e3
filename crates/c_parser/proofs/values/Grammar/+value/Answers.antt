use Rattle.std.proofs.Common.{arith}
use Rattle.c_parser.specs.Values.{below}
use Rattle.c_parser.proofs.Turns.{deeper}
use Rattle.c_parser.proofs.values.Grammar.+value.Goals as goal

pub arm-returns : goal.arm-returns
unfolding below
arm-returns g t c = rw (deeper (λ n. (below n).value c.args.tokens.now) c.args.nests (omega arith)) c.value.ensures
