use Rattle.std.proofs.Common.{◌+◌, ◌*◌}
use Rattle.c_parser.proofs.values.Grammar.+value.Given as goal

abbrev pub decreases-value : goal.decreases-value
decreases-value g l = 3 * l.nests + 2

abbrev pub decreases-arms : goal.decreases-arms
decreases-arms g l = 3 * l.nests + 1

abbrev pub decreases-arm : goal.decreases-arm
decreases-arm g l = 3 * l.nests
