use Rattle.std.proofs.Common.{◌≡◌, length}
use Rattle.scop_reader.specs.Rules.{no_second}
use Rattle.scop_reader.proofs.scop_rules.no_more.Given as goal

abbrev pub invariant-loop-line : goal.invariant-loop-line
invariant-loop-line l = no_second l.fn.cursor ≡ no_second l.ahead

abbrev pub decreases-loop-line : goal.decreases-loop-line
decreases-loop-line l = length l.ahead.lines
