use Rattle.std.proofs.Common.{◌≡◌, length}
use Rattle.scop_reader.specs.Rules.{opening}
use Rattle.scop_reader.proofs.scop_rules.opening.Given as goal

abbrev pub invariant-loop-line : goal.invariant-loop-line
invariant-loop-line l = opening l.fn.cursor ≡ opening l.cursor

abbrev pub decreases-loop-line : goal.decreases-loop-line
decreases-loop-line l = length l.cursor.lines
