use Rattle.std.proofs.Common.{◌≡◌, length}
use Rattle.scop_reader.proofs.ReadingLemmas.{said}
use Rattle.scop_reader.proofs.cursors.Cursor.next_said_line.Given as goal

abbrev pub invariant-loop-line : goal.invariant-loop-line
invariant-loop-line l = said l.fn.self ≡ said l.self

abbrev pub decreases-loop-line : goal.decreases-loop-line
decreases-loop-line l = length l.self.lines
