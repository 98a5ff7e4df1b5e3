use Rattle.std.proofs.Common.{◌≡◌, length}
use Rattle.suite_base.specs.Lines.{trim_front}
use Rattle.suite_base.proofs.line_cursors.trimmed_front.Given as goal

abbrev pub invariant-loop-line : goal.invariant-loop-line
invariant-loop-line l = trim_front l.line ≡ trim_front l.fn.line

abbrev pub decreases-loop-line : goal.decreases-loop-line
decreases-loop-line l = length l.line
