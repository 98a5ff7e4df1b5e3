use Rattle.std.proofs.Common.{◌≡◌, length}
use Rattle.dependence_audit.specs.Contents.{contents}
use Rattle.dependence_audit.proofs.content_lines.ContentLines.next.Given as goal

abbrev pub invariant-loop-left : goal.invariant-loop-left
invariant-loop-left l = contents l.left ≡ l.fn.self

abbrev pub decreases-loop-left : goal.decreases-loop-left
decreases-loop-left l = length l.left
