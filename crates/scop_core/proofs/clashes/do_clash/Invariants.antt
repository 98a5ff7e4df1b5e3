use Rattle.std.proofs.Common.{◌≡◌, length}
use Rattle.scop_core.specs.Assembly.{vectors_clash}
use Rattle.scop_core.proofs.clashes.do_clash.Given as goal

abbrev pub invariant-loop-left : goal.invariant-loop-left
invariant-loop-left l = vectors_clash l.left l.right ≡ vectors_clash l.a l.b

abbrev pub decreases-loop-left : goal.decreases-loop-left
decreases-loop-left l = length l.left
