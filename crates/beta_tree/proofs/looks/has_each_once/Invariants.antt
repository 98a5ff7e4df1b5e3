use Rattle.std.proofs.Common.{length, take}
use Rattle.beta_tree.proofs.Marks.{Marked}
use Rattle.beta_tree.proofs.looks.has_each_once.Given as goal

abbrev pub invariant-loop-entry : goal.invariant-loop-entry
invariant-loop-entry l = Marked (length l.order) (take l.entry-index l.order) l.seen
