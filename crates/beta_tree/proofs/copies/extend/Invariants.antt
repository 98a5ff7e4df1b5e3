use Rattle.std.proofs.Common.{◌≡◌, ◌++◌, drop}
use Rattle.beta_tree.proofs.copies.extend.Given as goal

abbrev pub invariant-loop-entry : goal.invariant-loop-entry
invariant-loop-entry l = l.vector ++ drop l.entry-index l.more ≡ l.initial.vector ++ l.more
