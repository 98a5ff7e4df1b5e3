use Rattle.std.proofs.Common.{◌≡◌, ◌++◌, drop, map}
use Rattle.row_core.proofs.numbering.with_zeros.Given as goal

abbrev pub invariant-loop-entry : goal.invariant-loop-entry
invariant-loop-entry l = l.made ++ map (λ _. 0) (drop l._entry-index l.vector) ≡ l.fn.numbers ++ map (λ _. 0) l.vector
