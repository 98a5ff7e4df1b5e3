use Rattle.std.proofs.Common.{◌≡◌, ◌++◌, drop}
use Rattle.row_core.proofs.numbering.copied.Given as goal

abbrev pub invariant-loop-number : goal.invariant-loop-number
invariant-loop-number l = l.made ++ drop l.number-index l.numbers ≡ l.numbers
