use Rattle.std.proofs.Common.{◌≡◌, ◌++◌, ◌<◌, ◌^◌, length}
use Rattle.std.specs.List.{All}
use Rattle.row_core.specs.DenseOrder.{numbered_after}
use Rattle.row_core.proofs.numbering.next_numbers.Given as goal

abbrev pub invariant-loop-vector : goal.invariant-loop-vector
invariant-loop-vector l = record {
  done : l.made ++ numbered_after l.former l.numbers l.vector ≡ numbered_after l.fn.former l.fn.numbers l.fn.vector;
  few : All (λ n. n < 2 ^ 32) (numbered_after l.former l.numbers l.vector);
}

abbrev pub decreases-loop-vector : goal.decreases-loop-vector
decreases-loop-vector l = length l.vector
