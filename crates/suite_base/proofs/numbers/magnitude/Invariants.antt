use Rattle.std.proofs.Common.{◌≡◌, ◌<◌, ◌^◌, true, length}
use Rattle.suite_base.specs.Numbers.{all_digits, digits_after}
use Rattle.suite_base.proofs.numbers.magnitude.Given as goal

abbrev pub invariant-loop-rest : goal.invariant-loop-rest
invariant-loop-rest l = record {
  only_digits : all_digits l.rest ≡ true;
  so_far : digits_after l.size l.rest ≡ digits_after 0 l.fn.digits;
  small : l.size < 2 ^ 127;
}

abbrev pub decreases-loop-rest : goal.decreases-loop-rest
decreases-loop-rest l = length l.rest
