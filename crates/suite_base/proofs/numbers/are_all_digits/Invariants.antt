use Rattle.std.proofs.Common.{◌≡◌, length}
use Rattle.suite_base.specs.Numbers.{all_digits}
use Rattle.suite_base.proofs.numbers.are_all_digits.Given as goal

abbrev pub invariant-loop-rest : goal.invariant-loop-rest
invariant-loop-rest l = all_digits l.rest ≡ all_digits l.fn.digits

abbrev pub decreases-loop-rest : goal.decreases-loop-rest
decreases-loop-rest l = length l.rest
