use Rattle.std.proofs.Common.{◌≡◌, ◌≤◌, drop, length}
use Rattle.suite_base.specs.Words.{words}
use Rattle.scop_data.specs.LineWords.{are_numbers}
use Rattle.dependence_audit.proofs.comparing.numbers_are.Given as goal

abbrev pub invariant-loop-number : goal.invariant-loop-number
invariant-loop-number l = record {
  within : l.at ≤ length l.line;
  left : are_numbers (words (drop l.at l.line)) (drop l.number-index l.numbers) ≡ are_numbers (words (drop l.fn.from l.line)) l.numbers;
}
