use Rattle.std.proofs.Common.{◌≡◌, ◌≤◌, drop, length, map}
use Rattle.suite_base.specs.Words.{words}
use Rattle.scop_data.specs.LineWords.{are_same}
use Rattle.dependence_audit.proofs.comparing.words_are.Given as goal

abbrev pub invariant-loop-word : goal.invariant-loop-word
invariant-loop-word l = record {
  within : l.from ≤ length l.line;
  left : are_same (words (drop l.from l.line)) (map (λ word. word.now) (drop l.word-index l.expected)) ≡ are_same (words l.line) (map (λ word. word.now) l.expected);
}
