use Rattle.std.proofs.Common.{◌≡◌, ◌+◌, length}
use Rattle.scop_reader.specs.Reading.{numbers_in, is_any}
use Rattle.scop_reader.proofs.NumberRuns.{behind_numbers}
use Rattle.scop_reader.proofs.part_rules.push_entries.Given as goal

abbrev pub invariant-loop-word : goal.invariant-loop-word
invariant-loop-word l = record {
  numbers : numbers_in l.line is_any l.fn.words ≡ behind_numbers l.entries.items (numbers_in l.line is_any l.words);
  size : length l.entries.items + length l.words ≡ length l.fn.words;
}

abbrev pub decreases-loop-word : goal.decreases-loop-word
decreases-loop-word l = length l.words
