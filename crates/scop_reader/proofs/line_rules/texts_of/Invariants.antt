use Rattle.std.proofs.Common.{◌≡◌, ◌++◌, length}
use Rattle.scop_reader.specs.Lines.{words_of, word_bytes}
use Rattle.scop_reader.proofs.line_rules.texts_of.Given as goal

abbrev pub invariant-loop-word : goal.invariant-loop-word
invariant-loop-word l = l.made ++ word_bytes l.words ≡ word_bytes (words_of l.fn.line.bytes)

abbrev pub decreases-loop-word : goal.decreases-loop-word
decreases-loop-word l = length l.words
