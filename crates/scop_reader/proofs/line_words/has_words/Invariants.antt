use Rattle.std.proofs.Common.{◌≡◌, ◌+◌, length}
use Rattle.scop_reader.specs.Lines.{words_of}
use Rattle.scop_reader.proofs.line_words.has_words.Given as goal

abbrev pub invariant-loop-turn : goal.invariant-loop-turn
invariant-loop-turn l = length (words_of l.fn.line.bytes) ≡ l._turn + length l.words
